use Rattle.std.proofs.Common.{refl}
use Rattle.aotcp_c.proofs.status.is_overdue.Goals as goal

pub returns-in-Some-clause-told : goal.returns-in-Some-clause-told
returns-in-Some-clause-told c = λ s at. rw (← c.pair_of.ensures.told, c.in-Some.is) (refl, c.is_overdue.ensures s at.counts at.stands)
