use Rattle.draw_ladder.proofs.SightLaws.{raised}
use Rattle.draw_ladder.proofs.fates.Seen.raise.Goals as goal

pub returns-clause-newest : goal.returns-clause-newest
returns-clause-newest c = λ end. rw (c.max.ensures, c.at_mut-newest.ensures.value) (raised c.args.delivery.at end c.args.delivery.name c.args.self.now.newest)
