use Rattle.std.proofs.Common.{Option, ap, ◌∙◌}
use Rattle.std.specs.Prelude.{is_some}
use Rattle.book_stack.specs.declared.tally.Tally.{Tally}
use Rattle.ao_stack.proofs.counted_stack.CountedStack.counters.Goals as goal

pub returns-clause-tally : goal.returns-clause-tally
returns-clause-tally c s n S = c.get.ensures ∙ S.pairs c.args.pair.now

pub returns-clause-held : goal.returns-clause-held
returns-clause-held c s n S = ap (λ (o : Option Tally). is_some o) (c.get.ensures ∙ S.pairs c.args.pair.now) ∙ S.held c.args.pair.now
