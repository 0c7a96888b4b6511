use Rattle.std.proofs.Common.{◌≡◌, drop}
use Rattle.std.specs.List.{list_any}
use Rattle.book_sessions.specs.TableTexts.{has_unverified}
use Rattle.scope_sessions.proofs.foreign.have_unverified.Given as goal

abbrev pub invariant-loop-number : goal.invariant-loop-number
invariant-loop-number l = list_any (has_unverified l.index.uses) (drop l.number-index l.numbers) ≡ list_any (has_unverified l.index.uses) l.numbers
