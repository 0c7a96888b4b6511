use Rattle.std.proofs.Common.{◌≡◌, ◌+◌, drop}
use Rattle.book_sessions.specs.Foreign.{segments_of}
use Rattle.scope_sessions.proofs.foreign.segments_of.Given as goal

abbrev pub invariant-loop-number : goal.invariant-loop-number
invariant-loop-number l = l.count + segments_of l.index.uses (drop l.number-index l.numbers) ≡ segments_of l.index.uses l.numbers
