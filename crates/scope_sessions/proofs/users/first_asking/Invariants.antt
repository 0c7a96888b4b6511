use Rattle.std.proofs.Common.{◌≡◌, drop}
use Rattle.std.specs.List.{find}
use Rattle.book_sessions.specs.KeyLines.{asks_still}
use Rattle.scope_sessions.proofs.users.first_asking.Given as goal

abbrev pub invariant-loop-one : goal.invariant-loop-one
invariant-loop-one l = find (asks_still l.evidence l.table l.number l.row) (drop l.one-index l.evidence.live) ≡ find (asks_still l.evidence l.table l.number l.row) l.evidence.live
