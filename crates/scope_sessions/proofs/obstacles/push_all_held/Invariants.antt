use Rattle.std.proofs.Common.{◌≡◌, ◌++◌, drop}
use Rattle.std.specs.List.{flat_map}
use Rattle.book_sessions.specs.KeyLines.{held_line_at}
use Rattle.scope_sessions.proofs.obstacles.push_all_held.Given as goal

abbrev pub invariant-loop-one : goal.invariant-loop-one
invariant-loop-one l = l.out.items ++ flat_map (held_line_at l.evidence l.table l.number l.row) (drop l.one-index l.evidence.live) ≡ l.fn.out.items ++ flat_map (held_line_at l.evidence l.table l.number l.row) l.evidence.live
