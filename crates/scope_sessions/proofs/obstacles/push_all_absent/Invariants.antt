use Rattle.std.proofs.Common.{◌≡◌, ◌++◌, drop}
use Rattle.std.specs.List.{flat_map}
use Rattle.book_sessions.specs.KeyLines.{absent_line}
use Rattle.scope_sessions.proofs.obstacles.push_all_absent.Given as goal

abbrev pub invariant-loop-peer : goal.invariant-loop-peer
invariant-loop-peer l = l.out.items ++ flat_map (absent_line l.evidence l.table l.row l.without) (drop l.peer-index l.row.peers) ≡ l.fn.out.items ++ flat_map (absent_line l.evidence l.table l.row l.without) l.row.peers
