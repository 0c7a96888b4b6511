use Rattle.std.proofs.Common.{◌≡◌, ◌++◌, drop}
use Rattle.std.specs.List.{flat_map}
use Rattle.book_sessions.specs.KeyLines.{lacking_line}
use Rattle.scope_sessions.proofs.obstacles.push_all_lacking.Given as goal

abbrev pub invariant-loop-one : goal.invariant-loop-one
invariant-loop-one l = l.out.items ++ flat_map (lacking_line l.evidence l.tables l.table l.row) (drop l.one-index l.evidence.live) ≡ l.fn.out.items ++ flat_map (lacking_line l.evidence l.tables l.table l.row) l.evidence.live
