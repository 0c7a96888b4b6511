use Rattle.std.proofs.Common.{◌≡◌, drop}
use Rattle.std.specs.List.{list_all}
use Rattle.book_sessions.specs.Retiring.{leaves_use}
use Rattle.capture_listener.proofs.left.all_left.Given as goal

abbrev pub invariant-loop-one : goal.invariant-loop-one
invariant-loop-one l = list_all (leaves_use l.tables l.table l.row l.evidence.latest) (drop l.one-index l.evidence.live) ≡ list_all (leaves_use l.tables l.table l.row l.evidence.latest) l.evidence.live
