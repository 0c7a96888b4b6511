use Rattle.std.proofs.Common.{◌≡◌, drop}
use Rattle.std.specs.List.{list_any}
use Rattle.book_sessions.specs.Retiring.{shows_peer}
use Rattle.capture_listener.proofs.peers.sees_peer.Given as goal

abbrev pub invariant-loop-one : goal.invariant-loop-one
invariant-loop-one l = list_any (shows_peer l.evidence.uses l.table l.row l.peer) (drop l.one-index l.evidence.live) ≡ list_any (shows_peer l.evidence.uses l.table l.row l.peer) l.evidence.live
