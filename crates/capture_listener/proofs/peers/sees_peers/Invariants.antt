use Rattle.std.proofs.Common.{◌≡◌, drop}
use Rattle.std.specs.List.{list_all, list_any}
use Rattle.book_sessions.specs.Retiring.{shows_peer}
use Rattle.capture_listener.proofs.peers.sees_peers.Given as goal

abbrev pub invariant-loop-peer : goal.invariant-loop-peer
invariant-loop-peer l = list_all (λ p. list_any (shows_peer l.evidence.uses l.table l.row p) l.evidence.live) (drop l.peer-index l.row.peers)
    ≡ list_all (λ p. list_any (shows_peer l.evidence.uses l.table l.row p) l.evidence.live) l.row.peers
