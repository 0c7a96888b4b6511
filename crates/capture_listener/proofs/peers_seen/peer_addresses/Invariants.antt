use Rattle.std.proofs.Common.{◌≡◌, ◌≤◌, None, drop, length}
use Rattle.book_sessions.specs.Peers.{addresses_of, peer_address}
use Rattle.book_sessions.specs.Retiring.{shows_peer}
use Rattle.capture_listener.proofs.peers_seen.peer_addresses.Given as goal

abbrev pub invariant-loop-left : goal.invariant-loop-left
invariant-loop-left l = record {
  within : l.left ≤ length l.live;
  found : l.found.items ≡ addresses_of (shows_peer l.evidence.uses l.table l.row None) (peer_address l.table l.row) (drop l.left l.live);
}

abbrev pub decreases-loop-left : goal.decreases-loop-left
decreases-loop-left l = l.left
