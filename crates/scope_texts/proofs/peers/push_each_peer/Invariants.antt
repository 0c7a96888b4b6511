use Rattle.std.proofs.Common.{◌≡◌, ◌++◌, drop}
use Rattle.toml.specs.View.{items_view}
use Rattle.book_scope_texts.specs.RowFindings.{each_peer_finding}
use Rattle.scope_texts.proofs.peers.push_each_peer.Given as goal

abbrev pub invariant-loop-value : goal.invariant-loop-value
invariant-loop-value l =
    l.findings.items ++ each_peer_finding l.place (items_view (drop l.value-index l.values))
    ≡ l.fn.findings.items ++ each_peer_finding l.place (items_view l.values)
