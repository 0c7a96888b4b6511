use Rattle.std.proofs.Common.{◌≡◌, ◌+◌, ◌++◌, [], drop}
use Rattle.toml.specs.View.{items_view}
use Rattle.book_scope_texts.specs.FileFindings.{nodes_findings_from}
use Rattle.scope_keys.proofs.nodes.push_each_node.Given as goal

abbrev pub invariant-loop-i : goal.invariant-loop-i
invariant-loop-i l =
    l.findings.items ++ nodes_findings_from (l.i + 1) l.seen.names.items l.seen.addresses.items (items_view (drop l.i l.values))
    ≡ l.fn.findings.items ++ nodes_findings_from 1 [] [] (items_view l.values)
