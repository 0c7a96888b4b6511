use Rattle.std.proofs.Common.{◌≡◌, ◌+◌, ◌++◌, drop}
use Rattle.toml.specs.View.{items_view}
use Rattle.book_scope_texts.specs.FileFindings.{rows_findings_from}
use Rattle.scope_keys.proofs.fields.push_each_row.Given as goal

abbrev pub invariant-loop-i : goal.invariant-loop-i
invariant-loop-i l =
    l.findings.items ++ rows_findings_from l.node.number (l.i + 1) l.node.called (items_view (drop l.i l.values))
    ≡ l.fn.findings.items ++ rows_findings_from l.node.number 1 l.node.called (items_view l.values)
