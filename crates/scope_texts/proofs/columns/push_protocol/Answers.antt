use Rattle.book_scope_texts.specs.RowFindings.{protocol_findings}
use Rattle.scope_texts.proofs.FindingLaws.{three_found}
use Rattle.scope_texts.proofs.columns.push_protocol.Goals as goal

pub returns : goal.returns
unfolding protocol_findings
returns c =
    three_found c.push_column-3.result c.args.findings.now.items c.push_column.new.findings.items c.push_column-2.new.findings.items c.push_column-3.new.findings.items _ _ _
    (rw c.is_everywhere.ensures at c.in_ok-push_column.ensures)
    (rw c.is_word_at.ensures at c.in_ok-push_column-2.ensures)
    (rw (c.is_some.ensures, c.options_at.ensures) at c.push_column-3.ensures)
