use Rattle.book_scope_texts.specs.RowFindings.{name_findings}
use Rattle.scope_texts.proofs.FindingLaws.{three_found}
use Rattle.scope_texts.proofs.columns.push_names.Goals as goal

pub returns : goal.returns
unfolding name_findings
returns c =
    three_found c.push_id-2.result c.args.findings.now.items c.push_column.new.findings.items c.push_id.new.findings.items c.push_id-2.new.findings.items _ _ _
    (rw c.is_admin_at.ensures at c.in_ok-push_column.ensures) c.in_ok-push_id.ensures c.push_id-2.ensures
