use Rattle.book_scope_texts.specs.RowFindings.{algorithm_findings}
use Rattle.scope_texts.proofs.FindingLaws.{two_found}
use Rattle.scope_texts.proofs.columns.push_algorithm.Goals as goal

pub returns : goal.returns
unfolding algorithm_findings
returns c =
    two_found c.push_alg_id.result c.args.findings.now.items c.push_column.new.findings.items c.push_alg_id.new.findings.items _ _
    (rw (c.is_some.ensures, c.kdf_at-kdf.ensures) at c.in_ok-push_column.ensures)
    (rw c.kdf_at-kdf.ensures at c.push_alg_id.ensures)
