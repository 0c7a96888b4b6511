use Rattle.book_scope_texts.specs.RowFindings.{term_findings}
use Rattle.scope_texts.proofs.FindingLaws.{three_found}
use Rattle.scope_texts.proofs.times.push_terms.Goals as goal

pub returns : goal.returns
unfolding term_findings
returns c =
    three_found c.push_lifetime-2.result c.args.findings.now.items c.push_column.new.findings.items c.push_lifetime.new.findings.items c.push_lifetime-2.new.findings.items _ _ _
    (rw (c.is_some.ensures, c.direction_at.ensures) at c.in_ok-push_column.ensures) c.in_ok-push_lifetime.ensures c.push_lifetime-2.ensures
