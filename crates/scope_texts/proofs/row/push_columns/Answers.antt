use Rattle.book_scope_texts.specs.RowFindings.{column_findings, peers_findings, secret_findings}
use Rattle.scope_texts.proofs.FindingLaws.{eight_found, found_in}
use Rattle.scope_texts.proofs.row.push_columns.Goals as goal

pub returns : goal.returns
unfolding column_findings
returns c =
    eight_found c.args.findings.now.items c.push_names.new.findings.items c.push_peers.new.findings.items c.push_protocol.new.findings.items c.push_algorithm.new.findings.items
    c.push_secret.new.findings.items c.push_terms.new.findings.items c.push_port.new.findings.items c.push_port-2.new.findings.items _ _ _ _ _ _ _ _
    c.in_ok-push_names.ensures
    (found_in (λ d. peers_findings c.args.place.now d) _ _ c.push_names.new.findings.items c.push_peers.new.findings.items c.member_at.ensures c.in_ok-push_peers.ensures)
    c.in_ok-push_protocol.ensures c.in_ok-push_algorithm.ensures
    (found_in (λ d. secret_findings c.args.place.now d) _ _ c.push_algorithm.new.findings.items c.push_secret.new.findings.items c.member_at-2.ensures c.in_ok-push_secret.ensures)
    c.in_ok-push_terms.ensures c.in_ok-push_port.ensures c.in_ok-push_port-2.ensures
