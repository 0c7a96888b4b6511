use Rattle.packet_check.proofs.ContentLaws.{segment_checked}
use Rattle.packet_check.proofs.checked.check_segment.Goals as goal

pub returns-clause-checks : goal.returns-clause-checks
returns-clause-checks g c = λ held s read time stands.
    let tables = c.args.checker.now.tables in
    let H = c.in_ok-said.ensures.heard held stands in
    segment_checked tables held s c.args.datagram.now c.args.time _ c.in_ok-said.said c.args.line.now.items _ _ c.is_foreign_segment-foreign.result c.is_pass.result c.class_by.result
    read time H c.in_ok-push_columns.ensures c.in_ok-push_said.ensures (rw (c.tables.ensures, c.in_ok-said.ensures.tables) at c.is_foreign_segment-foreign.ensures) c.is_pass.ensures c.class_by.ensures
