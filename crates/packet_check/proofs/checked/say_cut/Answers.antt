use Rattle.packet_check.proofs.ContentLaws.{cut_said}
use Rattle.packet_check.proofs.checked.say_cut.Goals as goal

pub returns : goal.returns
returns c = λ s.
    cut_said c.args.tables.now s c.args.datagram.now c.args.fault c.args.line.now.items _ _ c.is_foreign_segment.result c.class_by.result c.in_ok-push_columns.ensures c.in_ok-push_said.ensures c.is_foreign_segment.ensures c.class_by.ensures
