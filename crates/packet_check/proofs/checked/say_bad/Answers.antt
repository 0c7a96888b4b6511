use Rattle.packet_check.proofs.ContentLaws.{bad_said}
use Rattle.packet_check.proofs.checked.say_bad.Goals as goal

pub returns : goal.returns
returns c = λ tables s is.
    bad_said tables s c.args.fault c.told_fault.result c.args.bytes.now c.args.line.now.items _ _ c.class_without.result is c.told_fault.ensures c.in_ok-push_dashes.ensures c.in_ok-push_said.ensures c.class_without.ensures
