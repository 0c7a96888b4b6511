use Rattle.packet_check.proofs.ContentLaws.{other_said}
use Rattle.packet_check.proofs.checked.say_other.Goals as goal

pub returns : goal.returns
returns c = λ tables. other_said tables c.args.why c.args.line.now.items _ _ c.class_without.result c.in_ok-push_dashes.ensures c.in_ok-push_other.ensures c.class_without.ensures
