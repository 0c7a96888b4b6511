use Rattle.packet_check.proofs.SayingLaws.{words_put}
use Rattle.packet_check.proofs.saying.push_said.Goals as goal

pub returns : goal.returns
returns c = λ s says.
    words_put c.extend_from_slice.result c.args.out.now.items c.push_check_line.new.out.items c.behind_first.result.now c.extend_from_slice.new.self.items _ (rw c.new-line.ensures.items at (c.in_ok-push_check_line.ensures s says))
    (rw c.as_slice.ensures.value at c.behind_first.ensures) c.extend_from_slice.ensures.items
