use Rattle.std.proofs.Common.{refl}
use Rattle.scope_why.specs.Replies.{key_file_of}
use Rattle.scope_why.proofs.FrontLaws.{segment_answered}
use Rattle.scope_why.proofs.answer.answer_segment.Goals as goal

pub returns : goal.returns
returns g c = λ b bytes stands read.
    segment_answered (key_file_of c.args.question.now c.args.checker.now.tables) b c.args.question.now.with_key c.args.unset (record { number = c.args.number; time = c.args.time; bytes = bytes }) c.args.datagram.now
    c.push_segment_line.new.out.items c.push_unset.new.out.items c.push_said_and_why.new.out.items (record { text = c.push_said_and_why.new.out; passes = c.in_ok-passes.passes }) c.in_ok-passes.passes
    read (rw c.new-text.ensures.items at (c.in_ok-push_segment_line.ensures bytes)) c.in_ok-push_unset.ensures (c.in_ok-passes.ensures b c.args.number bytes stands read) refl refl
