use Rattle.draw_session_rungs.proofs.Parts.{long_names}
use Rattle.draw_session_rungs.proofs.lines.push_both_names.Goals as goal

pub returns-in_ok-push : goal.returns-in_ok-push
returns-in_ok-push c =
    long_names c.push_names.result c.args.out.now.items c.args.left.now c.args.right.now c.extend_from_slice.new.self.items c.push.new.self.items c.push_names.new.out.items
    c.if-left-gt27.true c.in_ok-extend_from_slice.ensures.items c.in_ok-push.ensures.items c.push_names.ensures
