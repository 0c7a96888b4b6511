use Rattle.std.specs.Prelude.{codes, decimal}
use Rattle.book_scope_plan.specs.DifferenceTexts.{ids_end, ids_text}
use Rattle.plan_texts.proofs.Parts.{five}
use Rattle.scope_plan.proofs.columns.push_ids.Goals as goal

pub returns : goal.returns
unfolding ids_text
returns c =
    five c.args.out.now.items (codes "KeyID: sent ") (decimal c.args.row.now.send_id) (codes ", received ") (decimal c.args.other.now.recv_id) (ids_end c.args.exchanged)
    c.extend_from_slice.new.self.items c.push_sent.new.out.items c.extend_from_slice-2.new.self.items c.push_received.new.out.items _
    c.in_ok-extend_from_slice.ensures.items c.in_ok-push_sent.ensures c.in_ok-extend_from_slice-2.ensures.items c.in_ok-push_received.ensures c.in_ok-push_ids_end.ensures
