use Rattle.std.specs.Prelude.{codes, decimal}
use Rattle.book_scope_plan.specs.DifferenceTexts.{no_id_line}
use Rattle.plan_texts.proofs.Parts.{five}
use Rattle.scope_plan.proofs.refused.push_no_id.Goals as goal

pub returns : goal.returns
unfolding no_id_line
returns c =
    five c.args.out.now.items (codes "    ") c.args.name.now (codes " has no row for KeyID ") (decimal c.args.row.now.send_id) (codes "\n")
    c.extend_from_slice.new.self.items c.extend_from_slice-2.new.self.items c.extend_from_slice-3.new.self.items c.push_sent.new.out.items _
    c.in_ok-extend_from_slice.ensures.items c.in_ok-extend_from_slice-2.ensures.items c.in_ok-extend_from_slice-3.ensures.items c.in_ok-push_sent.ensures c.in_ok-extend_from_slice-4.ensures.items
