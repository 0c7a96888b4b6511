use Rattle.std.specs.Prelude.{codes}
use Rattle.book_scope_plan.specs.Reconfiguring.{no_switch_line}
use Rattle.plan_texts.proofs.Parts.{five}
use Rattle.scope_plan.proofs.reconfiguring.push_no_switch.Goals as goal

pub returns : goal.returns
unfolding no_switch_line
returns c =
    five c.args.out.now.items (codes "  at no time can ") c.args.facing.now.node.now.name (codes " be reconfigured: ") c.args.facing.now.other.now.name (codes " doesn't accept both rows for long enough\n")
    c.extend_from_slice.new.self.items c.push_node.new.out.items c.extend_from_slice-2.new.self.items c.push_other.new.out.items _
    c.in_ok-extend_from_slice.ensures.items c.in_ok-push_node.ensures c.in_ok-extend_from_slice-2.ensures.items c.in_ok-push_other.ensures c.in_ok-extend_from_slice-3.ensures.items
