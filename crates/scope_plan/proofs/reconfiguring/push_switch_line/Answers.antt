use Rattle.std.specs.Prelude.{codes, decimal}
use Rattle.book_scope_plan.specs.FindingTexts.{times_text}
use Rattle.book_scope_plan.specs.Reconfiguring.{switch_line}
use Rattle.scope_plan.proofs.PartLaws.{nine}
use Rattle.scope_plan.proofs.reconfiguring.push_switch_line.Goals as goal

pub returns : goal.returns
unfolding switch_line
returns c =
    nine c.args.out.now.items (codes "  or reconfigure ") c.args.facing.now.node.now.name (codes " from row ") (decimal c.args.old) (codes " to row ") (decimal c.args.new) (codes " at a time from ") (times_text c.args.span.first c.args.span.last) (codes ", accepting both throughout\n")
    c.extend_from_slice.new.self.items c.push_node.new.out.items c.extend_from_slice-2.new.self.items c.push_number.new.out.items c.extend_from_slice-3.new.self.items c.push_number-2.new.out.items c.extend_from_slice-4.new.self.items c.push_times.new.out.items _
    c.in_ok-extend_from_slice.ensures.items c.in_ok-push_node.ensures c.in_ok-extend_from_slice-2.ensures.items c.in_ok-push_number.ensures c.in_ok-extend_from_slice-3.ensures.items c.in_ok-push_number-2.ensures c.in_ok-extend_from_slice-4.ensures.items c.in_ok-push_times.ensures c.in_ok-extend_from_slice-5.ensures.items
