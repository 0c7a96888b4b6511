use Rattle.std.specs.Prelude.{codes, decimal}
use Rattle.book_scope_plan.specs.DifferenceTexts.{port_text}
use Rattle.scope_plan.proofs.PartLaws.{six}
use Rattle.scope_plan.proofs.columns.push_port.Goals as goal

pub returns : goal.returns
unfolding port_text
returns c =
    six c.args.out.now.items c.args.column.now (codes ": ") (decimal c.args.one) (codes ", the connection has ") (decimal c.args.connected) (codes "\n")
    c.extend_from_slice.new.self.items c.extend_from_slice-2.new.self.items c.push_port_number.new.out.items c.extend_from_slice-3.new.self.items c.push_port_number-2.new.out.items _
    c.in_ok-extend_from_slice.ensures.items c.in_ok-extend_from_slice-2.ensures.items c.in_ok-push_port_number.ensures c.in_ok-extend_from_slice-3.ensures.items c.in_ok-push_port_number-2.ensures c.in_ok-extend_from_slice-4.ensures.items
