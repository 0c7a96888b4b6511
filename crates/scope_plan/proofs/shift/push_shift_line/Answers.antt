use Rattle.std.specs.Prelude.{codes, decimal}
use Rattle.book_scope_plan.specs.Notes.{shift_line}
use Rattle.scope_plan.proofs.PartLaws.{seven}
use Rattle.scope_plan.proofs.shift.push_shift_line.Goals as goal

pub returns : goal.returns
unfolding shift_line
returns c =
    seven c.args.out.now.items (codes "  note: ") c.args.later.now (codes "'s times are all ") (decimal c.args.seconds) (codes " s later than ") c.args.name.now (codes "'s\n")
    c.extend_from_slice.new.self.items c.extend_from_slice-2.new.self.items c.extend_from_slice-3.new.self.items c.push_seconds.new.out.items c.extend_from_slice-4.new.self.items c.extend_from_slice-5.new.self.items _
    c.in_ok-extend_from_slice.ensures.items c.in_ok-extend_from_slice-2.ensures.items c.in_ok-extend_from_slice-3.ensures.items c.in_ok-push_seconds.ensures c.in_ok-extend_from_slice-4.ensures.items c.in_ok-extend_from_slice-5.ensures.items c.in_ok-extend_from_slice-6.ensures.items
