use Rattle.std.specs.Prelude.{codes, decimal}
use Rattle.scope_plan.proofs.WayLaws.{two}
use Rattle.scope_plan.proofs.ways.push_overlap.Goals as goal

pub returns : goal.returns
returns c =
    two c.args.out.now.items (codes "it would overlap row ") (decimal c.args.number) c.extend_from_slice.new.self.items _
    c.in_ok-extend_from_slice.ensures.items c.in_ok-push_number.ensures
