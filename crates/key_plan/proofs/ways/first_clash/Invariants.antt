use Rattle.std.proofs.Common.{◌≡◌, ◌+◌, drop}
use Rattle.book_plans.specs.Ways.{first_clash}
use Rattle.key_plan.specs.Sides.{lasting}
use Rattle.key_plan.proofs.ways.first_clash.Given as goal

abbrev pub invariant-loop-i : goal.invariant-loop-i
invariant-loop-i l =
    first_clash (lasting l.held.sending l.held.accepting l.row) l.number (l.i + 1) (drop l.i l.rows)
    ≡ first_clash (lasting l.held.sending l.held.accepting l.row) l.number 1 l.rows
