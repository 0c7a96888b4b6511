use Rattle.std.proofs.Common.{◌≡◌, ◌+◌, ◌*◌, ◌≤◌, length}
use Rattle.book_lines.specs.Said.{said_by}
use Rattle.book_scope_plan.specs.Connections.{plan_pair_of}
use Rattle.scope_keys.specs.KeyFiles.{key_file_of}
use Rattle.scope_plan.specs.Plannings.{no_plan, planned_from}
use Rattle.scope_plan.proofs.plans.plan_lines.Given as goal

abbrev pub invariant-loop-line : goal.invariant-loop-line
invariant-loop-line l =
    (l.count + 8451 * length l.lines ≤ 8451 * length l.fn.lines)
    × (l.all + length l.lines ≤ length l.fn.lines)
    × (l.good ≤ l.all)
    × (planned_from l.form (key_file_of l.keys) l.plan (record { text = l.out.items; lines = l.count; all = l.all; good = l.good; has_wrong = l.has_wrong }) (said_by plan_pair_of l.lines)
    ≡ planned_from l.form (key_file_of l.keys) l.plan no_plan (said_by plan_pair_of l.fn.lines))

abbrev pub decreases-loop-line : goal.decreases-loop-line
decreases-loop-line l = length l.lines
