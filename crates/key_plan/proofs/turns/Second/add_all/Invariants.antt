use Rattle.std.proofs.Common.{◌≡◌, ◌++◌, ◌+◌, drop}
use Rattle.book_plans.specs.Calendar.{planned, turns_from}
use Rattle.key_plan.proofs.turns.Second.add_all.Given as goal

abbrev pub invariant-loop-i : goal.invariant-loop-i
invariant-loop-i l =
    l.turns.items ++ turns_from (planned l.self.end l.self.table.now.rows l.self.pair) l.self.time (l.i + 1) (drop l.i l.rows)
    ≡ l.initial.turns.items ++ turns_from (planned l.self.end l.self.table.now.rows l.self.pair) l.self.time 1 l.rows
