use Rattle.std.proofs.Common.{◌≡◌, ◌++◌, drop}
use Rattle.book_scope_plan.specs.CalendarTexts.{told_turns}
use Rattle.scope_plan.proofs.told.told_turns.Given as goal

abbrev pub invariant-loop-turn : goal.invariant-loop-turn
invariant-loop-turn l =
    l.told.items ++ told_turns l.ends.tables.a.now l.ends.tables.b.now (drop l.turn-index l.turns) ≡ told_turns l.ends.tables.a.now l.ends.tables.b.now l.turns
