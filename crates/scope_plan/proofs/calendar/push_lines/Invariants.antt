use Rattle.std.proofs.Common.{◌≡◌, ◌++◌, drop}
use Rattle.book_scope_plan.specs.CalendarTexts.{calendar_lines}
use Rattle.scope_plan.proofs.calendar.push_lines.Given as goal

abbrev pub invariant-loop-told : goal.invariant-loop-told
invariant-loop-told l =
    l.out.items ++ calendar_lines l.ends.tables.a.now l.ends.tables.b.now l.all (drop l.told-index l.all)
    ≡ l.fn.out.items ++ calendar_lines l.ends.tables.a.now l.ends.tables.b.now l.all l.all
