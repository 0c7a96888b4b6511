use Rattle.std.proofs.Common.{◌≡◌, ◌++◌, drop}
use Rattle.std.specs.Prelude.{flat_map}
use Rattle.book_scope_plan.specs.Bars.{bar_text}
use Rattle.draw_plan.proofs.bars.push_bar_lines.Given as goal

abbrev pub invariant-loop-bar : goal.invariant-loop-bar
invariant-loop-bar l =
    l.out.items ++ flat_map (bar_text l.ends.tables.a.now l.ends.tables.b.now l.ends.pair l.plan) (drop l.bar-index l.bars)
    ≡ l.fn.out.items ++ flat_map (bar_text l.ends.tables.a.now l.ends.tables.b.now l.ends.pair l.plan) l.bars
