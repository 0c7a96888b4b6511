use Rattle.std.proofs.Common.{◌≡◌, ◌++◌, List, [], drop, take}
use Rattle.std.specs.Prelude.{reverse}
use Rattle.book_draw.specs.declared.rung.Rung.{Rung}
use Rattle.book_draw.specs.Ladders.{rungs_text}
use Rattle.draw_ladder.specs.Sights.{Saw}
use Rattle.draw_ladder.proofs.ladder.push_rungs.Given as goal

abbrev pub invariant-loop-index : goal.invariant-loop-index
invariant-loop-index l =
    Saw l.seen (reverse (take l.index l.rungs))
    × ((rs : List Rung) → Saw l.all rs → l.out.items ++ rungs_text rs (reverse (take l.index l.rungs)) (drop l.index l.rungs) ≡ l.fn.out.items ++ rungs_text rs [] l.rungs)
