use Rattle.std.proofs.Common.{◌≡◌, ◌+◌, ℕ, false, get_or, length}
use Rattle.draw_ladder.proofs.fates.make_room.Given as goal

abbrev pub invariant-loop-more : goal.invariant-loop-more
invariant-loop-more l =
    ((n : ℕ) → get_or l.marks.items n false ≡ get_or l.fn.marks.items n false) × (length l.marks.items ≡ length l.fn.marks.items + l._more)
