use Rattle.std.proofs.Common.{◌≡◌, ◌+◌, ℕ, None, get_or, length}
use Rattle.scope_draw.proofs.past.make_room.Given as goal

abbrev pub invariant-loop-more : goal.invariant-loop-more
invariant-loop-more l =
    ((n : ℕ) → get_or l.starts.items n None ≡ get_or l.fn.starts.items n None) × (length l.starts.items ≡ length l.fn.starts.items + l._more)
