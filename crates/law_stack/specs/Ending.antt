-- Calling for what is due comes to an end (own).
use Rattle.std.specs.Prelude.{◌≡◌, ℕ, zero, suc, ◌⊎◌}
use Rattle.book_stack.specs.Calls.{Output, Rests, call}
use Rattle.book_stack.specs.Stacks.{StackState}

-- `output`, called again and again at one time, has nothing more to hand out after fewer than so many datagrams (own)
abbrev pub RestsWithin : (count now : ℕ) → StackState → Type 0
RestsWithin zero now s = ⊥
RestsWithin (suc n) now s = let d = call (Output now) s in (d.answer ≡ Rests) ⊎ RestsWithin n now d.stack
