-- What a call makes of words, beside what they say.
use Rattle.std.specs.Prelude.{◌≡◌, ℕ}
use Rattle.book_link.specs.declared.event.Action.{Action}

-- each action that calls with these results make of a number is the one that is meant
abbrev pub MakesOf : (ℕ → Action → Type 0) → (ℕ → Action) → Type 0
MakesOf results meant = (n : ℕ) (action : Action) → results n action → action ≡ meant n
