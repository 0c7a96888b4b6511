-- The report of a command as the output of the program.
use Rattle.std.proofs.Common.{◌≡◌, ◌<◌, ℕ, Bool, true, false, List, [], if◌then◌else◌, refl, arith, ◌∙◌}
use Rattle.book_answer.specs.Answers.{Answer, done}

below_two : (b : Bool) → (if b then 1 else 0) < 2
below_two true = omega arith
below_two false = omega arith

-- an answer with the whole output, and its status
pub report_made : (a : Answer) (b : Bool) (text : List ℕ) (s : ℕ) → a ≡ done b text → s ≡ (if b then 1 else 0)
    → (a ≡ record { status = s; output = text; text = [] }) × (s < 2)
report_made a b text s is status = (is ∙ rw status refl, rw status (below_two b))
