-- How many lines say something.
use Rattle.std.proofs.Common.{arith, ℕ, suc, ◌+◌, ◌≤◌, if◌then◌else◌, Bool, true, false, List, [], ◌∷◌, length}
use Rattle.book_base.specs.Lines.{words_of}
use Rattle.book_lines.specs.Lines.{Line, saying_from, says_something}

one_says : (b : Bool) (l : Line) (ls : List Line) (m : ℕ) → length ls ≤ m → length (if b then l ∷ ls else ls) ≤ suc m
one_says true l ls m h = omega arith
one_says false l ls m h = omega arith

-- as many lines say something as there are, at most
pub saying_length : (n : ℕ) (ls : List (List ℕ)) → length (saying_from n ls) ≤ length ls
unfolding saying_from
saying_length n [] = omega arith
saying_length n (l ∷ ls) = one_says (says_something (words_of l)) (record { number = n; words = words_of l }) (saying_from (n + 1) ls) (length ls) (saying_length (n + 1) ls)
