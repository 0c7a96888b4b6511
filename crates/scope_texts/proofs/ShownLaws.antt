-- The first bytes of a text, and two or three texts put behind others.
use Rattle.std.proofs.Common.{◌≡◌, ℕ, List, ◌++◌, Result, Ok, Err, length, min, take, ap, ◌∙◌, if◌then◌else◌, append_assoc}
use Rattle.std.specs.Prelude.{OnOk, is_ok}
use Rattle.std.proofs.lemmas.List.{take_min}

pub first_bytes : (text : List ℕ) → take (min 64 (length text)) text ≡ take 64 text
first_bytes text = take_min 64 text

-- two texts, one after the other, unless memory ran out for the second
pub two_behind : {A B : Type 0} (r : Result A B) (old before after one other : List ℕ) → before ≡ old ++ one → after ≡ (if is_ok r then before ++ other else before) → OnOk r (after ≡ old ++ (one ++ other))
two_behind (Ok u) old before after one other first second = second ∙ (ap (λ xs. xs ++ other) first ∙ append_assoc old one other)
two_behind (Err e) old before after one other first second = tt

-- three texts, one after the other, unless memory ran out for the third
pub three_behind : {A B : Type 0} (r : Result A B) (old first second after x y z : List ℕ) → first ≡ old ++ x → second ≡ first ++ y →
    after ≡ (if is_ok r then second ++ z else second) → OnOk r (after ≡ old ++ (x ++ (y ++ z)))
three_behind (Ok u) old first second after x y z one two three = three ∙ (rw (two, one) (simp append_assoc))
three_behind (Err e) old first second after x y z one two three = tt
