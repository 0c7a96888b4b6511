-- Texts put behind others, one after the other.
use Rattle.std.proofs.Common.{◌≡◌, ℕ, List, ◌++◌, Result, Ok, Err, ◌∙◌, if◌then◌else◌, append_assoc}
use Rattle.std.specs.Prelude.{OnOk, is_ok}

-- four texts, unless memory ran out for the last
pub four_behind : {A B : Type 0} (r : Result A B) (old first second third after w x y z : List ℕ) → first ≡ old ++ w → second ≡ first ++ x → third ≡ second ++ y →
    after ≡ (if is_ok r then third ++ z else third) → OnOk r (after ≡ old ++ (w ++ (x ++ (y ++ z))))
four_behind (Ok u) old first second third after w x y z one two three four =
    four ∙ (rw (three, two, one) (simp append_assoc))
four_behind (Err e) old first second third after w x y z one two three four = tt

-- a text, unless memory ran out
pub one_behind : {A B : Type 0} (r : Result A B) (before after x : List ℕ) → after ≡ (if is_ok r then before ++ x else before) → OnOk r (after ≡ before ++ x)
one_behind (Ok u) before after x h = h
one_behind (Err e) before after x h = tt

-- three texts, unless memory ran out for the last
pub three_behind : {A B : Type 0} (r : Result A B) (old first second after x y z : List ℕ) → first ≡ old ++ x → second ≡ first ++ y →
    after ≡ (if is_ok r then second ++ z else second) → OnOk r (after ≡ old ++ (x ++ (y ++ z)))
three_behind (Ok u) old first second after x y z one two three = three ∙ (rw (two, one) (simp append_assoc))
three_behind (Err e) old first second after x y z one two three = tt
