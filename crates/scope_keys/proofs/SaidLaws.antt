-- Texts put behind others, one after the other.
use Rattle.std.proofs.Common.{◌≡◌, ℕ, List, ◌++◌, Result, Ok, Err, ◌∙◌, if◌then◌else◌, append_assoc}
use Rattle.std.specs.Prelude.{OnOk, is_ok}

-- five texts, unless memory ran out for the last
pub five_behind : {A B : Type 0} (r : Result A B) (old a b c d after s t u v w : List ℕ) → a ≡ old ++ s → b ≡ a ++ t → c ≡ b ++ u → d ≡ c ++ v →
    after ≡ (if is_ok r then d ++ w else d) → OnOk r (after ≡ old ++ (s ++ (t ++ (u ++ (v ++ w)))))
five_behind (Ok x) old a b c d after s t u v w one two three four five = five ∙ (rw (four, three, two, one) (simp append_assoc))
five_behind (Err e) old a b c d after s t u v w one two three four five = tt

-- a text, unless memory ran out
pub one_behind : {A B : Type 0} (r : Result A B) (before after x : List ℕ) → after ≡ (if is_ok r then before ++ x else before) → OnOk r (after ≡ before ++ x)
one_behind (Ok u) before after x h = h
one_behind (Err e) before after x h = tt
