-- Texts put behind one another, part by part.
use Rattle.std.proofs.Common.{◌≡◌, ℕ, List, ◌++◌, ◌∙◌, append_assoc}

pub three : (out a b c one two new : List ℕ) → one ≡ out ++ a → two ≡ one ++ b → new ≡ two ++ c → new ≡ out ++ (a ++ (b ++ c))
three out a b c one two new p q r =
    r ∙ rw (q, p) (append_assoc (out ++ a) b c ∙ append_assoc out a (b ++ c))

pub four : (out a b c d one two put new : List ℕ) → one ≡ out ++ a → two ≡ one ++ b → put ≡ two ++ c → new ≡ put ++ d
    → new ≡ out ++ (a ++ (b ++ (c ++ d)))
four out a b c d one two put new p q r s =
    three out a b (c ++ d) one two new p q (s ∙ rw r (append_assoc two c d))

pub five : (out a b c d e one two put most new : List ℕ) → one ≡ out ++ a → two ≡ one ++ b → put ≡ two ++ c → most ≡ put ++ d → new ≡ most ++ e
    → new ≡ out ++ (a ++ (b ++ (c ++ (d ++ e))))
five out a b c d e one two put most new p q r s t =
    four out a b c (d ++ e) one two put new p q r (t ∙ rw s (append_assoc put d e))
