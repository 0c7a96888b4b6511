-- Texts put behind one another, part by part.
use Rattle.std.proofs.Common.{◌≡◌, ℕ, List, ◌++◌, ◌∙◌, append_assoc}

pub two : (out a b one new : List ℕ) → one ≡ out ++ a → new ≡ one ++ b → new ≡ out ++ (a ++ b)
two out a b one new p q = q ∙ rw p (append_assoc out a b)

pub three : (out a b c one put new : List ℕ) → one ≡ out ++ a → put ≡ one ++ b → new ≡ put ++ c → new ≡ out ++ (a ++ (b ++ c))
three out a b c one put new p q r = two out a (b ++ c) one new p (two one b c put new q r)

pub five : (out a b c d e one put most last new : List ℕ) → one ≡ out ++ a → put ≡ one ++ b → most ≡ put ++ c → last ≡ most ++ d → new ≡ last ++ e
    → new ≡ out ++ (a ++ (b ++ (c ++ (d ++ e))))
five out a b c d e one put most last new p q r s t =
    two out a (b ++ (c ++ (d ++ e))) one new p (two one b (c ++ (d ++ e)) put new q (three put c d e most last new r s t))

pub nine : (out a b c d e f g h i o1 o2 o3 o4 o5 o6 o7 o8 new : List ℕ) → o1 ≡ out ++ a → o2 ≡ o1 ++ b → o3 ≡ o2 ++ c → o4 ≡ o3 ++ d → o5 ≡ o4 ++ e
    → o6 ≡ o5 ++ f → o7 ≡ o6 ++ g → o8 ≡ o7 ++ h → new ≡ o8 ++ i
    → new ≡ out ++ (a ++ (b ++ (c ++ (d ++ (e ++ (f ++ (g ++ (h ++ i))))))))
nine out a b c d e f g h i o1 o2 o3 o4 o5 o6 o7 o8 new p q r s t u v w x =
    five out a b c d (e ++ (f ++ (g ++ (h ++ i)))) o1 o2 o3 o4 new p q r s (five o4 e f g h i o5 o6 o7 o8 new t u v w x)

pub seven : (out a b c d e f g o1 o2 o3 o4 o5 o6 new : List ℕ) → o1 ≡ out ++ a → o2 ≡ o1 ++ b → o3 ≡ o2 ++ c → o4 ≡ o3 ++ d → o5 ≡ o4 ++ e
    → o6 ≡ o5 ++ f → new ≡ o6 ++ g → new ≡ out ++ (a ++ (b ++ (c ++ (d ++ (e ++ (f ++ g))))))
seven out a b c d e f g o1 o2 o3 o4 o5 o6 new p q r s t u v =
    five out a b c d (e ++ (f ++ g)) o1 o2 o3 o4 new p q r s (three o4 e f g o5 o6 new t u v)
