-- Texts put behind one another.
use Rattle.std.proofs.Common.{◌≡◌, ℕ, List, [], ◌∷◌, ◌++◌, Result, Ok, Err, OnOk, refl, ap, ◌∙◌, append_assoc}
use Rattle.book_lines.specs.Texts.{spaced}

pub spaced_more : (xs ys : List (List ℕ)) → spaced xs ++ spaced ys ≡ spaced (xs ++ ys)
spaced_more [] ys = refl
spaced_more (x ∷ xs) ys = ap (λ t. 32 ∷ t) (append_assoc x (spaced xs) (spaced ys) ∙ ap (λ t. x ++ t) (spaced_more xs ys))

-- two lists of texts
pub one_by_one : (out x y : List ℕ) (p q : List (List ℕ)) → x ≡ out ++ spaced p → y ≡ x ++ spaced q → y ≡ out ++ spaced (p ++ q)
one_by_one out x y p q f g =
    g ∙ ap (λ t. t ++ spaced q) f ∙ append_assoc out (spaced p) (spaced q) ∙ ap (λ t. out ++ t) (spaced_more p q)

-- three lists of texts
pub in_turn : {T E : Type 0} (r : Result T E) (out x y z : List ℕ) (p q s : List (List ℕ)) → x ≡ out ++ spaced p → y ≡ x ++ spaced q
    → OnOk r (z ≡ y ++ spaced s) → OnOk r (z ≡ out ++ spaced (p ++ (q ++ s)))
in_turn (Ok v) out x y z p q s f g h =
    h ∙ ap (λ t. t ++ spaced s) (g ∙ ap (λ t. t ++ spaced q) f) ∙ append_assoc (out ++ spaced p) (spaced q) (spaced s)
    ∙ append_assoc out (spaced p) (spaced q ++ spaced s)
    ∙ ap (λ t. out ++ t) (ap (λ t. spaced p ++ t) (spaced_more q s) ∙ spaced_more p (q ++ s))
in_turn (Err e) out x y z p q s f g h = h

-- two texts, which are a third one together
pub in_two : (out a b r y z : List ℕ) → y ≡ out ++ a → z ≡ y ++ b → a ++ b ≡ r → z ≡ out ++ r
in_two out a b r y z e f g = rw (f, e, ← g) (simp append_assoc)

-- three texts
pub in_three : (out a b c x y z : List ℕ) → x ≡ out ++ a → y ≡ x ++ b → z ≡ y ++ c → z ≡ out ++ (a ++ (b ++ c))
in_three out a b c x y z e f g = rw (g, f, e) (simp append_assoc)
