-- Texts put behind one another, part by part.
use Rattle.std.proofs.Common.{◌≡◌, ℕ, Bool, false, List, [], ◌∷◌, ◌++◌, ◌∙◌, append_assoc, Result, Ok, Err, OnOk, refl, ap, sym}
use Rattle.book_lines.specs.Texts.{spaced}
use Rattle.book_why.specs.Lacks.{lack}

module _ {E : Type 0} where
  pub on_two : (r : Result (Unit {0}) E) (out a b one new : List ℕ) → one ≡ out ++ a → OnOk r (new ≡ one ++ b) → OnOk r (new ≡ out ++ (a ++ b))
  on_two (Ok done) out a b one new p q = q ∙ rw p (append_assoc out a b)
  on_two (Err e) out a b one new p q = tt

  pub on_three : (r : Result (Unit {0}) E) (out a b c one two new : List ℕ) → one ≡ out ++ a → two ≡ one ++ b → OnOk r (new ≡ two ++ c) → OnOk r (new ≡ out ++ (a ++ (b ++ c)))
  on_three r out a b c one two new p q s = on_two r out a (b ++ c) one new p (on_two r one b c two new q s)

  pub on_four : (r : Result (Unit {0}) E) (out a b c d one two three new : List ℕ) → one ≡ out ++ a → two ≡ one ++ b → three ≡ two ++ c → OnOk r (new ≡ three ++ d)
      → OnOk r (new ≡ out ++ (a ++ (b ++ (c ++ d))))
  on_four r out a b c d one two three new p q s t = on_two r out a (b ++ (c ++ d)) one new p (on_three r one b c d two three new q s t)

  pub on_five : (r : Result (Unit {0}) E) (out a b c d e one two three four new : List ℕ) → one ≡ out ++ a → two ≡ one ++ b → three ≡ two ++ c → four ≡ three ++ d → OnOk r (new ≡ four ++ e)
      → OnOk r (new ≡ out ++ (a ++ (b ++ (c ++ (d ++ e)))))
  on_five r out a b c d e one two three four new p q s t u = on_two r out a (b ++ (c ++ (d ++ e))) one new p (on_four r one b c d e two three four new q s t u)

  -- the same text, said otherwise
  pub on_same : (r : Result (Unit {0}) E) (out a b new : List ℕ) → a ≡ b → OnOk r (new ≡ out ++ a) → OnOk r (new ≡ out ++ b)
  on_same r out a b new is q = rw is at q

  -- something is lacking
  pub lacked : (r : Result (Unit {0}) E) (good : Bool) (out text more one new : List ℕ) → good ≡ false → one ≡ out ++ (44 ∷ 32 ∷ text) → OnOk r (new ≡ one ++ more) → OnOk r (new ≡ out ++ lack good (text ++ more))
  lacked r good out text more one new is p q = rw is (on_two r out (44 ∷ 32 ∷ text) more one new p q)

-- texts with a space in front of each, behind one another
pub spaced_more : (xs ys : List (List ℕ)) → spaced (xs ++ ys) ≡ spaced xs ++ spaced ys
spaced_more [] ys = refl
spaced_more (w ∷ ws) ys = ap (λ (x : List ℕ). 32 ∷ x) (ap (λ (x : List ℕ). w ++ x) (spaced_more ws ys) ∙ sym (append_assoc w (spaced ws) (spaced ys)))

-- the parts of the line of a segment
pub four_spaced : (a l : List ℕ) (h e n x : List (List ℕ)) →
    (a ++ spaced h) ++ (spaced e ++ ((spaced n ++ spaced x) ++ l)) ≡ a ++ (spaced (h ++ (e ++ (n ++ x))) ++ l)
four_spaced a l h e n x =
    append_assoc a (spaced h) (spaced e ++ ((spaced n ++ spaced x) ++ l))
    ∙ ap (λ (t : List ℕ). a ++ t)
    (sym (ap (λ (t : List ℕ). t ++ l) (spaced_more h (e ++ (n ++ x)) ∙ ap (λ (t : List ℕ). spaced h ++ t) (spaced_more e (n ++ x) ∙ ap (λ (t : List ℕ). spaced e ++ t) (spaced_more n x)))
    ∙ (append_assoc (spaced h) (spaced e ++ (spaced n ++ spaced x)) l
    ∙ ap (λ (t : List ℕ). spaced h ++ t) (append_assoc (spaced e) (spaced n ++ spaced x) l))))

pub two_spaced : (a l : List ℕ) (x y : List (List ℕ)) → a ++ (spaced x ++ (spaced y ++ l)) ≡ a ++ (spaced (x ++ y) ++ l)
two_spaced a l x y = ap (λ (t : List ℕ). a ++ t) (sym (append_assoc (spaced x) (spaced y) l) ∙ ap (λ (t : List ℕ). t ++ l) (sym (spaced_more x y)))
