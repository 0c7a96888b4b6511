-- What is old shows nothing.
use Rattle.std.proofs.Common.{◌≡◌, ◌≤◌, ℕ, ◌&&◌, not, nat_lt, Bool, true, false, List, Option, Some, None, refl, sym, ◌∙◌, arith}
use Rattle.std.proofs.lemmas.Bool.Decides.{nat_tests}
use Rattle.book_sessions.specs.declared.uses.KeyUse.{KeyUse}
use Rattle.book_sessions.specs.declared.uses.SeenBits.{SeenBits}
use Rattle.book_sessions.specs.declared.uses.SeenPass.{SeenPass}
use Rattle.book_sessions.specs.declared.uses.SeenSegment.{SeenSegment}
use Rattle.book_sessions.specs.declared.uses.Signs.{Signs}
use Rattle.book_sessions.specs.Counts.{no_signs}
use Rattle.book_sessions.specs.Sessions.{goes_past, if_passed, reached_before, resets_at, signs_of}
use Rattle.law_sessions.specs.Old.{IsOld, Refused, Syn, AckAlone, Copy}

and_false : (b : Bool) → (b && false) ≡ false
and_false true = refl
and_false false = refl

below_not : (a b : ℕ) → b ≤ a → nat_lt a b ≡ false
below_not a b h = grind (arith, nat_tests)

-- the signs by what they are made of
abbrev made : (fin moves resets : Bool) → Signs
made fin moves resets = record { moves = moves; resets = resets; finishes = fin && moves }

nothing_made : (fin moves resets : Bool) → moves ≡ false → resets ≡ false → made fin moves resets ≡ no_signs
nothing_made true moves resets e f = rw (e, f) refl
nothing_made false moves resets e f = rw (e, f) refl

none_passed : (holds : ℕ → SeenPass → Bool) (reached : Option ℕ) → if_passed holds reached None ≡ false
none_passed holds None = refl
none_passed holds (Some n) = refl

none_given : (holds : ℕ → SeenPass → Bool) (reached : Option ℕ) (pass : Option SeenPass) → pass ≡ None → if_passed holds reached pass ≡ false
none_given holds reached pass e = rw e (none_passed holds reached)

all_false : (holds : ℕ → SeenPass → Bool) (reached : Option ℕ) (pass : Option SeenPass) → ((n : ℕ) (p : SeenPass) → reached ≡ Some n → pass ≡ Some p → holds n p ≡ false) → if_passed holds reached pass ≡ false
all_false holds None pass h = at pass
  where
    at : (q : Option SeenPass) → if_passed holds None q ≡ false
    at None = refl
    at (Some p) = refl
all_false holds (Some n) None h = refl
all_false holds (Some n) (Some p) h = h n p refl refl

not_reset : (bits : SeenBits) (n : ℕ) (p : SeenPass) → bits.rst ≡ false → resets_at n bits p ≡ false
not_reset bits n p e = rw e refl

syn_stays : (bits : SeenBits) (n : ℕ) (p : SeenPass) → bits.syn ≡ true → goes_past n bits p ≡ false
syn_stays bits n p e = rw e refl

empty_stays : (bits : SeenBits) (n : ℕ) (p : SeenPass) → p.after ≤ p.first → goes_past n bits p ≡ false
empty_stays bits n p h = rw (below_not p.first p.after h) (and_false (not bits.syn))

low_stays : (bits : SeenBits) (n : ℕ) (p : SeenPass) → p.after ≤ n → goes_past n bits p ≡ false
low_stays bits n p h = rw (below_not n p.after h) (rw (and_false (nat_lt p.first p.after)) (and_false (not bits.syn)))

module _ (s : SeenSegment) (uses : List KeyUse) where
  abbrev reached : Option ℕ
  reached = reached_before s uses

  -- it moves nothing, and isn't a RST
  shows_nothing : s.bits.rst ≡ false → ((n : ℕ) (p : SeenPass) → reached ≡ Some n → s.pass ≡ Some p → goes_past n s.bits p ≡ false) → signs_of s uses ≡ no_signs
  shows_nothing rst h =
      nothing_made s.bits.fin (if_passed (λ n p. goes_past n s.bits p) reached s.pass) (if_passed (λ n p. resets_at n s.bits p) reached s.pass)
      (all_false (λ n p. goes_past n s.bits p) reached s.pass h)
      (all_false (λ n p. resets_at n s.bits p) reached s.pass (λ n p e f. not_reset s.bits n p rst))

  some_is : (a b : SeenPass) → Some a ≡ Some b → a ≡ b
  some_is a b e = cc

  number_is : (a b : ℕ) → Some a ≡ Some b → a ≡ b
  number_is a b e = cc

  pub old_shows : IsOld s uses → signs_of s uses ≡ no_signs
  old_shows (Refused none) =
      nothing_made s.bits.fin (if_passed (λ n p. goes_past n s.bits p) reached s.pass) (if_passed (λ n p. resets_at n s.bits p) reached s.pass)
      (none_given (λ n p. goes_past n s.bits p) reached s.pass none) (none_given (λ n p. resets_at n s.bits p) reached s.pass none)
  old_shows (Syn rst syn) = shows_nothing rst (λ n p e f. syn_stays s.bits n p syn)
  old_shows (AckAlone q rst is low) = shows_nothing rst (λ n p e f. let same = some_is p q (sym f ∙ is) in empty_stays s.bits n p (rw same low))
  old_shows (Copy q m rst is at low) =
      shows_nothing rst (λ n p e f. let same = some_is p q (sym f ∙ is) in let far = number_is n m (sym e ∙ at) in low_stays s.bits n p (rw (same, far) low))
