-- A reason is counted at its place.
use Rattle.std.proofs.Common.{◌≡◌, ℕ, ◌+◌, ◌<◌, ◌≤◌, Bool, true, false, List, [], ◌∷◌, ◌++◌, length, get_or, refl, sym, ap, ◌∙◌, arith, add-one, if◌then◌else◌}
use Rattle.std.specs.Prelude.{slice_set}
use Rattle.book_sessions.specs.declared.outcome.PassedOver.{PassedOver}
use Rattle.book_sessions.specs.declared.uses.PassedCount.{PassedCount}
use Rattle.book_sessions.specs.Sessions.{same_reason, with_passed}
use Rattle.capture_listener.specs.Places.{place_of_reason}

low_of : {A : Type 0} (b : Bool) (k : ℕ) (x : A) (xs : List A) → b ≡ false → (if b then 0 else k + 1) < length (x ∷ xs) → k < length xs
low_of true k x xs is low = absurd (cc)
low_of false k x xs is low = omega arith

high_of : {A : Type 0} (b : Bool) (k : ℕ) (x : A) (xs : List A) → b ≡ false → length (x ∷ xs) ≤ (if b then 0 else k + 1) → length xs ≤ k
high_of true k x xs is high = absurd (cc)
high_of false k x xs is high = omega arith

abbrev pub counted_as : PassedOver → ℕ → PassedCount
counted_as why n = record { why = why; packets = n }

-- one more packet that is passed over
abbrev pub one_more : PassedCount → PassedCount
one_more c = record { why = c.why; packets = c.packets + 1 }

module _ (why : PassedOver) where
  reason_by : (d : PassedCount) (b : Bool) (c : PassedCount) (cs : List PassedCount) (k : ℕ) → (b ≡ false → with_passed why cs ≡ slice_set cs k (one_more (get_or cs k d))) →
      (if b then one_more c ∷ cs else c ∷ with_passed why cs) ≡ slice_set (c ∷ cs) (if b then 0 else k + 1) (one_more (get_or (c ∷ cs) (if b then 0 else k + 1) d))
  reason_by d true c cs k others = refl
  reason_by d false c cs k others = rw (add-one k) (ap (λ (l : List PassedCount). c ∷ l) (others refl))

  -- one more of those at its place
  pub reason_found : (d : PassedCount) (cs : List PassedCount) → place_of_reason why cs < length cs → with_passed why cs ≡ slice_set cs (place_of_reason why cs) (one_more (get_or cs (place_of_reason why cs) d))
  reason_found d [] low = absurd (omega arith)
  reason_found d (c ∷ cs) low = reason_by d (same_reason why c.why) c cs (place_of_reason why cs) (λ is. reason_found d cs (low_of (same_reason why c.why) (place_of_reason why cs) c cs is low))

  -- the same of what was found at the place
  pub reason_again : (cs : List PassedCount) (place : ℕ) (c again : PassedCount) → place ≡ place_of_reason why cs → place < length cs → c ≡ get_or cs place c → again ≡ one_more c → slice_set cs place again ≡ with_passed why cs
  reason_again cs place c again is_place low here is =
      let step : one_more (get_or cs (place_of_reason why cs) c) ≡ again = ap one_more (ap (λ (k : ℕ). get_or cs k c) (sym is_place) ∙ sym here) ∙ sym is in
      sym (reason_found c cs (rw is_place at low) ∙ (ap (λ (x : PassedCount). slice_set cs (place_of_reason why cs) x) step ∙ ap (λ (k : ℕ). slice_set cs k again) (sym is_place)))

  pub reason_counted : (cs : List PassedCount) (place : ℕ) (c : PassedCount) (n : ℕ) → place ≡ place_of_reason why cs → place < length cs → c ≡ get_or cs place c → n ≡ c.packets + 1 →
      slice_set cs place (record { why = c.why; packets = n }) ≡ with_passed why cs
  reason_counted cs place c n is_place low here is =
      let again : PassedCount = record { why = c.why; packets = n } in
      reason_again cs place c again is_place low here (ap (λ (k : ℕ). counted_as c.why k) is)

  fresh_by : (b : Bool) (c : PassedCount) (cs : List PassedCount) (k : ℕ) → length (c ∷ cs) ≤ (if b then 0 else k + 1) → (b ≡ false → with_passed why cs ≡ cs ++ (record { why = why; packets = 1 }) ∷ []) →
      (if b then one_more c ∷ cs else c ∷ with_passed why cs) ≡ (c ∷ cs) ++ (record { why = why; packets = 1 }) ∷ []
  fresh_by true c cs k high others = absurd (omega arith)
  fresh_by false c cs k high others = ap (λ (l : List PassedCount). c ∷ l) (others refl)

  -- the first of its kind
  pub reason_new : (cs : List PassedCount) → length cs ≤ place_of_reason why cs → with_passed why cs ≡ cs ++ (record { why = why; packets = 1 }) ∷ []
  reason_new [] high = refl
  reason_new (c ∷ cs) high = fresh_by (same_reason why c.why) c cs (place_of_reason why cs) high (λ is. reason_new cs (high_of (same_reason why c.why) (place_of_reason why cs) c cs is high))
