-- A list after the first item that passes a test was taken out.
use Rattle.std.proofs.Common.{◌≡◌, ℕ, suc, ◌+◌, Bool, true, false, List, [], ◌∷◌, Some, None, refl, sym, ap, ◌∙◌, arith}
use Rattle.std.specs.Prelude.{if◌then◌else◌}
use Rattle.std.specs.List.{position_from, remove}
use Rattle.book_base.specs.declared.address.Pair.{Pair}
use Rattle.book_stack.specs.declared.alarm.Alarm.{Alarm}
use Rattle.book_stack.specs.Alarms.{without_alarm, without_pair}
use Rattle.stack_timers.specs.Places.{is_of, is_pair}

-- what was found from place i on is place k, and there this holds
record FoundAt (i j : ℕ) (P : ℕ → Type 0) : Type 0 where
  place : ℕ
  is : j ≡ i + place
  holds : P place

module _ {X : Type 0} (p : X → Bool) (f : List X → List X) (empty : f [] ≡ []) (step : (x : X) (xs : List X) → f (x ∷ xs) ≡ (if p x then xs else x ∷ f xs)) where
  removes_from : (i j : ℕ) (xs : List X) → position_from p i xs ≡ Some j → FoundAt i j (λ k. remove xs k ≡ f xs)
  removes_from i j [] e = absurd (cc)
  removes_from i j (x ∷ xs) e = at (p x) refl (removes_from (i + 1) j xs) e
    where
      at : (v : Bool) → p x ≡ v → (position_from p (i + 1) xs ≡ Some j → FoundAt (i + 1) j (λ k. remove xs k ≡ f xs))
          → (if v then Some i else position_from p (i + 1) xs) ≡ Some j → FoundAt i j (λ k. remove (x ∷ xs) k ≡ f (x ∷ xs))
      at true g next e = record { place = 0; is = let s : i ≡ j = cc in omega (arith, s); holds = sym (step x xs ∙ rw g refl) }
      at false g next e = let r = next e in record {
        place = suc r.place;
        is = let s = r.is in omega (arith, s);
        holds = ap (λ (ys : List X). x ∷ ys) r.holds ∙ sym (step x xs ∙ rw g refl);
      }

  pub keeps_from : (i : ℕ) (xs : List X) → position_from p i xs ≡ None → xs ≡ f xs
  keeps_from i [] e = sym empty
  keeps_from i (x ∷ xs) e = at (p x) refl (keeps_from (i + 1) xs) e
    where
      at : (v : Bool) → p x ≡ v → (position_from p (i + 1) xs ≡ None → xs ≡ f xs) → (if v then Some i else position_from p (i + 1) xs) ≡ None → x ∷ xs ≡ f (x ∷ xs)
      at true g next e = absurd (cc)
      at false g next e = ap (λ (ys : List X). x ∷ ys) (next e) ∙ sym (step x xs ∙ rw g refl)

  pub removes_first : (j : ℕ) (xs : List X) → position_from p 0 xs ≡ Some j → remove xs j ≡ f xs
  removes_first j xs e = let r = removes_from 0 j xs e in let s : j ≡ r.place = let q = r.is in omega (arith, q) in rw s r.holds

pub alarm_removed : (pair : Pair) (j : ℕ) (xs : List Alarm) → position_from (is_of pair) 0 xs ≡ Some j → remove xs j ≡ without_alarm pair xs
alarm_removed pair j xs e = removes_first (is_of pair) (without_alarm pair) refl (λ x ys. refl) j xs e

pub alarm_kept : (pair : Pair) (xs : List Alarm) → position_from (is_of pair) 0 xs ≡ None → xs ≡ without_alarm pair xs
alarm_kept pair xs e = keeps_from (is_of pair) (without_alarm pair) refl (λ x ys. refl) 0 xs e

pub pair_removed : (pair : Pair) (j : ℕ) (xs : List Pair) → position_from (is_pair pair) 0 xs ≡ Some j → remove xs j ≡ without_pair pair xs
pair_removed pair j xs e = removes_first (is_pair pair) (without_pair pair) refl (λ x ys. refl) j xs e

pub pair_kept : (pair : Pair) (xs : List Pair) → position_from (is_pair pair) 0 xs ≡ None → xs ≡ without_pair pair xs
pair_kept pair xs e = keeps_from (is_pair pair) (without_pair pair) refl (λ x ys. refl) 0 xs e
