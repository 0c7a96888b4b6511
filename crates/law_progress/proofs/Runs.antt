-- Separate runs of received bytes, and the first missing number, when a piece is kept.
use Rattle.std.proofs.Common.{◌≡◌, ℕ, zero, suc, ◌+◌, ◌-◌, ◌<◌, ◌≤◌, Bool, true, false, not, ◌&&◌, nat_lt, nat_le, List, length, slice_get, Option, Some, None, ⊎_elim, if◌then◌else◌, refl, sym, ap, ◌∙◌, subst, arith}
use Rattle.std.specs.Prelude.{is_some}
use Rattle.std.proofs.lemmas.Bool.Decides.{nat_tests}
use Rattle.std.proofs.lemmas.Option.{slice_get_past, slice_get-get_or}
use Rattle.book_segments.specs.Received.{first_known, keep, first_missing, runs}
use Rattle.law_link.proofs.Stream.{or_lt, fm_low, fm_none}

-- at most 64 runs begin from a number on
abbrev pub HasFewRuns : (ℕ → Option ℕ) → ℕ → Type 0
HasFewRuns m x = (k : ℕ) → runs m false x k ≤ 64

-- ---- runs

same_count : (a b : Option ℕ) (i : Bool) (x y : ℕ) → a ≡ b → x ≡ y → (if is_some a && not i then 1 else 0) + x ≡ (if is_some b && not i then 1 else 0) + y
same_count a b i x y e f = cc

pub runs_agree : (m r : ℕ → Option ℕ) (i : Bool) (p k : ℕ) → ((j : ℕ) → p ≤ j → m j ≡ r j) → runs m i p k ≡ runs r i p k
runs_agree m r i p zero same = refl
runs_agree m r i p (suc k) same =
    let here = same p (omega arith) in
    let rest : runs m (is_some (m p)) (suc p) k ≡ runs r (is_some (m p)) (suc p) k = runs_agree m r (is_some (m p)) (suc p) k (λ j low. same j (omega arith)) in
    same_count (m p) (r p) i (runs m (is_some (m p)) (suc p) k) (runs r (is_some (r p)) (suc p) k) here (rest ∙ ap (λ o. runs r (is_some o) (suc p) k) here)

more_left : (c x y : ℕ) → x ≤ y → x ≤ c + y
more_left c x y h = omega arith

both_left : (c x y : ℕ) → x ≤ y → c + x ≤ c + y
both_left c x y h = omega arith

zero_low : (x : ℕ) → 0 ≤ x
zero_low x = omega arith

pub runs_mono : (r : ℕ → Option ℕ) (i : Bool) (p k n : ℕ) → k ≤ n → runs r i p k ≤ runs r i p n
runs_mono r i p zero n h = zero_low (runs r i p n)
runs_mono r i p (suc k) zero h = absurd (omega arith)
runs_mono r i p (suc k) (suc n) h = both_left (if is_some (r p) && not i then 1 else 0) (runs r (is_some (r p)) (suc p) k) (runs r (is_some (r p)) (suc p) n) (runs_mono r (is_some (r p)) (suc p) k n (omega arith))

-- from a number without a byte it doesn't matter what is before
from_none : (r : ℕ → Option ℕ) (i : Bool) (p k n : ℕ) (o : Option ℕ) → r p ≡ o → o ≡ None → k ≤ n → runs r false p k ≤ runs r i p n
from_none r i p zero n o e none h = zero_low (runs r i p n)
from_none r i p (suc k) zero o e none h = absurd (omega arith)
from_none r i p (suc k) (suc n) o e none h =
    let is : r p ≡ None = e ∙ none in
    let mono = runs_mono r false (suc p) k n (omega arith) in
    subst (λ (a : Option ℕ). (if is_some a && not false then 1 else 0) + runs r (is_some a) (suc p) k ≤ (if is_some a && not i then 1 else 0) + runs r (is_some a) (suc p) n) (sym is)
    (both_left 0 (runs r false (suc p) k) (runs r false (suc p) n) mono)

-- fewer runs begin from a later number without a byte
pub runs_later : (r : ℕ → Option ℕ) (i : Bool) (p n at k : ℕ) → p ≤ at → at + k ≤ p + n → r at ≡ None → runs r false at k ≤ runs r i p n
runs_later r i p zero at zero low high none = omega arith
runs_later r i p zero at (suc k) low high none = absurd (omega arith)
runs_later r i p (suc n) at k low high none =
    ⊎_elim
    (λ (e : p < at). more_left (if is_some (r p) && not i then 1 else 0) (runs r false at k) (runs r (is_some (r p)) (suc p) n) (runs_later r (is_some (r p)) (suc p) n at k (omega arith) (omega arith) none))
    (λ (e : at ≤ p).
    let same : at ≡ p = omega arith in
    let here : r p ≡ None = ap r (sym same) ∙ none in
    subst (λ (q : ℕ). runs r false q k ≤ runs r i p (suc n)) (sym same) (from_none r i p k (suc n) (r p) refl here (omega arith)))
    (or_lt p at)

-- ---- what is kept

known_still : (o : Option ℕ) (t : Bool) (c : Option ℕ) → c ≡ None → first_known o (if t then c else None) ≡ o
known_still (Some a) t c e = refl
known_still None true c e = e
known_still None false c e = refl

pub keep_past : (m : ℕ → Option ℕ) (n : ℕ) (payload : List ℕ) (low high p : ℕ) → n + length payload ≤ p → keep m (record { number = n; bytes = payload }) (record { low = low; high = high }) p ≡ m p
unfolding keep
keep_past m n payload low high p past = known_still (m p) (nat_le low p && nat_lt p high && nat_le n p) (slice_get payload (p - n)) (slice_get_past payload (p - n) (omega arith))

known_now : (o : Option ℕ) (t : Bool) (c : Option ℕ) (b : ℕ) → t ≡ true → c ≡ Some b → (a : ℕ) × (first_known o (if t then c else None) ≡ Some a)
known_now (Some a) t c b e f = (a, refl)
known_now None true c b e f = (b, f)
known_now None false c b e f = absurd (cc)

within_now : (low high n p : ℕ) → low ≤ p → p < high → n ≤ p → (nat_le low p && nat_lt p high && nat_le n p) ≡ true
within_now low high n p a b c = grind (arith, nat_tests)

-- a byte of the piece between the bounds is kept, or one was there
pub keep_within : (m : ℕ → Option ℕ) (n : ℕ) (payload : List ℕ) (low high p : ℕ) → n ≤ p → p < n + length payload → low ≤ p → p < high → (b : ℕ) × (keep m (record { number = n; bytes = payload }) (record { low = low; high = high }) p ≡ Some b)
unfolding keep
keep_within m n payload low high p from to above below =
    let got = slice_get-get_or payload (p - n) 0 (omega arith) in
    known_now (m p) (nat_le low p && nat_lt p high && nat_le n p) (slice_get payload (p - n)) _ (within_now low high n p above below from) got

keep_old_none : (o : Option ℕ) (x : Option ℕ) → first_known o x ≡ None → o ≡ None
keep_old_none (Some a) x e = absurd (cc)
keep_old_none None x e = refl

pub keep_none : (m : ℕ → Option ℕ) (n : ℕ) (payload : List ℕ) (low high p : ℕ) → keep m (record { number = n; bytes = payload }) (record { low = low; high = high }) p ≡ None → m p ≡ None
unfolding keep
keep_none m n payload low high p e = keep_old_none (m p) (if nat_le low p && nat_lt p high && nat_le n p then slice_get payload (p - n) else None) e

-- ---- a piece at or before the number expected

module _ (r : ℕ → Option ℕ) (n : ℕ) (payload : List ℕ) (x w top : ℕ) (low : n ≤ x) (fits : n + length payload ≤ x + w) (under : n + length payload ≤ top) where
  -- the first missing number is past the piece
  pub missing_past : n + length payload ≤ first_missing (keep r (record { number = n; bytes = payload }) (record { low = x; high = top })) x w
  missing_past =
      let m = keep r (record { number = n; bytes = payload }) (record { low = x; high = top }) in
      let y = first_missing m x w in
      let up = fm_low m x w in
      ⊎_elim (λ (a : y < n + length payload).
      let none : m y ≡ None = fm_none m x w (omega arith) in
      let some = keep_within r n payload x top y (omega arith) a up (omega arith) in
      let is = some.1 in
      absurd (cc))
      (λ (a : n + length payload ≤ y). a) (or_lt y (n + length payload))

  -- no more runs are past it than were
  pub few_past : HasFewRuns r x → (k : ℕ) → first_missing (keep r (record { number = n; bytes = payload }) (record { low = x; high = top })) x w + k ≤ x + w → runs (keep r (record { number = n; bytes = payload }) (record { low = x; high = top })) false (first_missing (keep r (record { number = n; bytes = payload }) (record { low = x; high = top })) x w) k ≤ 64
  few_past few k high =
      let m = keep r (record { number = n; bytes = payload }) (record { low = x; high = top }) in
      let y = first_missing m x w in
      let up = fm_low m x w in
      let past = missing_past in
      let same : runs m false y k ≡ runs r false y k = runs_agree m r false y k (λ j at. keep_past r n payload x top j (omega arith)) in
      ⊎_elim (λ (a : y < x + w).
      let none : r y ≡ None = keep_none r n payload x top y (fm_none m x w a) in
      let less = runs_later r false x (y + k - x) y k up (omega arith) none in
      let all = few (y + k - x) in
      omega arith)
      (λ (a : x + w ≤ y).
      let z : k ≡ 0 = omega arith in
      let none : runs m false y k ≡ 0 = ap (runs m false y) z in
      omega arith)
      (or_lt y (x + w))

-- ---- where there are no bytes

no_more : (o : Option ℕ) (i : Bool) (x : ℕ) → o ≡ None → x ≤ 0 → (if is_some o && not i then 1 else 0) + x ≤ 0
no_more None i x e h = both_left 0 x 0 h
no_more (Some b) i x e h = absurd (cc)

pub none_runs : (m : ℕ → Option ℕ) (i : Bool) (p k : ℕ) → ((j : ℕ) → p ≤ j → m j ≡ None) → runs m i p k ≤ 0
none_runs m i p zero none = zero_low 0
none_runs m i p (suc k) none = no_more (m p) i (runs m (is_some (m p)) (suc p) k) (none p (omega arith)) (none_runs m (is_some (m p)) (suc p) k (λ j low. none j (omega arith)))

pub runs_edge : (m : ℕ → Option ℕ) (i : Bool) (p n k : ℕ) → ((j : ℕ) → p + n ≤ j → m j ≡ None) → runs m i p k ≤ runs m i p n
runs_edge m i p n zero none = zero_low (runs m i p n)
runs_edge m i p zero (suc k) none = none_runs m i p (suc k) (λ j low. none j (omega arith))
runs_edge m i p (suc n) (suc k) none = both_left (if is_some (m p) && not i then 1 else 0) (runs m (is_some (m p)) (suc p) k) (runs m (is_some (m p)) (suc p) n) (runs_edge m (is_some (m p)) (suc p) n k (λ j low. none j (omega arith)))

-- from a later number without a byte there are as few
pub few_later : (m : ℕ → Option ℕ) (x y : ℕ) → HasFewRuns m x → x ≤ y → m y ≡ None → HasFewRuns m y
few_later m x y few up none k = let less = runs_later m false x (y - x + k) y k up (omega arith) none in let all = few (y - x + k) in omega arith

pub few_none : (m : ℕ → Option ℕ) (x : ℕ) → ((j : ℕ) → m j ≡ None) → HasFewRuns m x
few_none m x none k = let low = none_runs m false x k (λ j at. none j) in omega arith
