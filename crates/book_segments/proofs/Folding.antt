-- A folded sum is the plain sum modulo 65535, and is 0 for 0 alone.
use Rattle.std.proofs.Common.{◌≡◌, ℕ, zero, suc, ◌+◌, ◌-◌, ◌*◌, ◌/◌, ◌%◌, ◌<◌, ◌≤◌, true, nat_lt, List, refl, sym, ◌∙◌, inl, inr, arith}
use Rattle.std.specs.Prelude.{◌==◌, ◌&&◌, if◌then◌else◌}
use Rattle.std.proofs.lemmas.Bool.{cases_eq, lt-ltb, ltb-true, eq-eqb, eqb-true, ne_eqb, and_parts}
use Rattle.book_segments.specs.Segments.{words_sum, sums, complement_of}
use Rattle.book_segments.specs.Folded.{by_carry, carried_in, folded}

record IsFold (s f : ℕ) : Type 0 where
  fits : f < 65536
  same : f % 65535 ≡ s % 65535
  none : s ≡ 0 → f ≡ 0
  some : 0 < s → 0 < f

folds_by : (c s k : ℕ) → s / 65536 ≡ c → s ≤ 65535 * suc k + 65535 → ((t : ℕ) → t ≤ 65535 * k + 65535 → IsFold t (carried_in k t)) → IsFold s (by_carry c s (carried_in k))
folds_by zero s k e le more = record { fits = omega (arith, e); same = refl; none = λ z. z; some = λ p. p }
folds_by (suc c) s k e le more =
    let less : s % 65536 + suc c ≤ 65535 * k + 65535 = omega (arith, e) in
    let some : 0 < s % 65536 + suc c = omega arith in
    let same : (s % 65536 + suc c) % 65535 ≡ s % 65535 = omega (arith, e) in
    let f = more (s % 65536 + suc c) less in
    record { fits = f.fits; same = f.same ∙ same; none = λ z. absurd (omega (arith, e)); some = λ p. f.some some }

folds : (k s : ℕ) → s ≤ 65535 * k + 65535 → IsFold s (carried_in k s)
folds zero s le = record { fits = omega arith; same = refl; none = λ e. e; some = λ p. p }
folds (suc k) s le = folds_by (s / 65536) s k refl le (folds k)

fold_of : (s : ℕ) → IsFold s (folded s)
fold_of s = folds (s / 65535) s (omega arith)

pub folded_fits : (s : ℕ) → folded s < 65536
folded_fits s = (fold_of s).fits

pub folded_same : (s : ℕ) → folded s % 65535 ≡ s % 65535
folded_same s = (fold_of s).same

-- ---- the checksum by the plain sum

sums_at : (s f : ℕ) → IsFold s f → (f == 65535) ≡ (nat_lt 0 s && (s % 65535 == 0))
sums_at s f is = elim (cases_eq s 0) [
  | inl e ↦ rw (is.none e, e) refl
  | inr n ↦
      let p : 0 < s = omega arith in
      let some = is.some p in let fits = is.fits in let same = is.same in
      elim (cases_eq (s % 65535) 0) [
        | inl e ↦ rw (eq-eqb f 65535 (omega arith), lt-ltb 0 s p, eq-eqb (s % 65535) 0 e) refl
        | inr m ↦ rw (ne_eqb f 65535 (λ e. absurd (omega arith)), lt-ltb 0 s p, ne_eqb (s % 65535) 0 m) refl
      ]
]

-- the checksum is right where the plain sum is above 0 and divisible by 65535
pub sums_by : (b : List ℕ) → sums b ≡ (nat_lt 0 (words_sum b) && (words_sum b % 65535 == 0))
unfolding sums
sums_by b = sums_at (words_sum b) (folded (words_sum b)) (fold_of (words_sum b))

pub sums_is_right : (b : List ℕ) → sums b ≡ true → (0 < words_sum b) × (words_sum b % 65535 ≡ 0)
sums_is_right b e =
    let both = and_parts (nat_lt 0 (words_sum b)) (words_sum b % 65535 == 0) (sym (sums_by b) ∙ e) in
    (ltb-true 0 (words_sum b) both.0, eqb-true (words_sum b % 65535) 0 both.1)

pub right_is_sums : (b : List ℕ) → (0 < words_sum b) × (words_sum b % 65535 ≡ 0) → sums b ≡ true
right_is_sums b h = sums_by b ∙ rw (lt-ltb 0 (words_sum b) h.0, eq-eqb (words_sum b % 65535) 0 h.1) refl

-- the checksum that makes a plain sum right
abbrev pub complement_at : ℕ → ℕ
complement_at s = if s == 0 then 65535 else (if s % 65535 == 0 then 0 else 65535 - s % 65535)

complement_folds : (s f : ℕ) → IsFold s f → complement_at s ≡ 65535 - f
complement_folds s f is = elim (cases_eq s 0) [
  | inl e ↦ let none = is.none e in rw (eq-eqb s 0 e) (omega arith)
  | inr n ↦
      let some = is.some (omega arith) in let fits = is.fits in let same = is.same in
      elim (cases_eq (s % 65535) 0) [
        | inl e ↦ rw (ne_eqb s 0 n, eq-eqb (s % 65535) 0 e) (omega arith)
        | inr m ↦ rw (ne_eqb s 0 n, ne_eqb (s % 65535) 0 m) (omega arith)
      ]
]

pub complement_by : (b : List ℕ) → complement_of b ≡ complement_at (words_sum b)
unfolding complement_of
complement_by b = sym (complement_folds (words_sum b) (folded (words_sum b)) (fold_of (words_sum b)))

pub complement_zero : (b : List ℕ) → words_sum b ≡ 0 → complement_of b ≡ 65535
complement_zero b e = complement_by b ∙ rw e refl

pub complement_none : (b : List ℕ) → 0 < words_sum b → words_sum b % 65535 ≡ 0 → complement_of b ≡ 0
complement_none b p e = complement_by b ∙ rw (ne_eqb (words_sum b) 0 (λ z. absurd (omega arith)), eq-eqb (words_sum b % 65535) 0 e) refl

pub complement_over : (b : List ℕ) → 0 < words_sum b → 0 < words_sum b % 65535 → complement_of b ≡ 65535 - words_sum b % 65535
complement_over b p m = complement_by b ∙ rw (ne_eqb (words_sum b) 0 (λ z. absurd (omega arith)), ne_eqb (words_sum b % 65535) 0 (λ z. absurd (omega arith))) refl
