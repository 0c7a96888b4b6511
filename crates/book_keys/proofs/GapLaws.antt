-- A gap is the least time at which no row is sendable.
use Rattle.std.proofs.Common.{◌≡◌, ◌↔◌, ℕ, zero, suc, ◌+◌, ◌-◌, ◌<◌, ◌≤◌, Bool, true, false, ◌&&◌, ◌||◌, List, [], ◌∷◌, Option, Some, None, ◌⊎◌, inl, inr, refl, ap, subst, arith, if◌then◌else◌}
use Rattle.std.proofs.lemmas.Bool.{cases_order}
use Rattle.book_base.specs.declared.address.Pair.{Pair}
use Rattle.book_keys.specs.declared.lint.LintAnswer.TheVariants as answer
use Rattle.book_keys.specs.declared.plan.Plan.{Plan}
use Rattle.book_keys.specs.Lifetimes.{contains, is_covered}
use Rattle.book_keys.specs.Rows.{Row, matches, sends}
use Rattle.book_keys.specs.Plans.{mirrored, Aligned, Reason, NoPeerRow, ShortAccept, Misaligned, misaligned_answer, first_misaligned, send_lifetimes, has_sendable, first_failing, gap, IsGap, lint_answer, lint_rows}
use Rattle.book_keys.proofs.UnmetLaws.{none_misaligned, aligned_has_none}

-- among so many times from low on, each passes the test; or this is the least that fails
abbrev IsFailing : (ℕ → Bool) → ℕ → ℕ → Option ℕ → Type 0
IsFailing good low n None = (t : ℕ) → low ≤ t → t < low + n → good t ≡ true
IsFailing good low n (Some time) = (low ≤ time) × (time < low + n) × (good time ≡ false) × ((t : ℕ) → low ≤ t → t < time → good t ≡ true)

-- the time itself, or a later one
pub here_or_later : (low t : ℕ) → low ≤ t → (low ≡ t) ⊎ (low + 1 ≤ t)
here_or_later zero zero h = inl refl
here_or_later zero (suc t) h = inr (omega arith)
here_or_later (suc low) zero h = absurd (omega arith)
here_or_later (suc low) (suc t) h = elim (here_or_later low t (omega arith)) [
  | inl e ↦ inl (omega arith)
  | inr e ↦ inr (omega arith)
]

from_here : (good : ℕ → Bool) (low high : ℕ) → good low ≡ true → ((t : ℕ) → low + 1 ≤ t → t < high → good t ≡ true) → (t : ℕ) → low ≤ t → t < high → good t ≡ true
from_here good low high here more t a b = elim (here_or_later low t a) [
  | inl e ↦ subst (λ (u : ℕ). good u ≡ true) e here
  | inr e ↦ more t e b
]

none_here : (good : ℕ → Bool) (low n : ℕ) → good low ≡ true → (o : Option ℕ) → IsFailing good (low + 1) n o → IsFailing good low (suc n) o
none_here good low n here None f = λ t a b. from_here good low (low + suc n) here (λ u c d. f u c (omega arith)) t a b
none_here good low n here (Some x) f = let f0 = f.0 in let f1 = f.1 in (omega arith, omega arith, f.2, from_here good low x here f.3)

failing : (good : ℕ → Bool) (low n : ℕ) → IsFailing good low n (first_failing good low n)
failing good low zero = λ t a b. absurd (omega arith)
failing good low (suc n) = by_test (good low) refl (failing good (low + 1) n)
  where
    by_test : (b : Bool) → good low ≡ b → IsFailing good (low + 1) n (first_failing good (low + 1) n)
        → IsFailing good low (suc n) (if b then first_failing good (low + 1) n else Some low)
    by_test true is more = none_here good low n is (first_failing good (low + 1) n) more
    by_test false is more = (omega arith, omega arith, is, λ t a b. absurd (omega arith))

-- there is one such answer
only_one : (good : ℕ → Bool) (low n : ℕ) (o p : Option ℕ) → IsFailing good low n o → IsFailing good low n p → o ≡ p
only_one good low n None None f g = refl
only_one good low n None (Some y) f g = let no_way = f y g.0 g.1 in let fails = g.2 in absurd (cc)
only_one good low n (Some x) None f g = let no_way = g x f.0 f.1 in let fails = f.2 in absurd (cc)
only_one good low n (Some x) (Some y) f g =
    elim (cases_order x y) [
      | inl e ↦ ap Some e
      | inr (inl lt) ↦ let no_way = g.3 x f.0 lt in let fails = f.2 in absurd (cc)
      | inr (inr gt) ↦ let no_way = f.3 y g.0 gt in let fails = g.2 in absurd (cc)
    ]

to_gap : (rows : List Row) (pair : Pair) (low high : ℕ) (o : Option ℕ) → IsFailing (has_sendable rows pair) low (high + 1 - low) o → IsGap rows pair low high o
to_gap rows pair low high None f = λ t a b. f t a (omega arith)
to_gap rows pair low high (Some x) f = let f0 = f.0 in let f1 = f.1 in (f.0, omega arith, f.2, f.3)

from_gap : (rows : List Row) (pair : Pair) (low high : ℕ) (o : Option ℕ) → IsGap rows pair low high o → IsFailing (has_sendable rows pair) low (high + 1 - low) o
from_gap rows pair low high None f = λ t a b. f t a (omega arith)
from_gap rows pair low high (Some x) f = let f0 = f.0 in let f1 = f.1 in (f.0, omega arith, f.2, f.3)

pub gap_is : (rows : List Row) (pair : Pair) (low high : ℕ) → IsGap rows pair low high (gap rows pair low high)
unfolding gap
gap_is rows pair low high =
    to_gap rows pair low high (first_failing (has_sendable rows pair) low (high + 1 - low)) (failing (has_sendable rows pair) low (high + 1 - low))

pub is_gap : (rows : List Row) (pair : Pair) (low high : ℕ) (o : Option ℕ) → IsGap rows pair low high o → gap rows pair low high ≡ o
unfolding gap
is_gap rows pair low high o h =
    only_one (has_sendable rows pair) low (high + 1 - low) (first_failing (has_sendable rows pair) low (high + 1 - low)) o
    (failing (has_sendable rows pair) low (high + 1 - low)) (from_gap rows pair low high o h)

pub gap_exactly : (rows : List Row) (pair : Pair) (low high : ℕ) (o : Option ℕ) → (gap rows pair low high ≡ o) ↔ IsGap rows pair low high o
gap_exactly rows pair low high o = (
  λ e. subst (λ (x : Option ℕ). IsGap rows pair low high x) e (gap_is rows pair low high),
  is_gap rows pair low high o,
)

-- a time is covered exactly where a row is sendable
pub covered_is_sendable : (rows : List Row) (pair : Pair) (time : ℕ) → is_covered (send_lifetimes rows pair) time ≡ has_sendable rows pair time
covered_is_sendable [] pair time = refl
covered_is_sendable (r ∷ rs) pair time = by_test (matches r pair) (sends r.direction) (covered_is_sendable rs pair time)
  where
    by_test : (a b : Bool) → is_covered (send_lifetimes rs pair) time ≡ has_sendable rs pair time
        → is_covered (if a && b then r.sending ∷ send_lifetimes rs pair else send_lifetimes rs pair) time ≡ ((a && (b && contains r.sending time)) || has_sendable rs pair time)
    by_test true true more = ap (λ x. contains r.sending time || x) more
    by_test true false more = more
    by_test false b more = more

-- ---- the judgement

answer_aligned : (m : Option Misaligned) (g h : Option ℕ) → lint_answer m g h ≡ answer.Aligned → (m ≡ None) × (g ≡ None) × (h ≡ None)
answer_aligned (Some m) g h e = absurd (by_reason m.reason m e)
  where
    by_reason : (r : Reason) (m : Misaligned) → misaligned_answer (record m { reason = r }) ≡ answer.Aligned → ⊥
    by_reason NoPeerRow m e = cc
    by_reason ShortAccept m e = cc
answer_aligned None (Some t) h e = absurd (cc)
answer_aligned None None (Some t) e = absurd (cc)
answer_aligned None None None e = (refl, refl, refl)

aligned_answer : (m : Option Misaligned) (g h : Option ℕ) → m ≡ None → g ≡ None → h ≡ None → lint_answer m g h ≡ answer.Aligned
aligned_answer None None None a b c = refl
aligned_answer (Some m) g h a b c = absurd (cc)
aligned_answer None (Some t) h a b c = absurd (cc)
aligned_answer None None (Some t) a b c = absurd (cc)

pub lint_aligned : (a b : List Row) (pair : Pair) (plan : Plan) → (lint_rows a b pair plan ≡ answer.Aligned)
    ↔ (Aligned a b pair plan.lead plan.lag × (gap a pair plan.from plan.to ≡ None) × (gap b (mirrored pair) plan.from plan.to ≡ None))
unfolding lint_rows
lint_aligned a b pair plan =
    let found = first_misaligned a b pair plan.lead plan.lag in
    let at_a = gap a pair plan.from plan.to in
    let at_b = gap b (mirrored pair) plan.from plan.to in (
      λ e. let t = answer_aligned found at_a at_b e in (none_misaligned a b pair plan.lead plan.lag t.0, t.1, t.2),
      λ h. aligned_answer found at_a at_b (aligned_has_none a b pair plan.lead plan.lag h.0) h.1 h.2,
    )
