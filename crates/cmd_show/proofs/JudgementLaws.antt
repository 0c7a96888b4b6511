-- What a judgement makes of lifetimes that leave a time free, and what it promises of a rollover.
use Rattle.std.proofs.Common.{◌≡◌, ◌↔◌, ℕ, ◌≤◌, Bool, true, false, List, ◌++◌, length, drop, get_or, Option, Some, None, sym, ap, ◌∙◌}
use Rattle.std.proofs.lemmas.List.{append-nil, drop_all}
use Rattle.std.proofs.lemmas.List.Folds.{list_any_at}
use Rattle.std.specs.List.{list_any}
use Rattle.std.specs.Prelude.{IfSome, IfNone}
use Rattle.book_base.specs.declared.address.Pair.{Pair}
use Rattle.book_keys.specs.declared.lifetime.Lifetime.{Lifetime}
use Rattle.book_keys.specs.declared.lint.LintAnswer.TheVariants as answer
use Rattle.book_keys.specs.Lifetimes.{is_covered, IsFirstGap}
use Rattle.book_segments.proofs.Fields.{and_tells}
use Rattle.book_keys.proofs.PlanLaws.{found_at}
use Rattle.book_keys.specs.Plans.{accepts_from, accepts_throughout, outlasts, mirrored, send_lifetimes, has_sendable, gap, IsGap, lint_rows}
use Rattle.book_keys.specs.Rows.{Row}
use Rattle.book_keys.proofs.GapLaws.{covered_is_sendable, gap_exactly, is_gap, lint_aligned}
use Rattle.cmd_show.specs.CarriesThrough.{CarriesThrough}

-- a row that accepts throughout accepts
pub accepted_too : (others : List Row) (pair : Pair) (lead lag : ℕ) (r : Row) → list_any (accepts_throughout pair lead lag r) others ≡ true → list_any (accepts_from pair r) others ≡ true
accepted_too others pair lead lag r e =
    let f = found_at (accepts_throughout pair lead lag r) others r e in
    let o = get_or others f.0 r in
    list_any_at (accepts_from pair r) others f.0 r f.1 (and_tells (accepts_from pair r o) (outlasts lead lag r o) f.2).0

-- once all rows are read, the lifetimes that were kept are all
pub all_kept : (kept : List Lifetime) (rows : List Row) (i : ℕ) (pair : Pair) → length rows ≤ i
    → kept ++ send_lifetimes (drop i rows) pair ≡ send_lifetimes rows pair → kept ≡ send_lifetimes rows pair
all_kept kept rows i pair past so_far = sym (append-nil kept) ∙ (rw (drop_all i rows past) at so_far)

-- the first time that the lifetimes leave free is the gap
pub gap_told : (ls : List Lifetime) (rows : List Row) (pair : Pair) (low high : ℕ) (o : Option ℕ) → ls ≡ send_lifetimes rows pair
    → IfSome o (IsFirstGap ls low high) → IfNone o ((t : ℕ) → low ≤ t → t ≤ high → is_covered ls t ≡ true) → o ≡ gap rows pair low high
gap_told ls rows pair low high o same some none = sym (is_gap rows pair low high o (told o some none))
  where
    sendable_at : (t : ℕ) (b : Bool) → is_covered ls t ≡ b → has_sendable rows pair t ≡ b
    sendable_at t b e = sym (covered_is_sendable rows pair t) ∙ sym (ap (λ l. is_covered l t) same) ∙ e

    told : (o : Option ℕ) → IfSome o (IsFirstGap ls low high) → IfNone o ((t : ℕ) → low ≤ t → t ≤ high → is_covered ls t ≡ true) → IsGap rows pair low high o
    told None some none = λ t a b. sendable_at t true (none t a b)
    told (Some time) first none = (first.above, first.below, sendable_at time false first.free, λ t a b. sendable_at t true (first.least t a b))

pub aligned_exactly : (a b : List Row) (pair : Pair) (lead lag low high : ℕ)
    → (lint_rows a b pair (record { lead = lead; lag = lag; from = low; to = high }) ≡ answer.Aligned) ↔ CarriesThrough a b pair lead lag low high
aligned_exactly a b pair lead lag low high =
    let law = lint_aligned a b pair (record { lead = lead; lag = lag; from = low; to = high }) in
    let here = gap_exactly a pair low high None in
    let there = gap_exactly b (mirrored pair) low high None in (
      λ e. let t = law.0 e in record { taken_at_b = t.0.0; taken_at_a = t.0.1; keyed_at_a = here.0 t.1; keyed_at_b = there.0 t.2 },
      λ h. law.1 ((h.taken_at_b, h.taken_at_a), here.1 h.keyed_at_a, there.1 h.keyed_at_b),
    )
