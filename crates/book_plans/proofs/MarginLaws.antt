-- The margins tell with which leads and lags two tables are aligned.
use Rattle.std.proofs.Common.{◌≡◌, ◌↔◌, ℕ, zero, suc, ◌+◌, ◌-◌, ◌<◌, ◌≤◌, ◌==◌, max, min, Bool, true, false, ◌&&◌, ◌||◌, List, [], ◌∷◌, Option, Some, None, refl, sym, ap, ◌∙◌, subst, arith, nat_le, if◌then◌else◌}
use Rattle.std.proofs.lemmas.Bool.Decides.{nat_tests}
use Rattle.std.specs.List.{list_any, AllByRecursion}
use Rattle.book_base.specs.declared.address.Pair.{Pair}
use Rattle.std.proofs.lemmas.Bool.{eqb-false, leb-false}
use Rattle.book_segments.proofs.Fields.{and_tells, eqb_is, le_is}
use Rattle.book_keys.specs.declared.plan.Plan.{Plan}
use Rattle.book_keys.specs.declared.lifetime.Lifetime.{Lifetime}
use Rattle.book_keys.specs.declared.lint.LintAnswer.TheVariants as answer
use Rattle.book_keys.specs.Lifetimes.{greatest_time, contains}
use Rattle.book_keys.specs.Rows.{Row, Table, sends_for}
use Rattle.book_keys.specs.Plans.{mirrored, accepts_from, outlasts, accepts_throughout, IsMet, AlignedFrom, Aligned, gap, rows_at, lint_rows, lint_of}
use Rattle.book_keys.proofs.GapLaws.{lint_aligned}
use Rattle.book_plans.specs.declared.margin.Margin.{Margin}
use Rattle.book_plans.specs.declared.margin.Margin.TheVariants.{UpTo, Any}
use Rattle.book_plans.specs.Margins.{is_within, IsMargin, wider, narrower, widest, narrowest, time_before, time_after, margin_where, lead_by, lag_by, lead_of_row, lag_of_row, lead_from, lag_from, lead_margin, lag_margin, lead_margin_of, lag_margin_of, IsOrdered, AreOrdered, AlignedAtLead, AlignedAtLag, SaysAlignedAtLead, SaysAlignedAtLag}
use Rattle.book_keys.proofs.PlanLaws.{from_contains, to_contains}

-- ---- tests that hold together

same_test : (a b : Bool) → (a ≡ true → b ≡ true) → (b ≡ true → a ≡ true) → a ≡ b
same_test true b f g = sym (f refl)
same_test false true f g = g refl
same_test false false f g = refl

both_true : (a b : Bool) → a ≡ true → b ≡ true → (a && b) ≡ true
both_true true b e f = f
both_true false b e f = absurd (cc)

or_regroups : (a b c : Bool) → ((a || b) || c) ≡ (a || (b || c))
or_regroups true b c = refl
or_regroups false b c = refl

le_true : (a b : ℕ) → a ≤ b → nat_le a b ≡ true
le_true a b low = grind (arith, nat_tests)

-- ---- the greater and the lesser margin

within_max : (n one two : ℕ) → nat_le n (max one two) ≡ (nat_le n one || nat_le n two)
within_max n one two = grind (arith, nat_tests)

within_min : (n one two : ℕ) → nat_le n (min one two) ≡ (nat_le n one && nat_le n two)
within_min n one two = grind (arith, nat_tests)

or_true : (a : Bool) → true ≡ (a || true)
or_true true = refl
or_true false = refl

or_false : (a : Bool) → a ≡ (a || false)
or_false true = refl
or_false false = refl

and_true : (a : Bool) → a ≡ (a && true)
and_true true = refl
and_true false = refl

and_false : (a : Bool) → false ≡ (a && false)
and_false true = refl
and_false false = refl

within_wider : (one two : Option Margin) (n : ℕ) → is_within (wider one two) n ≡ (is_within one n || is_within two n)
within_wider None two n = refl
within_wider (Some Any) two n = refl
within_wider (Some (UpTo one)) None n = or_false (nat_le n one)
within_wider (Some (UpTo one)) (Some Any) n = or_true (nat_le n one)
within_wider (Some (UpTo one)) (Some (UpTo two)) n = within_max n one two

within_narrower : (one two : Option Margin) (n : ℕ) → is_within (narrower one two) n ≡ (is_within one n && is_within two n)
within_narrower None two n = refl
within_narrower (Some Any) two n = refl
within_narrower (Some (UpTo one)) None n = and_false (nat_le n one)
within_narrower (Some (UpTo one)) (Some Any) n = and_true (nat_le n one)
within_narrower (Some (UpTo one)) (Some (UpTo two)) n = within_min n one two

-- ---- one row of the other end

-- accepting from so long before, where it lasts until sending begins
before_exactly : (accepted : Lifetime) (sent lead : ℕ) → sent ≤ accepted.last
    → contains accepted (sent - lead) ≡ (contains accepted (sent - 0) && is_within (Some (time_before accepted.first sent)) lead)
before_exactly accepted sent lead late = by_test (accepted.first == 0) refl
  where
    by_test : (b : Bool) → (accepted.first == 0) ≡ b
        → contains accepted (sent - lead) ≡ (contains accepted (sent - 0) && is_within (Some (if b then Any else UpTo (sent - accepted.first))) lead)
    by_test true is =
        let start = eqb_is accepted.first 0 is in
        same_test (contains accepted (sent - lead)) (contains accepted (sent - 0) && true)
        (λ e. both_true (contains accepted (sent - 0)) true (to_contains accepted (sent - 0) (omega arith) (omega arith)) refl)
        (λ e. to_contains accepted (sent - lead) (omega arith) (omega arith))
    by_test false is =
        let some = eqb-false accepted.first 0 is in
        same_test (contains accepted (sent - lead)) (contains accepted (sent - 0) && nat_le lead (sent - accepted.first))
        (λ e. let c = (from_contains accepted (sent - lead) e).0 in
        both_true (contains accepted (sent - 0)) (nat_le lead (sent - accepted.first))
        (to_contains accepted (sent - 0) (omega arith) (omega arith)) (le_true lead (sent - accepted.first) (omega arith)))
        (λ e. let t = and_tells (contains accepted (sent - 0)) (nat_le lead (sent - accepted.first)) e in
        let c = (from_contains accepted (sent - 0) t.0).0 in
        let low = le_is lead (sent - accepted.first) t.1 in
        to_contains accepted (sent - lead) (omega arith) (omega arith))

-- accepting until so long after, where it begins by the time that sending ends
after_exactly : (accepted : Lifetime) (sent lag : ℕ) → accepted.first ≤ sent → sent ≤ greatest_time
    → contains accepted (min greatest_time (sent + lag))
    ≡ (contains accepted (min greatest_time (sent + 0)) && is_within (Some (time_after accepted.last sent)) lag)
after_exactly accepted sent lag early written = by_test (nat_le greatest_time accepted.last) refl
  where
    by_test : (b : Bool) → nat_le greatest_time accepted.last ≡ b
        → contains accepted (min greatest_time (sent + lag))
        ≡ (contains accepted (min greatest_time (sent + 0)) && is_within (Some (if b then Any else UpTo (accepted.last - sent))) lag)
    by_test true is =
        let end = le_is greatest_time accepted.last is in
        same_test (contains accepted (min greatest_time (sent + lag))) (contains accepted (min greatest_time (sent + 0)) && true)
        (λ e. both_true (contains accepted (min greatest_time (sent + 0))) true (to_contains accepted (min greatest_time (sent + 0)) (omega arith) (omega arith)) refl)
        (λ e. to_contains accepted (min greatest_time (sent + lag)) (omega arith) (omega arith))
    by_test false is =
        let end = leb-false greatest_time accepted.last is in
        same_test (contains accepted (min greatest_time (sent + lag))) (contains accepted (min greatest_time (sent + 0)) && nat_le lag (accepted.last - sent))
        (λ e. let c = (from_contains accepted (min greatest_time (sent + lag)) e).1 in
        both_true (contains accepted (min greatest_time (sent + 0))) (nat_le lag (accepted.last - sent))
        (to_contains accepted (min greatest_time (sent + 0)) (omega arith) (omega arith)) (le_true lag (accepted.last - sent) (omega arith)))
        (λ e. let t = and_tells (contains accepted (min greatest_time (sent + 0))) (nat_le lag (accepted.last - sent)) e in
        let c = (from_contains accepted (min greatest_time (sent + 0)) t.0).1 in
        let low = le_is lag (accepted.last - sent) t.1 in
        to_contains accepted (min greatest_time (sent + lag)) (omega arith) (omega arith))

-- the margin of the first of two tests, where the second holds
first_within : (a one two now : Bool) (m : Margin) (n : ℕ) → (two ≡ true → now ≡ (one && is_within (Some m) n))
    → is_within (margin_where (a && (one && two)) m) n ≡ (a && (now && two))
first_within false one two now m n h = refl
first_within true true true now m n h = sym (h refl) ∙ and_true now
first_within true false true now m n h = sym (h refl) ∙ and_true now
first_within true true false now m n h = and_false now
first_within true false false now m n h = and_false now

-- the margin of the second, where the first holds
second_within : (a one two now : Bool) (m : Margin) (n : ℕ) → (one ≡ true → now ≡ (two && is_within (Some m) n))
    → is_within (margin_where (a && (one && two)) m) n ≡ (a && (one && now))
second_within false one two now m n h = refl
second_within true false two now m n h = refl
second_within true true true now m n h = sym (h refl)
second_within true true false now m n h = sym (h refl)

lead_exactly : (pair : Pair) (lag lead : ℕ) (r other : Row) → IsOrdered r
    → is_within (lead_by pair lag r other) lead ≡ accepts_throughout pair lead lag r other
lead_exactly pair lag lead r other good =
    first_within (accepts_from pair r other) (contains other.accepting (r.sending.first - 0)) (contains other.accepting (min greatest_time (r.sending.last + lag)))
    (contains other.accepting (r.sending.first - lead)) (time_before other.accepting.first r.sending.first) lead
    (λ e. let c = (from_contains other.accepting (min greatest_time (r.sending.last + lag)) e).1 in
    let ordered = good.ordered in
    let written = good.written in
    before_exactly other.accepting r.sending.first lead (omega arith))

lag_exactly : (pair : Pair) (lead lag : ℕ) (r other : Row) → IsOrdered r
    → is_within (lag_by pair lead r other) lag ≡ accepts_throughout pair lead lag r other
lag_exactly pair lead lag r other good =
    second_within (accepts_from pair r other) (contains other.accepting (r.sending.first - lead)) (contains other.accepting (min greatest_time (r.sending.last + 0)))
    (contains other.accepting (min greatest_time (r.sending.last + lag))) (time_after other.accepting.last r.sending.last) lag
    (λ e. let c = (from_contains other.accepting (r.sending.first - lead) e).0 in
    let ordered = good.ordered in
    let written = good.written in
    after_exactly other.accepting r.sending.last lag (omega arith) (omega arith))

-- ---- the rows of the other end, and one row

-- the widest margin reaches a number exactly where that of some row does
within_widest : (margin : Row → Option Margin) (good : Row → Bool) (n : ℕ) (so_far : Option Margin) (rows : List Row)
    → ((o : Row) → is_within (margin o) n ≡ good o) → is_within (widest margin so_far rows) n ≡ (is_within so_far n || list_any good rows)
within_widest margin good n so_far [] each = or_false (is_within so_far n)
within_widest margin good n so_far (o ∷ os) each =
    within_widest margin good n (wider so_far (margin o)) os each
    ∙ ap (λ b. b || list_any good os) (within_wider so_far (margin o) n ∙ ap (λ b. is_within so_far n || b) (each o))
    ∙ or_regroups (is_within so_far n) (good o) (list_any good os)

if_sending : (b any : Bool) (m : Option Margin) (n : ℕ) → is_within m n ≡ any → is_within (if b then m else Some Any) n ≡ true → b ≡ true → any ≡ true
if_sending true any m n h e s = sym h ∙ e
if_sending false any m n h e s = absurd (cc)

or_any : (b any : Bool) (m : Option Margin) (n : ℕ) → is_within m n ≡ any → (b ≡ true → any ≡ true) → is_within (if b then m else Some Any) n ≡ true
or_any true any m n h met = h ∙ met refl
or_any false any m n h met = refl

-- ---- the rows of a table

-- the narrowest margin reaches a number exactly where those of all rows do
narrowest_tells : (margin : Row → Option Margin) (n : ℕ) (so_far : Option Margin) (rows : List Row) → is_within (narrowest margin so_far rows) n ≡ true
    → (is_within so_far n ≡ true) × AllByRecursion (λ r. is_within (margin r) n ≡ true) rows
narrowest_tells margin n so_far [] e = (e, tt)
narrowest_tells margin n so_far (r ∷ rs) e =
    let t = narrowest_tells margin n (narrower so_far (margin r)) rs e in
    let b = and_tells (is_within so_far n) (is_within (margin r) n) (sym (within_narrower so_far (margin r) n) ∙ t.0) in
    (b.0, (b.1, t.1))

narrowest_holds : (margin : Row → Option Margin) (n : ℕ) (so_far : Option Margin) (rows : List Row) → is_within so_far n ≡ true
    → AllByRecursion (λ r. is_within (margin r) n ≡ true) rows → is_within (narrowest margin so_far rows) n ≡ true
narrowest_holds margin n so_far [] e all = e
narrowest_holds margin n so_far (r ∷ rs) e all =
    narrowest_holds margin n (narrower so_far (margin r)) rs
    (within_narrower so_far (margin r) n ∙ both_true (is_within so_far n) (is_within (margin r) n) e all.0) all.1

each_of : (P Q : Row → Type 0) → ((r : Row) → IsOrdered r → P r → Q r) → (rows : List Row) → AreOrdered rows → AllByRecursion P rows → AllByRecursion Q rows
each_of P Q step [] ordered all = tt
each_of P Q step (r ∷ rs) ordered all = (step r ordered.0 all.0, each_of P Q step rs ordered.1 all.1)

lead_row : (others : List Row) (pair : Pair) (lead lag : ℕ) (r : Row) → IsOrdered r
    → is_within (widest (lead_by pair lag r) None others) lead ≡ list_any (accepts_throughout pair lead lag r) others
lead_row others pair lead lag r good =
    within_widest (lead_by pair lag r) (accepts_throughout pair lead lag r) lead None others (λ o. lead_exactly pair lag lead r o good)

lag_row : (others : List Row) (pair : Pair) (lead lag : ℕ) (r : Row) → IsOrdered r
    → is_within (widest (lag_by pair lead r) None others) lag ≡ list_any (accepts_throughout pair lead lag r) others
lag_row others pair lead lag r good =
    within_widest (lag_by pair lead r) (accepts_throughout pair lead lag r) lag None others (λ o. lag_exactly pair lead lag r o good)

lead_tells : (rows others : List Row) (pair : Pair) (lead lag : ℕ) → AreOrdered rows → is_within (lead_from rows others pair lag) lead ≡ true → AlignedFrom rows others pair lead lag
lead_tells rows others pair lead lag ordered e =
    each_of (λ r. is_within (lead_of_row others pair lag r) lead ≡ true) (IsMet others pair lead lag)
    (λ r good within. if_sending (sends_for pair r) (list_any (accepts_throughout pair lead lag r) others) (widest (lead_by pair lag r) None others) lead (lead_row others pair lead lag r good) within)
    rows ordered (narrowest_tells (lead_of_row others pair lag) lead (Some Any) rows e).1

lead_holds : (rows others : List Row) (pair : Pair) (lead lag : ℕ) → AreOrdered rows → AlignedFrom rows others pair lead lag → is_within (lead_from rows others pair lag) lead ≡ true
lead_holds rows others pair lead lag ordered aligned =
    narrowest_holds (lead_of_row others pair lag) lead (Some Any) rows refl
    (each_of (IsMet others pair lead lag) (λ r. is_within (lead_of_row others pair lag r) lead ≡ true)
    (λ r good met. or_any (sends_for pair r) (list_any (accepts_throughout pair lead lag r) others) (widest (lead_by pair lag r) None others) lead (lead_row others pair lead lag r good) met)
    rows ordered aligned)

lag_tells : (rows others : List Row) (pair : Pair) (lead lag : ℕ) → AreOrdered rows → is_within (lag_from rows others pair lead) lag ≡ true → AlignedFrom rows others pair lead lag
lag_tells rows others pair lead lag ordered e =
    each_of (λ r. is_within (lag_of_row others pair lead r) lag ≡ true) (IsMet others pair lead lag)
    (λ r good within. if_sending (sends_for pair r) (list_any (accepts_throughout pair lead lag r) others) (widest (lag_by pair lead r) None others) lag (lag_row others pair lead lag r good) within)
    rows ordered (narrowest_tells (lag_of_row others pair lead) lag (Some Any) rows e).1

lag_holds : (rows others : List Row) (pair : Pair) (lead lag : ℕ) → AreOrdered rows → AlignedFrom rows others pair lead lag → is_within (lag_from rows others pair lead) lag ≡ true
lag_holds rows others pair lead lag ordered aligned =
    narrowest_holds (lag_of_row others pair lead) lag (Some Any) rows refl
    (each_of (IsMet others pair lead lag) (λ r. is_within (lag_of_row others pair lead r) lag ≡ true)
    (λ r good met. or_any (sends_for pair r) (list_any (accepts_throughout pair lead lag r) others) (widest (lag_by pair lead r) None others) lag (lag_row others pair lead lag r good) met)
    rows ordered aligned)

-- ---- both ends

lead_aligned : (a b : List Row) (pair : Pair) (lead lag : ℕ) → AreOrdered a → AreOrdered b → (is_within (lead_margin a b pair lag) lead ≡ true) ↔ Aligned a b pair lead lag
lead_aligned a b pair lead lag at_a at_b = (
  λ e. let t = and_tells (is_within (lead_from a b pair lag) lead) (is_within (lead_from b a (mirrored pair) lag) lead)
      (sym (within_narrower (lead_from a b pair lag) (lead_from b a (mirrored pair) lag) lead) ∙ e) in
      (lead_tells a b pair lead lag at_a t.0, lead_tells b a (mirrored pair) lead lag at_b t.1),
  λ h. within_narrower (lead_from a b pair lag) (lead_from b a (mirrored pair) lag) lead
      ∙ both_true (is_within (lead_from a b pair lag) lead) (is_within (lead_from b a (mirrored pair) lag) lead)
      (lead_holds a b pair lead lag at_a h.0) (lead_holds b a (mirrored pair) lead lag at_b h.1),
)

lag_aligned : (a b : List Row) (pair : Pair) (lead lag : ℕ) → AreOrdered a → AreOrdered b → (is_within (lag_margin a b pair lead) lag ≡ true) ↔ Aligned a b pair lead lag
lag_aligned a b pair lead lag at_a at_b = (
  λ e. let t = and_tells (is_within (lag_from a b pair lead) lag) (is_within (lag_from b a (mirrored pair) lead) lag)
      (sym (within_narrower (lag_from a b pair lead) (lag_from b a (mirrored pair) lead) lag) ∙ e) in
      (lag_tells a b pair lead lag at_a t.0, lag_tells b a (mirrored pair) lead lag at_b t.1),
  λ h. within_narrower (lag_from a b pair lead) (lag_from b a (mirrored pair) lead) lag
      ∙ both_true (is_within (lag_from a b pair lead) lag) (is_within (lag_from b a (mirrored pair) lead) lag)
      (lag_holds a b pair lead lag at_a h.0) (lag_holds b a (mirrored pair) lead lag at_b h.1),
)

-- what holds exactly of the numbers within a margin
is_margin : (Holds : ℕ → Type 0) (m : Option Margin) → ((n : ℕ) → (is_within m n ≡ true) ↔ Holds n) → IsMargin Holds m
is_margin Holds None exact = λ n holds. let e = (exact n).1 holds in absurd (cc)
is_margin Holds (Some Any) exact = λ n. (exact n).0 refl
is_margin Holds (Some (UpTo most)) exact = λ n. (λ holds. le_is n most ((exact n).1 holds), λ low. (exact n).0 (le_true n most low))

pub lead_greatest : (a b : List Row) (pair : Pair) (lag : ℕ) → AreOrdered a → AreOrdered b → IsMargin (AlignedAtLead a b pair lag) (lead_margin a b pair lag)
lead_greatest a b pair lag at_a at_b = is_margin (AlignedAtLead a b pair lag) (lead_margin a b pair lag) (λ lead. lead_aligned a b pair lead lag at_a at_b)

pub lag_greatest : (a b : List Row) (pair : Pair) (lead : ℕ) → AreOrdered a → AreOrdered b → IsMargin (AlignedAtLag a b pair lead) (lag_margin a b pair lead)
lag_greatest a b pair lead at_a at_b = is_margin (AlignedAtLag a b pair lead) (lag_margin a b pair lead) (λ lag. lag_aligned a b pair lead lag at_a at_b)

-- ---- the judgement

pub lead_judged : (tables : List Table) (pair : Pair) (plan : Plan)
    → AreOrdered (rows_at tables pair.local.address) → AreOrdered (rows_at tables pair.remote.address)
    → lint_of tables pair plan ≡ answer.Aligned
    → IsMargin (SaysAlignedAtLead tables pair plan) (lead_margin_of tables pair plan.lag)
lead_judged tables pair plan at_a at_b says =
    let a = rows_at tables pair.local.address in
    let b = rows_at tables pair.remote.address in
    let gaps = (lint_aligned a b pair plan).0 says in
    is_margin (SaysAlignedAtLead tables pair plan) (lead_margin_of tables pair plan.lag) (λ n. (
      λ w. (lint_aligned a b pair (record plan { lead = n })).1 ((lead_aligned a b pair n plan.lag at_a at_b).0 w, gaps.1, gaps.2),
      λ s. (lead_aligned a b pair n plan.lag at_a at_b).1 ((lint_aligned a b pair (record plan { lead = n })).0 s).0,
    ))

pub lag_judged : (tables : List Table) (pair : Pair) (plan : Plan)
    → AreOrdered (rows_at tables pair.local.address) → AreOrdered (rows_at tables pair.remote.address)
    → lint_of tables pair plan ≡ answer.Aligned
    → IsMargin (SaysAlignedAtLag tables pair plan) (lag_margin_of tables pair plan.lead)
lag_judged tables pair plan at_a at_b says =
    let a = rows_at tables pair.local.address in
    let b = rows_at tables pair.remote.address in
    let gaps = (lint_aligned a b pair plan).0 says in
    is_margin (SaysAlignedAtLag tables pair plan) (lag_margin_of tables pair plan.lead) (λ n. (
      λ w. (lint_aligned a b pair (record plan { lag = n })).1 ((lag_aligned a b pair plan.lead n at_a at_b).0 w, gaps.1, gaps.2),
      λ s. (lag_aligned a b pair plan.lead n at_a at_b).1 ((lint_aligned a b pair (record plan { lag = n })).0 s).0,
    ))
