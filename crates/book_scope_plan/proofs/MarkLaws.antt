-- A slice is marked exactly where something is wrong at one of its times.
use Rattle.std.proofs.Common.{◌≡◌, ◌↔◌, ℕ, zero, suc, ◌+◌, ◌-◌, ◌<◌, ◌≤◌, max, Bool, true, false, not, ◌&&◌, ◌||◌, List, [], ◌∷◌, ◌++◌, map, Option, Some, None, ◌⊎◌, inl, inr, refl, sym, ap, ◌∙◌, arith, nat_le, get_or}
use Rattle.std.specs.Prelude.{slice_get, is_some, option_map}
use Rattle.std.specs.List.{list_any}
use Rattle.std.proofs.lemmas.Bool.{cases_lt}
use Rattle.std.proofs.lemmas.Bool.Decides.{nat_tests}
use Rattle.std.proofs.lemmas.List.Folds.{list_any-append}
use Rattle.book_base.specs.declared.address.Pair.{Pair}
use Rattle.book_base.specs.declared.end.End.{End}
use Rattle.book_base.specs.declared.end.End.TheVariants.{A, B}
use Rattle.book_keys.specs.declared.lint.LintAnswer.TheVariants as answer
use Rattle.book_keys.specs.declared.plan.Plan.{Plan}
use Rattle.book_keys.specs.Plans.{mirrored, Reason, NoPeerRow, ShortAccept, unmet_reason, has_sendable, lint_of, rows_at, rows_of_table}
use Rattle.book_keys.specs.Rows.{Row, Table, sendable}
use Rattle.book_plans.specs.declared.finding.Finding.{Finding}
use Rattle.book_plans.specs.Findings.{AreLongest, Span, failing_spans, finding_by, findings, gap_finding, gap_findings, unmet_findings, with_finding}
use Rattle.book_plans.proofs.FindingLaws.{are_longest, none_exactly}
use Rattle.book_scope_plan.specs.CalendarTexts.{side_of}
use Rattle.book_scope_plan.specs.PlanTexts.{node_with, plan_findings}
use Rattle.book_scope_plan.specs.declared.slice.Slice.{Slice}
use Rattle.book_scope_plan.specs.declared.duty.Duty.TheVariants.{Sends}
use Rattle.book_scope_plan.specs.BarOrders.{is_filled, row_filling}
use Rattle.book_scope_plan.specs.Bars.{is_marked, is_seen, numbered_sends, pair_at, slice_mark, wrong_byte}
use Rattle.book_scope_plan.specs.Slices.{all_pass, any_passes, filled_by, filling, times_in}
use Rattle.book_scope_plan.specs.Wrongs.{PassesWithin, is_wrong_at, is_wrong_from, sends_unmet}
use Rattle.book_scope_plan.proofs.FillingLaws.{any_false, not_none}

-- ---- tests at some of so many times

any_same : (f g : ℕ → Bool) (time n : ℕ) → ((t : ℕ) → f t ≡ g t) → any_passes f time n ≡ any_passes g time n
any_same f g time zero same = refl
any_same f g time (suc n) same = rw (same time, any_same f g (time + 1) n same) refl

or_four : (a b c d : Bool) → ((a || b) || (c || d)) ≡ ((a || c) || (b || d))
or_four true b c d = refl
or_four false true true d = refl
or_four false true false d = refl
or_four false false c d = refl

any_or : (f g : ℕ → Bool) (time n : ℕ) → any_passes (λ t. f t || g t) time n ≡ (any_passes f time n || any_passes g time n)
any_or f g time zero = refl
any_or f g time (suc n) = rw (any_or f g (time + 1) n) (or_four (f time) (g time) (any_passes f (time + 1) n) (any_passes g (time + 1) n))

found_from : (test : ℕ → Bool) (time n : ℕ) (b : Bool) → test time ≡ b
    → (any_passes test (time + 1) n ≡ true → (t : ℕ) × (time + 1 ≤ t) × (t < time + 1 + n) × (test t ≡ true))
    → (b || any_passes test (time + 1) n) ≡ true → (t : ℕ) × (time ≤ t) × (t < time + suc n) × (test t ≡ true)
found_from test time n true is later h = (time, omega arith, omega arith, is)
found_from test time n false is later h = let f = later h in let low = f.1 in let high = f.2 in (f.0, omega arith, omega arith, f.3)

found_at : (test : ℕ → Bool) (time n : ℕ) → any_passes test time n ≡ true → (t : ℕ) × (time ≤ t) × (t < time + n) × (test t ≡ true)
found_at test time zero h = absurd (cc)
found_at test time (suc n) h = found_from test time n (test time) refl (found_at test (time + 1) n) h

pub within_exactly : (test : ℕ → Bool) (s : Slice) → (any_passes test s.first (times_in s) ≡ true) ↔ PassesWithin test s
within_exactly test s = (
  λ h. let f = found_at test s.first (times_in s) h in let high = f.2 in (f.0, f.1, omega arith, f.3),
  λ f. let low = f.1 in let high = f.2 in not_none test s.first (times_in s) f.0 low (omega arith) f.3,
)

-- ---- rows that aren't met

filled_some : (some all : Bool) → is_filled (filled_by some all) ≡ some
filled_some true true = refl
filled_some true false = refl
filled_some false all = refl

pub sends_in : (pair : Pair) (s : Slice) (r : Row) → is_filled (row_filling pair Sends r s) ≡ any_passes (λ t. sendable pair t r) s.first (times_in s)
unfolding filling
sends_in pair s r = filled_some (any_passes (λ t. sendable pair t r) s.first (times_in s)) (all_pass (λ t. sendable pair t r) s.first (times_in s))

module _ (a b : Table) (pair : Pair) (s : Slice) (end : End) (reason : Row → Option Reason) where
  abbrev here : Pair
  here = pair_at end pair

  abbrev unmet : List Row → ℕ → Bool
  unmet rs t = list_any (λ r. sendable here t r && is_some (reason r)) rs

  and_false : (x : Bool) → (x && false) ≡ false
  and_false true = refl
  and_false false = refl

  and_true : (x : Bool) → (x && true) ≡ x
  and_true true = refl
  and_true false = refl

  -- a row that is met is passed over
  met_row : (r : Row) (rs : List Row) → any_passes (unmet rs) s.first (times_in s)
      ≡ any_passes (λ t. (sendable here t r && false) || unmet rs t) s.first (times_in s)
  met_row r rs = any_same (unmet rs) (λ t. (sendable here t r && false) || unmet rs t) s.first (times_in s) (λ t. rw (and_false (sendable here t r)) refl)

  -- one that isn't is seen where it may send
  unmet_row : (r : Row) (rs : List Row) → (any_passes (λ t. sendable here t r) s.first (times_in s) || any_passes (unmet rs) s.first (times_in s))
      ≡ any_passes (λ t. (sendable here t r && true) || unmet rs t) s.first (times_in s)
  unmet_row r rs =
      sym (any_or (λ t. sendable here t r) (unmet rs) s.first (times_in s))
      ∙ any_same (λ t. sendable here t r || unmet rs t) (λ t. (sendable here t r && true) || unmet rs t) s.first (times_in s) (λ t. rw (and_true (sendable here t r)) refl)

  seen_at : (k : ℕ) (r : Row) → slice_get (side_of end a b).rows k ≡ Some r
      → numbered_sends (side_of end a b).rows here s (k + 1) ≡ any_passes (λ t. sendable here t r) s.first (times_in s)
  seen_at k r is = let at : k + 1 - 1 ≡ k = omega arith in rw (at, is) (sends_in here s r)

  by_reason : (k : ℕ) (r : Row) (rs : List Row) (o : Option Reason) (fs : List Finding) → slice_get (side_of end a b).rows k ≡ Some r
      → list_any (is_seen a b pair s) fs ≡ any_passes (unmet rs) s.first (times_in s)
      → list_any (is_seen a b pair s) (with_finding (option_map (finding_by end (k + 1)) o) fs)
      ≡ any_passes (λ t. (sendable here t r && is_some o) || unmet rs t) s.first (times_in s)
  by_reason k r rs None fs is more = more ∙ met_row r rs
  by_reason k r rs (Some NoPeerRow) fs is more = rw (seen_at k r is, more) (unmet_row r rs)
  by_reason k r rs (Some ShortAccept) fs is more = rw (seen_at k r is, more) (unmet_row r rs)

  -- rows behind so many others
  unmet_seen : (k : ℕ) (rs : List Row) → ((i : ℕ) → slice_get (side_of end a b).rows (k + i) ≡ slice_get rs i)
      → list_any (is_seen a b pair s) (unmet_findings reason end (k + 1) rs) ≡ any_passes (unmet rs) s.first (times_in s)
  unmet_seen k [] at = sym (any_false (unmet []) s.first (times_in s) (λ t low high. refl))
  unmet_seen k (r ∷ rs) at =
      let first : k + 0 ≡ k = omega arith in
      by_reason k r rs (reason r) (unmet_findings reason end (k + 1 + 1) rs) (rw first at (at 0))
      (unmet_seen (k + 1) rs (λ i. let next : k + 1 + i ≡ k + suc i = omega arith in rw next (at (suc i))))

  pub rows_seen : list_any (is_seen a b pair s) (unmet_findings reason end 1 (side_of end a b).rows)
      ≡ any_passes (unmet (side_of end a b).rows) s.first (times_in s)
  rows_seen = unmet_seen 0 (side_of end a b).rows (λ i. let same : 0 + i ≡ i = omega arith in rw same refl)

-- ---- gaps

le_holds : (x y : ℕ) → nat_le x y ≡ true → x ≤ y
le_holds x y h = grind (arith, nat_tests)

le_fails : (x y : ℕ) → nat_le x y ≡ false → y < x
le_fails x y h = grind (arith, nat_tests)

or_in : (x y : Bool) → (x || y) ≡ true → (x ≡ true) ⊎ (y ≡ true)
or_in true y h = inl refl
or_in false y h = inr h

or_left : (x y : Bool) → x ≡ true → (x || y) ≡ true
or_left true y h = refl
or_left false y h = absurd (cc)

or_right : (x y : Bool) → y ≡ true → (x || y) ≡ true
or_right true y h = refl
or_right false y h = h

and_both : (x y : Bool) → (x && y) ≡ true → (x ≡ true) × (y ≡ true)
and_both true y h = (refl, h)
and_both false y h = absurd (cc)

not_true : (x : Bool) → not x ≡ true → x ≡ false
not_true true h = absurd (cc)
not_true false h = refl

not_false : (x : Bool) → x ≡ false → not x ≡ true
not_false true h = absurd (cc)
not_false false h = refl

common : (first last : ℕ) (s : Slice) → first ≤ s.last → s.first ≤ last → (nat_le first s.last && nat_le s.first last) ≡ true
common first last s low high =
    let one : nat_le first s.last ≡ true = grind (arith, nat_tests) in
    let two : nat_le s.first last ≡ true = grind (arith, nat_tests) in
    rw (one, two) refl

module _ (a b : Table) (pair : Pair) (s : Slice) (order : s.first ≤ s.last) (end : End) (good : ℕ → Bool) where
  abbrev gaps : List Span → List Finding
  gaps ss = map (gap_finding end) ss

  -- a gap that is seen has a time of the slice
  seen_gap : (low stop : ℕ) (ss : List Span) → AreLongest good low stop ss → list_any (is_seen a b pair s) (gaps ss) ≡ true
      → (t : ℕ) × (s.first ≤ t) × (t ≤ s.last) × (good t ≡ false)
  seen_gap low stop [] longest h = absurd (cc)
  seen_gap low stop (g ∷ gs) longest h = elim (or_in (nat_le g.first s.last && nat_le s.first g.last) (list_any (is_seen a b pair s) (gaps gs)) h) [
    | inl e ↦
        let both = and_both (nat_le g.first s.last) (nat_le s.first g.last) e in
        let one = le_holds g.first s.last both.0 in
        let two = le_holds s.first g.last both.1 in
        let ordered = longest.0.ordered in
        (max g.first s.first, omega arith, omega arith, longest.0.fails (max g.first s.first) (omega arith) (omega arith))
    | inr e ↦ seen_gap (g.last + 1) stop gs longest.1 e
  ]

  -- a time of the slice at which there is none is seen
  gap_is_seen : (low stop : ℕ) (ss : List Span) → AreLongest good low stop ss → (t : ℕ) → low ≤ t → t < stop → s.first ≤ t → t ≤ s.last → good t ≡ false
      → list_any (is_seen a b pair s) (gaps ss) ≡ true
  gap_is_seen low stop [] longest t above below first last fails = let passes = longest t above below in absurd (cc)
  gap_is_seen low stop (g ∷ gs) longest t above below first last fails = elim (cases_lt t g.first) [
    | inl early ↦ let passes = longest.0.before t above early in absurd (cc)
    | inr ge ↦ elim (cases_lt g.last t) [
      | inl later ↦ or_right (nat_le g.first s.last && nat_le s.first g.last) (list_any (is_seen a b pair s) (gaps gs))
          (gap_is_seen (g.last + 1) stop gs longest.1 t (omega arith) below first last fails)
      | inr le ↦ or_left (nat_le g.first s.last && nat_le s.first g.last) (list_any (is_seen a b pair s) (gaps gs))
          (common g.first g.last s (omega arith) (omega arith))
    ]
  ]

-- ---- all findings

module _ (a b : Table) (pair : Pair) (plan : Plan) (s : Slice) (low : plan.from ≤ s.first) (order : s.first ≤ s.last) (high : s.last ≤ plan.to) where
  abbrev seen : List Finding → Bool
  seen fs = list_any (is_seen a b pair s) fs

  -- what an end, which has these rows and sees the pair so, has against it
  abbrev wrong_end : List Row → List Row → Pair → ℕ → Bool
  wrong_end rows others here t = is_wrong_from rows others here plan t

  gaps_from : (end : End) (rows others : List Row) (here : Pair) → seen (gap_findings end rows here plan.from plan.to) ≡ true
      → PassesWithin (wrong_end rows others here) s
  gaps_from end rows others here h =
      let good = has_sendable rows here in
      let n = plan.to + 1 - plan.from in
      let f = seen_gap a b pair s order end good plan.from (plan.to + 1) (failing_spans good plan.from n) (are_longest good plan.from n (plan.to + 1) (omega arith)) h in
      (f.0, f.1, f.2, or_left (not (good f.0)) (list_any (sends_unmet others here plan f.0) rows) (not_false (good f.0) f.3))

  gaps_to : (end : End) (rows : List Row) (here : Pair) (t : ℕ) → s.first ≤ t → t ≤ s.last → not (has_sendable rows here t) ≡ true
      → seen (gap_findings end rows here plan.from plan.to) ≡ true
  gaps_to end rows here t first last none =
      let good = has_sendable rows here in
      let n = plan.to + 1 - plan.from in
      gap_is_seen a b pair s order end good plan.from (plan.to + 1) (failing_spans good plan.from n) (are_longest good plan.from n (plan.to + 1) (omega arith))
      t (omega arith) (omega arith) first last (not_true (good t) none)

  abbrev unmets : End → List Row → List Row → Pair → List Finding
  unmets end rows others here = unmet_findings (unmet_reason others here plan.lead plan.lag) end 1 rows

  unmet_from : (end : End) (others : List Row) → seen (unmets end (side_of end a b).rows others (pair_at end pair)) ≡ true
      → PassesWithin (wrong_end (side_of end a b).rows others (pair_at end pair)) s
  unmet_from end others h =
      let here = pair_at end pair in
      let rows = (side_of end a b).rows in
      let reason = unmet_reason others here plan.lead plan.lag in
      let f = (within_exactly (λ t. list_any (sends_unmet others here plan t) rows) s).0 (sym (rows_seen a b pair s end reason) ∙ h) in
      (f.0, f.1, f.2, or_right (not (has_sendable rows here f.0)) (list_any (sends_unmet others here plan f.0) rows) f.3)

  unmet_to : (end : End) (others : List Row) (t : ℕ) → s.first ≤ t → t ≤ s.last
      → list_any (sends_unmet others (pair_at end pair) plan t) (side_of end a b).rows ≡ true
      → seen (unmets end (side_of end a b).rows others (pair_at end pair)) ≡ true
  unmet_to end others t first last h =
      let here = pair_at end pair in
      let rows = (side_of end a b).rows in
      let reason = unmet_reason others here plan.lead plan.lag in
      rows_seen a b pair s end reason ∙ (within_exactly (λ u. list_any (sends_unmet others here plan u) rows) s).1 (t, first, last, h)

  abbrev ua : List Finding
  ua = unmets A a.rows b.rows pair

  abbrev ub : List Finding
  ub = unmets B b.rows a.rows (mirrored pair)

  abbrev ga : List Finding
  ga = gap_findings A a.rows pair plan.from plan.to

  abbrev gb : List Finding
  gb = gap_findings B b.rows (mirrored pair) plan.from plan.to

  split : is_marked a b pair (findings a.rows b.rows pair plan) s ≡ (seen ua || (seen ub || (seen ga || seen gb)))
  unfolding findings
  split =
      list_any-append (is_seen a b pair s) ua (ub ++ (ga ++ gb))
      ∙ ap (λ x. seen ua || x) (list_any-append (is_seen a b pair s) ub (ga ++ gb) ∙ ap (λ x. seen ub || x) (list_any-append (is_seen a b pair s) ga gb))

  at_a : PassesWithin (wrong_end a.rows b.rows pair) s → PassesWithin (is_wrong_at a.rows b.rows pair plan) s
  at_a f = (f.0, f.1, f.2, or_left (wrong_end a.rows b.rows pair f.0) (wrong_end b.rows a.rows (mirrored pair) f.0) f.3)

  at_b : PassesWithin (wrong_end b.rows a.rows (mirrored pair)) s → PassesWithin (is_wrong_at a.rows b.rows pair plan) s
  at_b f = (f.0, f.1, f.2, or_right (wrong_end a.rows b.rows pair f.0) (wrong_end b.rows a.rows (mirrored pair) f.0) f.3)

  marked_wrong : (seen ua || (seen ub || (seen ga || seen gb))) ≡ true → PassesWithin (is_wrong_at a.rows b.rows pair plan) s
  marked_wrong h = elim (or_in (seen ua) (seen ub || (seen ga || seen gb)) h) [
    | inl one ↦ at_a (unmet_from A b.rows one)
    | inr more ↦ elim (or_in (seen ub) (seen ga || seen gb) more) [
      | inl two ↦ at_b (unmet_from B a.rows two)
      | inr most ↦ elim (or_in (seen ga) (seen gb) most) [
        | inl three ↦ at_a (gaps_from A a.rows b.rows pair three)
        | inr last ↦ at_b (gaps_from B b.rows a.rows (mirrored pair) last)
      ]
    ]
  ]

  wrong_marked : PassesWithin (is_wrong_at a.rows b.rows pair plan) s → (seen ua || (seen ub || (seen ga || seen gb))) ≡ true
  wrong_marked f =
      let t = f.0 in
      elim (or_in (wrong_end a.rows b.rows pair t) (wrong_end b.rows a.rows (mirrored pair) t) f.3) [
        | inl one ↦ elim (or_in (not (has_sendable a.rows pair t)) (list_any (sends_unmet b.rows pair plan t) a.rows) one) [
          | inl none ↦ or_right (seen ua) (seen ub || (seen ga || seen gb)) (or_right (seen ub) (seen ga || seen gb) (or_left (seen ga) (seen gb) (gaps_to A a.rows pair t f.1 f.2 none)))
          | inr some ↦ or_left (seen ua) (seen ub || (seen ga || seen gb)) (unmet_to A b.rows t f.1 f.2 some)
        ]
        | inr two ↦ elim (or_in (not (has_sendable b.rows (mirrored pair) t)) (list_any (sends_unmet a.rows (mirrored pair) plan t) b.rows) two) [
          | inl none ↦ or_right (seen ua) (seen ub || (seen ga || seen gb)) (or_right (seen ub) (seen ga || seen gb) (or_right (seen ga) (seen gb) (gaps_to B b.rows (mirrored pair) t f.1 f.2 none)))
          | inr some ↦ or_right (seen ua) (seen ub || (seen ga || seen gb)) (or_left (seen ub) (seen ga || seen gb) (unmet_to B a.rows t f.1 f.2 some))
        ]
      ]

  pub marked_exactly : (is_marked a b pair (findings a.rows b.rows pair plan) s ≡ true) ↔ PassesWithin (is_wrong_at a.rows b.rows pair plan) s
  marked_exactly = (λ h. marked_wrong (sym split ∙ h), λ f. split ∙ wrong_marked f)

mark_is : (x : Bool) → (◌≡◌ {A = List ℕ} (wrong_byte x ∷ []) (33 ∷ [])) ↔ (x ≡ true)
mark_is true = (λ h. refl, λ h. refl)
mark_is false = (λ h. let same : 32 ≡ 33 = ap (λ (l : List ℕ). get_or l 0 0) h in absurd (omega (arith, same)), λ h. absurd (cc))

-- the rows of the node that was found
found_rows : (o : Option Table) (t : Table) → o ≡ Some t → rows_of_table o ≡ t.rows
found_rows o t is = rw is refl

pub marks_exactly : (tables : List Table) (plan : Plan) (pair : Pair) (a b : Table) (s : Slice)
    → node_with tables pair.local.address ≡ Some a → node_with tables pair.remote.address ≡ Some b
    → plan.from ≤ s.first → s.first ≤ s.last → s.last ≤ plan.to
    → (slice_mark a b pair (plan_findings tables plan pair) s ≡ 33 ∷ []) ↔ PassesWithin (is_wrong_at a.rows b.rows pair plan) s
unfolding slice_mark
marks_exactly tables plan pair a b s here there low order high =
    let one = found_rows (node_with tables pair.local.address) a here in
    let two = found_rows (node_with tables pair.remote.address) b there in
    let mark = mark_is (is_marked a b pair (plan_findings tables plan pair) s) in
    let exact = marked_exactly a b pair plan s low order high in
    let same : plan_findings tables plan pair ≡ findings a.rows b.rows pair plan = rw (one, two) refl in
    (λ h. exact.0 (rw same at (mark.0 h)), λ f. mark.1 (rw same (exact.1 f)))

no_finding : (a b : Table) (pair : Pair) (fs : List Finding) (s : Slice) → fs ≡ [] → slice_mark a b pair fs s ≡ 32 ∷ []
unfolding slice_mark
no_finding a b pair fs s none = rw none refl

pub unmarked : (tables : List Table) (plan : Plan) (pair : Pair) (a b : Table) (s : Slice)
    → lint_of tables pair plan ≡ answer.Aligned → slice_mark a b pair (plan_findings tables plan pair) s ≡ 32 ∷ []
unmarked tables plan pair a b s good =
    no_finding a b pair (plan_findings tables plan pair) s
    ((none_exactly (rows_at tables pair.local.address) (rows_at tables pair.remote.address) pair plan).1 good)
