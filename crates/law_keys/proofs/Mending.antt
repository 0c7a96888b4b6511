-- Another lifetime in whose way nothing stands mends the plan.
use Rattle.std.proofs.Common.{◌≡◌, ℕ, zero, suc, ◌+◌, ◌-◌, ◌≤◌, ◌&&◌, not, min, nat_lt, Bool, true, false, List, [], ◌∷◌, ◌++◌, map, Option, Some, None, ◌⊎◌, inl, inr, refl, sym, ap, ◌∙◌, subst, arith, if◌then◌else◌}
use Rattle.std.specs.Prelude.{option_map}
use Rattle.std.specs.List.{list_any, AllByRecursion, slice_get}
use Rattle.book_base.specs.declared.address.Pair.{Pair}
use Rattle.book_base.specs.declared.end.End.{End}
use Rattle.book_base.specs.declared.end.End.TheVariants.{A, B}
use Rattle.book_segments.proofs.Fields.{and_tells}
use Rattle.book_keys.specs.declared.lifetime.Lifetime.{Lifetime}
use Rattle.book_keys.specs.declared.lint.LintAnswer.TheVariants as answer
use Rattle.book_keys.specs.declared.plan.Plan.{Plan}
use Rattle.book_keys.specs.Lifetimes.{contains, greatest_time}
use Rattle.book_keys.specs.Overlaps.{IsValid}
use Rattle.book_keys.specs.Plans.{mirrored, accepts_from, accepts_throughout, outlasts, AlignedFrom, IsMet, IsGap, gap, has_sendable, lint_rows, Reason, NoPeerRow, ShortAccept, unmet_reason}
use Rattle.book_keys.specs.Rows.{Row, sends_for, sendable}
use Rattle.book_keys.proofs.GapLaws.{gap_exactly, lint_aligned}
use Rattle.book_keys.proofs.PlanLaws.{from_contains, to_contains}
use Rattle.book_plans.specs.declared.finding.Finding.{Finding}
use Rattle.book_plans.specs.declared.finding.Finding.TheVariants as finding
use Rattle.book_plans.specs.declared.obstacle.Obstacle.{Obstacle}
use Rattle.book_plans.specs.declared.obstacle.Obstacle.TheVariants as obstacle
use Rattle.book_plans.specs.Findings.{AreLongest, Span, accepting_in, failing_spans, finding_by, findings, gap_finding, gap_findings, unmet_findings, wanted_accepting, widened, with_finding}
use Rattle.book_plans.specs.Margins.{IsOrdered}
use Rattle.book_plans.specs.Ways.{Side, accepting_obstacle, are_none, becomes_endless, changed_row, clash_or, first_clash, fitting_accepting, is_accepted, keeps_sending, sending_in, sending_obstacle}
use Rattle.book_plans.proofs.FindingLaws.{are_longest, widened_outlasts}
use Rattle.law_keys.specs.Own.{IsGapOrRow, IsOfRow}
use Rattle.law_keys.proofs.Changing.{all_but, all_same, any_here, any_same, any_still, same_or_not, valid_changed}

-- ---- what findings say of rows

pub all_parts : (P : Finding → Type 0) (fs gs : List Finding) → AllByRecursion P (fs ++ gs) → AllByRecursion P fs × AllByRecursion P gs
all_parts P [] gs all = (tt, all)
all_parts P (f ∷ fs) gs all = let more = all_parts P fs gs all.1 in ((all.0, more.0), more.1)

-- a property of findings that only those of the row of this number and end have, among findings on rows
pub record IsOnly (P : Finding → Type 0) (end : End) (n : ℕ) : Type 0 where
  pub refused : (e : End) (m : ℕ) → P (finding.NoPeerRow e m) → (e ≡ end) × (m ≡ n)
  pub short : (e : End) (m : ℕ) → P (finding.ShortAccept e m) → (e ≡ end) × (m ≡ n)

unmet_here : (P : Finding → Type 0) (end : End) (n : ℕ) → IsOnly P end n → (e : End) (k : ℕ) (o : Option Reason) (fs : List Finding)
    → AllByRecursion P (with_finding (option_map (finding_by e k) o) fs) → (((e ≡ end) × (k ≡ n)) ⊎ (o ≡ None)) × AllByRecursion P fs
unmet_here P end n only e k None fs all = (inr refl, all)
unmet_here P end n only e k (Some NoPeerRow) fs all = (inl (only.refused e k all.0), all.1)
unmet_here P end n only e k (Some ShortAccept) fs all = (inl (only.short e k all.0), all.1)

-- of a row that no finding is on, there is no reason why it isn't met
others_met : (P : Finding → Type 0) (end : End) (n : ℕ) → IsOnly P end n → (reason : Row → Option Reason) (e : End) (k : ℕ) (rows : List Row)
    → AllByRecursion P (unmet_findings reason e k rows) → (i : ℕ) (r : Row) → slice_get rows i ≡ Some r → ((e ≡ end) × (k + i ≡ n) → ⊥) → reason r ≡ None
others_met P end n only reason e k [] all i r got ne = absurd (cc)
others_met P end n only reason e k (o ∷ os) all zero r got ne =
    let same : o ≡ r = cc in
    let h = unmet_here P end n only e k (reason o) (unmet_findings reason e (k + 1) os) all in
    elim h.0 [ inl own ↦ absurd (let at = own.1 in ne (own.0, omega arith)) | inr none ↦ ap reason (sym same) ∙ none ]
others_met P end n only reason e k (o ∷ os) all (suc i) r got ne =
    let h = unmet_here P end n only e k (reason o) (unmet_findings reason e (k + 1) os) all in
    others_met P end n only reason e (k + 1) os h.1 i r got (λ own. let at = own.1 in ne (own.0, omega arith))

met_of : (s a t : Bool) → ◌≡◌ {A = Option Reason} (if not s then None else if not a then Some NoPeerRow else if not t then Some ShortAccept else None) None → s ≡ true → t ≡ true
met_of true true true e sends = refl
met_of true true false e sends = absurd (cc)
met_of true false t e sends = absurd (cc)
met_of false a t e sends = absurd (cc)

pub no_reason_met : (others : List Row) (pair : Pair) (lead lag : ℕ) (r : Row) → unmet_reason others pair lead lag r ≡ None → IsMet others pair lead lag r
no_reason_met others pair lead lag r e sends =
    met_of (sends_for pair r) (list_any (accepts_from pair r) others) (list_any (accepts_throughout pair lead lag r) others) e sends

pub got_all : (P : Row → Type 0) (rows : List Row) → ((i : ℕ) (r : Row) → slice_get rows i ≡ Some r → P r) → AllByRecursion P rows
got_all P [] each = tt
got_all P (r ∷ rs) each = (each zero r refl, got_all P rs (λ i q got. each (suc i) q got))

-- rows that are met are still met where each row that was accepted throughout still is
pub each_met : (qs rows new : List Row) (pair : Pair) (lead lag : ℕ)
    → ((q : Row) → list_any (accepts_throughout pair lead lag q) rows ≡ true → list_any (accepts_throughout pair lead lag q) new ≡ true)
    → AlignedFrom qs rows pair lead lag → AlignedFrom qs new pair lead lag
each_met [] rows new pair lead lag keeps met = tt
each_met (q ∷ qs) rows new pair lead lag keeps met = (λ sends. keeps q (met.0 sends), each_met qs rows new pair lead lag keeps met.1)

-- ---- what they say of gaps

no_spans : (P : Finding → Type 0) (end : End) → ((first last : ℕ) → P (finding.Gap end first last) → ⊥) → (ss : List Span) → AllByRecursion P (map (gap_finding end) ss) → ss ≡ []
no_spans P end never [] all = refl
no_spans P end never (s ∷ ss) all = absurd (never s.first s.last all.0)

none_empty : (ss : List Span) → are_none (map (gap_finding A) ss) ≡ true → ss ≡ []
none_empty [] e = refl
none_empty (s ∷ ss) e = absurd (cc)

no_gap : (rows : List Row) (pair : Pair) (low high : ℕ) → failing_spans (has_sendable rows pair) low (high + 1 - low) ≡ [] → gap rows pair low high ≡ None
no_gap rows pair low high none =
    let good = has_sendable rows pair in
    let end = low + (high + 1 - low) in
    let longest : AreLongest good low end [] = subst (λ (ss : List Span). AreLongest good low end ss) none (are_longest good low (high + 1 - low) end refl) in
    let each : IsGap rows pair low high None = λ t a b. longest t a (omega arith) in
    (gap_exactly rows pair low high None).1 each

pub none_gap : (P : Finding → Type 0) (end : End) → ((first last : ℕ) → P (finding.Gap end first last) → ⊥) → (rows : List Row) (pair : Pair) (low high : ℕ)
    → AllByRecursion P (gap_findings end rows pair low high) → gap rows pair low high ≡ None
none_gap P end never rows pair low high all =
    no_gap rows pair low high (no_spans P end never (failing_spans (has_sendable rows pair) low (high + 1 - low)) all)

-- ---- what an obstacle would be

sending_clear : (e d : Bool) (clash : Option ℕ) (a g : Bool)
    → ◌≡◌ {A = Option Obstacle} (if e then Some obstacle.Empty else if d then Some obstacle.Endless else clash_or clash (if not a then Some obstacle.Refused else if not g then Some obstacle.Gap else None)) None
    → (clash ≡ None) × (a ≡ true) × (g ≡ true)
sending_clear true d clash a g h = absurd (cc)
sending_clear false true clash a g h = absurd (cc)
sending_clear false false (Some k) a g h = absurd (cc)
sending_clear false false None false g h = absurd (cc)
sending_clear false false None true false h = absurd (cc)
sending_clear false false None true true h = (refl, refl, refl)

accepting_clear : (d : Bool) (clash : Option ℕ) → ◌≡◌ {A = Option Obstacle} (if d then Some obstacle.Endless else clash_or clash None) None → clash ≡ None
accepting_clear true clash h = absurd (cc)
accepting_clear false (Some k) h = absurd (cc)
accepting_clear false None h = refl

-- ---- another send lifetime

module _ (rows others : List Row) (pair : Pair) (plan : Plan) (n at : ℕ) (r : Row) (l : Lifetime) (here : 1 + at ≡ n) (got : slice_get rows at ≡ Some r)
    (clear : sending_obstacle (record { rows = rows; others = others; pair = pair; plan = plan }) n r l ≡ None) where
  abbrev side : Side
  side = record { rows = rows; others = others; pair = pair; plan = plan }

  free : (first_clash (sending_in l r) n 1 rows ≡ None) × (is_accepted side (sending_in l r) ≡ true) × (keeps_sending side n (sending_in l) ≡ true)
  unfolding sending_obstacle
  free = sending_clear (nat_lt l.last l.first) (becomes_endless r.sending l) (first_clash (sending_in l r) n 1 rows) (is_accepted side (sending_in l r)) (keeps_sending side n (sending_in l)) clear

  pub sending_valid : IsValid rows → IsValid (changed_row (sending_in l) n 1 rows)
  sending_valid valid = valid_changed (sending_in l) n 1 at rows r here got valid free.0

  pub sending_met : ((i : ℕ) (q : Row) → slice_get rows i ≡ Some q → (1 + i ≡ n → ⊥) → IsMet others pair plan.lead plan.lag q)
      → AlignedFrom (changed_row (sending_in l) n 1 rows) others pair plan.lead plan.lag
  sending_met met =
      all_but (IsMet others pair plan.lead plan.lag) (sending_in l) n 1 rows met
      (λ i q found same sends.
      let one : i ≡ at = omega arith in
      let found_at : slice_get rows at ≡ Some q = subst (λ (t : ℕ). slice_get rows t ≡ Some q) one found in
      let is : q ≡ r = cc in
      subst (λ (x : Row). is_accepted side (sending_in l x) ≡ true) (sym is) free.1)

  pub sending_received : (back : Pair) → AlignedFrom others rows back plan.lead plan.lag → AlignedFrom others (changed_row (sending_in l) n 1 rows) back plan.lead plan.lag
  sending_received back met =
      each_met others rows (changed_row (sending_in l) n 1 rows) back plan.lead plan.lag
      (λ q some. any_same (accepts_throughout back plan.lead plan.lag q) (sending_in l) (λ x. refl) n 1 rows ∙ some) met

  pub sending_no_gap : gap (changed_row (sending_in l) n 1 rows) pair plan.from plan.to ≡ None
  sending_no_gap =
      no_gap (changed_row (sending_in l) n 1 rows) pair plan.from plan.to
      (none_empty (failing_spans (has_sendable (changed_row (sending_in l) n 1 rows) pair) plan.from (plan.to + 1 - plan.from)) free.2)

-- ---- another accept lifetime

both_true : (a b : Bool) → a ≡ true → b ≡ true → (a && b) ≡ true
both_true true b e f = f
both_true false b e f = absurd (cc)

wider_contains : (one two : Lifetime) (t : ℕ) → contains one t ≡ true → contains (widened one two) t ≡ true
wider_contains one two t e = let c = from_contains one t e in let low = c.0 in let high = c.1 in to_contains (widened one two) t (omega arith) (omega arith)

still_accepts : (pair : Pair) (lead lag : ℕ) (q o : Row) (w : Lifetime) → accepts_throughout pair lead lag q o ≡ true
    → accepts_throughout pair lead lag q (accepting_in (widened o.accepting w) o) ≡ true
still_accepts pair lead lag q o w e =
    let whole = and_tells (accepts_from pair q o) (outlasts lead lag q o) e in
    let parts = and_tells (contains o.accepting (q.sending.first - lead)) (contains o.accepting (min greatest_time (q.sending.last + lag))) whole.1 in
    both_true (accepts_from pair q o) (outlasts lead lag q (accepting_in (widened o.accepting w) o)) whole.0
    (both_true (contains (widened o.accepting w) (q.sending.first - lead)) (contains (widened o.accepting w) (min greatest_time (q.sending.last + lag)))
    (wider_contains o.accepting w (q.sending.first - lead) parts.0)
    (wider_contains o.accepting w (min greatest_time (q.sending.last + lag)) parts.1))

module _ (rows others : List Row) (pair : Pair) (plan : Plan) (m at : ℕ) (r o : Row) (here : 1 + at ≡ m) (got : slice_get others at ≡ Some o)
    (ordered : IsOrdered r) (accepted : accepts_from pair r o ≡ true)
    (clear : accepting_obstacle others m o (fitting_accepting plan.lead plan.lag r o) ≡ None) where
  abbrev wide : Lifetime
  wide = fitting_accepting plan.lead plan.lag r o

  abbrev new : List Row
  new = changed_row (accepting_in wide) m 1 others

  apart : first_clash (accepting_in wide o) m 1 others ≡ None
  unfolding accepting_obstacle
  apart = accepting_clear (becomes_endless o.accepting wide) (first_clash (accepting_in wide o) m 1 others) clear

  pub accepting_valid : IsValid others → IsValid new
  accepting_valid valid = valid_changed (accepting_in wide) m 1 at others o here got valid apart

  fits : list_any (accepts_throughout pair plan.lead plan.lag r) new ≡ true
  fits =
      any_here (accepts_throughout pair plan.lead plan.lag r) (accepting_in wide) m 1 at others o here got
      (both_true (accepts_from pair r o) (outlasts plan.lead plan.lag r (accepting_in wide o)) accepted (widened_outlasts plan.lead plan.lag r o ordered))

  still : (q : Row) → list_any (accepts_throughout pair plan.lead plan.lag q) others ≡ true → list_any (accepts_throughout pair plan.lead plan.lag q) new ≡ true
  still q some =
      any_still (accepts_throughout pair plan.lead plan.lag q) (accepting_in wide) m 1 at others o here got
      (still_accepts pair plan.lead plan.lag q o (wanted_accepting plan.lead plan.lag r)) some

  pub accepting_met : (n i : ℕ) → 1 + i ≡ n → slice_get rows i ≡ Some r
      → ((j : ℕ) (q : Row) → slice_get rows j ≡ Some q → (1 + j ≡ n → ⊥) → IsMet others pair plan.lead plan.lag q)
      → AlignedFrom rows new pair plan.lead plan.lag
  accepting_met n i place found met = got_all (IsMet new pair plan.lead plan.lag) rows (λ j q at_j. by_place j q at_j (same_or_not (1 + j) n))
    where
      by_place : (j : ℕ) (q : Row) → slice_get rows j ≡ Some q → ((1 + j ≡ n) ⊎ (1 + j ≡ n → ⊥)) → IsMet new pair plan.lead plan.lag q
      by_place j q at_j (inl e) =
          let one : j ≡ i = omega arith in
          let at_i : slice_get rows i ≡ Some q = subst (λ (t : ℕ). slice_get rows t ≡ Some q) one at_j in
          let is : q ≡ r = cc in
          λ sends. subst (λ (x : Row). list_any (accepts_throughout pair plan.lead plan.lag x) new ≡ true) (sym is) fits
      by_place j q at_j (inr ne) = λ sends. still q (met j q at_j ne sends)

  pub accepting_sent : (back : Pair) → AlignedFrom others rows back plan.lead plan.lag → AlignedFrom new rows back plan.lead plan.lag
  accepting_sent back met = all_same (IsMet rows back plan.lead plan.lag) (accepting_in wide) (λ q h. h) m 1 others met

  pub accepting_no_gap : (back : Pair) → gap others back plan.from plan.to ≡ None → gap new back plan.from plan.to ≡ None
  accepting_no_gap back none =
      let each = (gap_exactly others back plan.from plan.to None).0 none in
      (gap_exactly new back plan.from plan.to None).1 (λ t a b. any_same (sendable back t) (accepting_in wide) (λ x. refl) m 1 others ∙ each t a b)

-- ---- both ends

own_gaps : (end : End) (n : ℕ) → IsOnly (IsGapOrRow end n) end n
own_gaps end n = record { refused = λ e m h. h; short = λ e m h. h }

own_row : (end : End) (n : ℕ) → IsOnly (IsOfRow end n) end n
own_row end n = record { refused = λ e m h. h; short = λ e m h. h }

ends_differ : A ≡ B → ⊥
ends_differ e = absurd (cc)

ends_differ_too : B ≡ A → ⊥
ends_differ_too e = absurd (cc)

module _ (P : Finding → Type 0) (end : End) (n : ℕ) (only : IsOnly P end n) (a b : List Row) (pair : Pair) (plan : Plan) (all : AllByRecursion P (findings a b pair plan)) where
  abbrev unmet_a : List Finding
  unmet_a = unmet_findings (unmet_reason b pair plan.lead plan.lag) A 1 a

  abbrev unmet_b : List Finding
  unmet_b = unmet_findings (unmet_reason a (mirrored pair) plan.lead plan.lag) B 1 b

  abbrev gaps_a : List Finding
  gaps_a = gap_findings A a pair plan.from plan.to

  abbrev gaps_b : List Finding
  gaps_b = gap_findings B b (mirrored pair) plan.from plan.to

  parts : AllByRecursion P unmet_a × AllByRecursion P unmet_b × AllByRecursion P gaps_a × AllByRecursion P gaps_b
  unfolding findings
  parts =
      let one = all_parts P unmet_a (unmet_b ++ (gaps_a ++ gaps_b)) all in
      let two = all_parts P unmet_b (gaps_a ++ gaps_b) one.1 in
      let three = all_parts P gaps_a gaps_b two.1 in
      (one.0, two.0, three.0, three.1)

  pub met_a : (i : ℕ) (q : Row) → slice_get a i ≡ Some q → ((A ≡ end) × (1 + i ≡ n) → ⊥) → IsMet b pair plan.lead plan.lag q
  met_a i q got ne = no_reason_met b pair plan.lead plan.lag q (others_met P end n only (unmet_reason b pair plan.lead plan.lag) A 1 a parts.0 i q got ne)

  pub met_b : (i : ℕ) (q : Row) → slice_get b i ≡ Some q → ((B ≡ end) × (1 + i ≡ n) → ⊥) → IsMet a (mirrored pair) plan.lead plan.lag q
  met_b i q got ne = no_reason_met a (mirrored pair) plan.lead plan.lag q (others_met P end n only (unmet_reason a (mirrored pair) plan.lead plan.lag) B 1 b parts.1 i q got ne)

  pub none_at_a : ((first last : ℕ) → P (finding.Gap A first last) → ⊥) → gap a pair plan.from plan.to ≡ None
  none_at_a never = none_gap P A never a pair plan.from plan.to parts.2

  pub none_at_b : ((first last : ℕ) → P (finding.Gap B first last) → ⊥) → gap b (mirrored pair) plan.from plan.to ≡ None
  none_at_b never = none_gap P B never b (mirrored pair) plan.from plan.to parts.3

place : (n : ℕ) → 1 ≤ n → 1 + (n - 1) ≡ n
place n low = omega arith

pub sends_at_a : (a b : List Row) (pair : Pair) (plan : Plan) (n : ℕ) (r : Row) (l : Lifetime)
    → 1 ≤ n → slice_get a (n - 1) ≡ Some r → IsValid a → AllByRecursion (IsGapOrRow A n) (findings a b pair plan)
    → sending_obstacle (record { rows = a; others = b; pair = pair; plan = plan }) n r l ≡ None
    → IsValid (changed_row (sending_in l) n 1 a) × (lint_rows (changed_row (sending_in l) n 1 a) b pair plan ≡ answer.Aligned)
sends_at_a a b pair plan n r l low got valid all clear =
    let here = place n low in
    let new = changed_row (sending_in l) n 1 a in
    let back = got_all (IsMet a (mirrored pair) plan.lead plan.lag) b (λ i q at. met_b (IsGapOrRow A n) A n (own_gaps A n) a b pair plan all i q at (λ h. ends_differ_too h.0)) in
    let there = sending_met a b pair plan n (n - 1) r l here got clear (λ i q at ne. met_a (IsGapOrRow A n) A n (own_gaps A n) a b pair plan all i q at (λ h. ne h.1)) in (
      sending_valid a b pair plan n (n - 1) r l here got clear valid,
      (lint_aligned new b pair plan).1 (
        (there, sending_received a b pair plan n (n - 1) r l here got clear (mirrored pair) back),
        sending_no_gap a b pair plan n (n - 1) r l here got clear,
        none_at_b (IsGapOrRow A n) A n (own_gaps A n) a b pair plan all (λ first last e. ends_differ_too e),
      ),
    )

pub sends_at_b : (a b : List Row) (pair : Pair) (plan : Plan) (n : ℕ) (r : Row) (l : Lifetime)
    → 1 ≤ n → slice_get b (n - 1) ≡ Some r → IsValid b → AllByRecursion (IsGapOrRow B n) (findings a b pair plan)
    → sending_obstacle (record { rows = b; others = a; pair = mirrored pair; plan = plan }) n r l ≡ None
    → IsValid (changed_row (sending_in l) n 1 b) × (lint_rows a (changed_row (sending_in l) n 1 b) pair plan ≡ answer.Aligned)
sends_at_b a b pair plan n r l low got valid all clear =
    let here = place n low in
    let new = changed_row (sending_in l) n 1 b in
    let there = got_all (IsMet b pair plan.lead plan.lag) a (λ i q at. met_a (IsGapOrRow B n) B n (own_gaps B n) a b pair plan all i q at (λ h. ends_differ h.0)) in
    let back = sending_met b a (mirrored pair) plan n (n - 1) r l here got clear (λ i q at ne. met_b (IsGapOrRow B n) B n (own_gaps B n) a b pair plan all i q at (λ h. ne h.1)) in (
      sending_valid b a (mirrored pair) plan n (n - 1) r l here got clear valid,
      (lint_aligned a new pair plan).1 (
        (sending_received b a (mirrored pair) plan n (n - 1) r l here got clear pair there, back),
        none_at_a (IsGapOrRow B n) B n (own_gaps B n) a b pair plan all (λ first last e. ends_differ e),
        sending_no_gap b a (mirrored pair) plan n (n - 1) r l here got clear,
      ),
    )

pub accepts_at_b : (a b : List Row) (pair : Pair) (plan : Plan) (n m : ℕ) (r o : Row)
    → 1 ≤ n → slice_get a (n - 1) ≡ Some r → IsOrdered r → 1 ≤ m → slice_get b (m - 1) ≡ Some o → IsValid b
    → AllByRecursion (IsOfRow A n) (findings a b pair plan) → accepts_from pair r o ≡ true
    → accepting_obstacle b m o (fitting_accepting plan.lead plan.lag r o) ≡ None
    → IsValid (changed_row (accepting_in (fitting_accepting plan.lead plan.lag r o)) m 1 b)
    × (lint_rows a (changed_row (accepting_in (fitting_accepting plan.lead plan.lag r o)) m 1 b) pair plan ≡ answer.Aligned)
accepts_at_b a b pair plan n m r o low got ordered low_m got_m valid all accepted clear =
    let here = place m low_m in
    let new = changed_row (accepting_in (fitting_accepting plan.lead plan.lag r o)) m 1 b in
    let back = got_all (IsMet a (mirrored pair) plan.lead plan.lag) b (λ i q at. met_b (IsOfRow A n) A n (own_row A n) a b pair plan all i q at (λ h. ends_differ_too h.0)) in
    let there = accepting_met a b pair plan m (m - 1) r o here got_m ordered accepted clear n (n - 1) (place n low) got
    (λ i q at ne. met_a (IsOfRow A n) A n (own_row A n) a b pair plan all i q at (λ h. ne h.1)) in (
      accepting_valid a b pair plan m (m - 1) r o here got_m ordered accepted clear valid,
      (lint_aligned a new pair plan).1 (
        (there, accepting_sent a b pair plan m (m - 1) r o here got_m ordered accepted clear (mirrored pair) back),
        none_at_a (IsOfRow A n) A n (own_row A n) a b pair plan all (λ first last e. e),
        accepting_no_gap a b pair plan m (m - 1) r o here got_m ordered accepted clear (mirrored pair)
            (none_at_b (IsOfRow A n) A n (own_row A n) a b pair plan all (λ first last e. e)),
      ),
    )

pub accepts_at_a : (a b : List Row) (pair : Pair) (plan : Plan) (n m : ℕ) (r o : Row)
    → 1 ≤ n → slice_get b (n - 1) ≡ Some r → IsOrdered r → 1 ≤ m → slice_get a (m - 1) ≡ Some o → IsValid a
    → AllByRecursion (IsOfRow B n) (findings a b pair plan) → accepts_from (mirrored pair) r o ≡ true
    → accepting_obstacle a m o (fitting_accepting plan.lead plan.lag r o) ≡ None
    → IsValid (changed_row (accepting_in (fitting_accepting plan.lead plan.lag r o)) m 1 a)
    × (lint_rows (changed_row (accepting_in (fitting_accepting plan.lead plan.lag r o)) m 1 a) b pair plan ≡ answer.Aligned)
accepts_at_a a b pair plan n m r o low got ordered low_m got_m valid all accepted clear =
    let here = place m low_m in
    let new = changed_row (accepting_in (fitting_accepting plan.lead plan.lag r o)) m 1 a in
    let there = got_all (IsMet b pair plan.lead plan.lag) a (λ i q at. met_a (IsOfRow B n) B n (own_row B n) a b pair plan all i q at (λ h. ends_differ h.0)) in
    let back = accepting_met b a (mirrored pair) plan m (m - 1) r o here got_m ordered accepted clear n (n - 1) (place n low) got
    (λ i q at ne. met_b (IsOfRow B n) B n (own_row B n) a b pair plan all i q at (λ h. ne h.1)) in (
      accepting_valid b a (mirrored pair) plan m (m - 1) r o here got_m ordered accepted clear valid,
      (lint_aligned new b pair plan).1 (
        (accepting_sent b a (mirrored pair) plan m (m - 1) r o here got_m ordered accepted clear pair there, back),
        accepting_no_gap b a (mirrored pair) plan m (m - 1) r o here got_m ordered accepted clear pair
            (none_at_a (IsOfRow B n) B n (own_row B n) a b pair plan all (λ first last e. e)),
        none_at_b (IsOfRow B n) B n (own_row B n) a b pair plan all (λ first last e. e),
      ),
    )
