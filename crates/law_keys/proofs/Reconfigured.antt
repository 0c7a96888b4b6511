-- At each time of the span that is told, a node that is reconfigured from one row to another is aligned.
use Rattle.std.proofs.Common.{◌≡◌, ℕ, zero, suc, ◌+◌, ◌-◌, ◌<◌, ◌≤◌, ◌&&◌, ◌||◌, min, nat_le, nat_lt, Bool, true, false, List, [], ◌∷◌, ◌++◌, Option, Some, None, ◌⊎◌, inl, inr, refl, sym, ap, ◌∙◌, subst, arith, if◌then◌else◌}
use Rattle.std.specs.Prelude.{option_map}
use Rattle.std.specs.List.{list_any, find, AllByRecursion, slice_get}
use Rattle.std.proofs.lemmas.Bool.{eq-eqb, ne_eqb}
use Rattle.std.proofs.lemmas.Bool.Decides.{nat_tests}
use Rattle.book_base.specs.declared.address.Pair.{Pair}
use Rattle.book_base.specs.declared.end.End.{End}
use Rattle.book_base.specs.declared.end.End.TheVariants.{A, B}
use Rattle.book_segments.proofs.Fields.{and_tells}
use Rattle.book_keys.specs.declared.lifetime.Lifetime.{Lifetime}
use Rattle.book_keys.specs.declared.plan.Plan.{Plan}
use Rattle.book_keys.specs.Lifetimes.{contains, greatest_time}
use Rattle.book_keys.specs.Plans.{mirrored, accepts_from, accepts_throughout, outlasts, AlignedFrom, IsMet, gap, has_sendable, Reason, NoPeerRow, ShortAccept, unmet_reason}
use Rattle.book_keys.specs.Rows.{Row, matches, sends, sends_for, sendable}
use Rattle.book_keys.proofs.GapLaws.{gap_exactly, lint_aligned}
use Rattle.book_keys.proofs.PlanLaws.{from_contains, to_contains}
use Rattle.book_plans.specs.declared.finding.Finding.{Finding}
use Rattle.book_plans.specs.declared.finding.Finding.TheVariants as finding
use Rattle.book_plans.specs.Findings.{finding_by, findings, gap_findings, unmet_findings, with_finding}
use Rattle.book_plans.specs.Ways.{changed_row, sending_in}
use Rattle.book_scope_plan.specs.CalendarTexts.{row_numbered}
use Rattle.book_scope_plan.specs.FindingTexts.{Facing, facing_at}
use Rattle.book_scope_plan.specs.Reconfiguring.{earliest_switch, is_timeless, is_unbounded, latest_switch, new_taker, old_taker, span_between, span_by, switch_span, switched, takes_at}
use Rattle.law_keys.specs.Own.{IsAligned, switched_at}
use Rattle.law_keys.proofs.Changing.{any_same, same_or_not}
use Rattle.law_keys.proofs.Mending.{all_parts, each_met, got_all, no_reason_met, none_gap}

-- ---- rows of a table of which two are changed

got_other : (f : Row → Row) (n k i : ℕ) (rows : List Row) → (k + i ≡ n → ⊥) → slice_get (changed_row f n k rows) i ≡ slice_get rows i
got_other f n k i [] ne = refl
got_other f n k zero (r ∷ rs) ne = rw (ne_eqb k n (λ e. ne (omega arith))) refl
got_other f n k (suc i) (r ∷ rs) ne = got_other f n (k + 1) i rs (λ e. ne (omega arith))

got_new : (f : Row → Row) (n k i : ℕ) (rows : List Row) (r : Row) → k + i ≡ n → slice_get rows i ≡ Some r → slice_get (changed_row f n k rows) i ≡ Some (f r)
got_new f n k i [] r here got = absurd (cc)
got_new f n k zero (o ∷ os) r here got = let same : o ≡ r = cc in rw (eq-eqb k n (omega arith)) (ap (λ (x : Row). Some (f x)) same)
got_new f n k (suc i) (o ∷ os) r here got = got_new f n (k + 1) i os r (omega arith) got

any_got : (p : Row → Bool) (rows : List Row) (i : ℕ) (r : Row) → slice_get rows i ≡ Some r → p r ≡ true → list_any p rows ≡ true
any_got p [] i r got h = absurd (cc)
any_got p (o ∷ os) zero r got h = let same : o ≡ r = cc in or_left (p o) (list_any p os) (rw same h)
  where
    or_left : (a b : Bool) → a ≡ true → (a || b) ≡ true
    or_left true b e = refl
    or_left false b e = absurd (cc)
any_got p (o ∷ os) (suc i) r got h = or_right (p o) (list_any p os) (any_got p os i r got h)
  where
    or_right : (a b : Bool) → b ≡ true → (a || b) ≡ true
    or_right true b e = refl
    or_right false b e = e

one_got : (rows : List Row) (i : ℕ) (x q : Row) → slice_get rows i ≡ Some x → slice_get rows i ≡ Some q → x ≡ q
one_got rows i x q a b = cc

-- ---- the row of the other end

found_some : (p q : Row → Bool) (rows : List Row) (x : Row) → find p rows ≡ Some x → q x ≡ true → list_any q rows ≡ true
found_some p q [] x is h = absurd (cc)
found_some p q (o ∷ os) x is h = by_test (p o) refl (found_some p q os x)
  where
    or_left : (a b : Bool) → a ≡ true → (a || b) ≡ true
    or_left true b e = refl
    or_left false b e = absurd (cc)

    or_right : (a b : Bool) → b ≡ true → (a || b) ≡ true
    or_right true b e = refl
    or_right false b e = e

    by_test : (b : Bool) → p o ≡ b → (find p os ≡ Some x → q x ≡ true → list_any q os ≡ true) → (q o || list_any q os) ≡ true
    by_test true e more = let same : o ≡ x = cc in or_left (q o) (list_any q os) (rw same h)
    by_test false e more = or_right (q o) (list_any q os) (more (rw e at is) h)

found_passes : (p : Row → Bool) (rows : List Row) (x : Row) → find p rows ≡ Some x → p x ≡ true
found_passes p [] x is = absurd (cc)
found_passes p (o ∷ os) x is = by_test (p o) refl (found_passes p os x)
  where
    by_test : (b : Bool) → p o ≡ b → (find p os ≡ Some x → p x ≡ true) → p x ≡ true
    by_test true e more = let same : o ≡ x = cc in rw (sym same) e
    by_test false e more = more (rw e at is)

both_true : (a b : Bool) → a ≡ true → b ≡ true → (a && b) ≡ true
both_true true b e f = f
both_true false b e f = absurd (cc)

-- ---- the span

le_tells : (a b : ℕ) → nat_le a b ≡ true → a ≤ b
le_tells a b e = grind (arith, nat_tests)

lt_tells : (a b : ℕ) → nat_le a b ≡ false → b < a
lt_tells a b e = grind (arith, nat_tests)

in_span : (a b : ℕ) (s : Lifetime) → span_between a b ≡ Some s → (s.first ≡ a) × (s.last ≡ b)
in_span a b s e = by_test (nat_le a b) e
  where
    by_test : (t : Bool) → ◌≡◌ {A = Option Lifetime} (if t then Some (record { first = a; last = b }) else None) (Some s) → (s.first ≡ a) × (s.last ≡ b)
    by_test true h = let same : record { first = a; last = b } ≡ s = cc in (sym (ap (λ (x : Lifetime). x.first) same), sym (ap (λ (x : Lifetime). x.last) same))
    by_test false h = absurd (cc)

pub record Takers (f : Facing) (r o : Row) (s : Lifetime) : Type 0 where
  pub x : Row
  pub y : Row
  pub old : old_taker f r ≡ Some x
  pub new : new_taker f o ≡ Some y
  pub first : s.first ≡ earliest_switch f.plan y
  pub last : s.last ≡ latest_switch f.plan x

takers : (f : Facing) (r o : Row) (s : Lifetime) → switch_span f r o ≡ Some s → Takers f r o s
takers f r o s is = by_rows (old_taker f r) (new_taker f o) refl refl is
  where
    by_rows : (a b : Option Row) → old_taker f r ≡ a → new_taker f o ≡ b → span_by f.plan a b ≡ Some s → Takers f r o s
    by_rows None b p q h = absurd (cc)
    by_rows (Some x) None p q h = absurd (cc)
    by_rows (Some x) (Some y) p q h =
        let ends = in_span (earliest_switch f.plan y) (latest_switch f.plan x) s h in
        record { x = x; y = y; old = p; new = q; first = ends.0; last = ends.1 }

latest_within : (plan : Plan) (x : Row) → latest_switch plan x ≤ plan.to
latest_within plan x = by_test (nat_le greatest_time x.accepting.last)
  where
    by_test : (b : Bool) → (if b then plan.to else min plan.to (x.accepting.last + 1 - plan.lag)) ≤ plan.to
    by_test true = omega arith
    by_test false = omega arith

-- until just before the time the old row is accepted for long enough
last_accepted : (plan : Plan) (x : Row) (time : ℕ) → plan.from < time → time ≤ latest_switch plan x → plan.from - plan.lead ≤ x.accepting.last
    → min greatest_time (time - 1 + plan.lag) ≤ x.accepting.last
last_accepted plan x time low high some = by_test (nat_le greatest_time x.accepting.last) refl high
  where
    by_test : (b : Bool) → nat_le greatest_time x.accepting.last ≡ b → time ≤ (if b then plan.to else min plan.to (x.accepting.last + 1 - plan.lag))
        → min greatest_time (time - 1 + plan.lag) ≤ x.accepting.last
    by_test true e h = let le = le_tells greatest_time x.accepting.last e in omega arith
    by_test false e h = omega arith

module _ (f : Facing) (r o : Row) (s : Lifetime) (time : ℕ) (span : switch_span f r o ≡ Some s) (low : s.first ≤ time) (high : time ≤ s.last)
    (end : f.plan.to ≤ greatest_time) where
  abbrev old_life : Lifetime
  old_life = record { first = f.plan.from; last = time - 1 }

  abbrev new_life : Lifetime
  new_life = record { first = time; last = f.plan.to }

  abbrev both : Takers f r o s
  both = takers f r o s span

  pub after_from : f.plan.from < time
  after_from = let e = both.first in omega (arith, e, low)

  pub by_to : time ≤ f.plan.to
  by_to = let e = both.last in let h = latest_within f.plan both.x in omega (arith, e, h, high)

  old_met : list_any (accepts_throughout f.pair f.plan.lead f.plan.lag (sending_in old_life r)) f.other.rows ≡ true
  old_met =
      let x = both.x in
      let passes = and_tells (accepts_from f.pair r x) (contains x.accepting (f.plan.from - f.plan.lead)) (found_passes (takes_at f.pair r (f.plan.from - f.plan.lead)) f.other.rows x both.old) in
      let c = from_contains x.accepting (f.plan.from - f.plan.lead) passes.1 in
      let c0 = c.0 in
      let c1 = c.1 in
      let e = both.last in
      let from = after_from in
      let most = last_accepted f.plan x time from (omega (arith, e, high)) c1 in
      found_some (takes_at f.pair r (f.plan.from - f.plan.lead)) (accepts_throughout f.pair f.plan.lead f.plan.lag (sending_in old_life r)) f.other.rows x both.old
      (both_true (accepts_from f.pair r x) (outlasts f.plan.lead f.plan.lag (sending_in old_life r) x) passes.0
      (both_true (contains x.accepting (f.plan.from - f.plan.lead)) (contains x.accepting (min greatest_time (time - 1 + f.plan.lag))) passes.1
      (let to = by_to in to_contains x.accepting (min greatest_time (time - 1 + f.plan.lag)) (omega (arith, c0, from, to, end)) most)))

  new_met : list_any (accepts_throughout f.pair f.plan.lead f.plan.lag (sending_in new_life o)) f.other.rows ≡ true
  new_met =
      let y = both.y in
      let wanted = min greatest_time (f.plan.to + f.plan.lag) in
      let passes = and_tells (accepts_from f.pair o y) (contains y.accepting wanted) (found_passes (takes_at f.pair o wanted) f.other.rows y both.new) in
      let c = from_contains y.accepting wanted passes.1 in
      let c1 = c.1 in
      let e = both.first in
      let to = by_to in
      found_some (takes_at f.pair o wanted) (accepts_throughout f.pair f.plan.lead f.plan.lag (sending_in new_life o)) f.other.rows y both.new
      (both_true (accepts_from f.pair o y) (outlasts f.plan.lead f.plan.lag (sending_in new_life o) y) passes.0
      (both_true (contains y.accepting (time - f.plan.lead)) (contains y.accepting wanted)
      (to_contains y.accepting (time - f.plan.lead) (omega (arith, e, low)) (omega (arith, c1, to, end)))
      passes.1))

  module _ (n m : ℕ) (low_n : 1 ≤ n) (low_m : 1 ≤ m) (apart : n ≡ m → ⊥) (got_n : slice_get f.node.rows (n - 1) ≡ Some r) (got_m : slice_get f.node.rows (m - 1) ≡ Some o) where
    abbrev inner : List Row
    inner = changed_row (sending_in new_life) m 1 f.node.rows

    abbrev new_rows : List Row
    new_rows = switched f.plan n m time f.node.rows

    old_at : slice_get new_rows (n - 1) ≡ Some (sending_in old_life r)
    old_at =
        got_new (sending_in old_life) n 1 (n - 1) inner r (omega (arith, low_n))
        (got_other (sending_in new_life) m 1 (n - 1) f.node.rows (λ e. apart (omega (arith, e, low_n))) ∙ got_n)

    new_at : slice_get new_rows (m - 1) ≡ Some (sending_in new_life o)
    new_at =
        got_other (sending_in old_life) n 1 (m - 1) inner (λ e. apart (omega (arith, e, low_m)))
        ∙ got_new (sending_in new_life) m 1 (m - 1) f.node.rows o (omega (arith, low_m)) got_m

    pub switched_met : ((i : ℕ) (q : Row) → slice_get f.node.rows i ≡ Some q → (1 + i ≡ n → ⊥) → (1 + i ≡ m → ⊥) → IsMet f.other.rows f.pair f.plan.lead f.plan.lag q)
        → AlignedFrom new_rows f.other.rows f.pair f.plan.lead f.plan.lag
    switched_met rest = got_all (IsMet f.other.rows f.pair f.plan.lead f.plan.lag) new_rows (λ i q at. by_place i q at (same_or_not (1 + i) n) (same_or_not (1 + i) m))
      where
        by_place : (i : ℕ) (q : Row) → slice_get new_rows i ≡ Some q → ((1 + i ≡ n) ⊎ (1 + i ≡ n → ⊥)) → ((1 + i ≡ m) ⊎ (1 + i ≡ m → ⊥))
            → IsMet f.other.rows f.pair f.plan.lead f.plan.lag q
        by_place i q at (inl e) other =
            let one : n - 1 ≡ i = omega (arith, e) in
            let is = one_got new_rows i (sending_in old_life r) q (subst (λ (k : ℕ). slice_get new_rows k ≡ Some (sending_in old_life r)) one old_at) at in
            λ sends. subst (λ (x : Row). list_any (accepts_throughout f.pair f.plan.lead f.plan.lag x) f.other.rows ≡ true) is old_met
        by_place i q at (inr ne) (inl e) =
            let one : m - 1 ≡ i = omega (arith, e) in
            let is = one_got new_rows i (sending_in new_life o) q (subst (λ (k : ℕ). slice_get new_rows k ≡ Some (sending_in new_life o)) one new_at) at in
            λ sends. subst (λ (x : Row). list_any (accepts_throughout f.pair f.plan.lead f.plan.lag x) f.other.rows ≡ true) is new_met
        by_place i q at (inr ne) (inr other) =
            rest i q (sym (got_other (sending_in new_life) m 1 i f.node.rows other) ∙ (sym (got_other (sending_in old_life) n 1 i inner ne) ∙ at)) ne other

    pub switched_received : (back : Pair) → AlignedFrom f.other.rows f.node.rows back f.plan.lead f.plan.lag → AlignedFrom f.other.rows new_rows back f.plan.lead f.plan.lag
    switched_received back met =
        each_met f.other.rows f.node.rows new_rows back f.plan.lead f.plan.lag
        (λ q some. any_same (accepts_throughout back f.plan.lead f.plan.lag q) (sending_in old_life) (λ x. refl) n 1 inner
        ∙ (any_same (accepts_throughout back f.plan.lead f.plan.lag q) (sending_in new_life) (λ x. refl) m 1 f.node.rows ∙ some)) met

    pub switched_no_gap : is_timeless f.pair r ≡ true → is_timeless f.pair o ≡ true → gap new_rows f.pair f.plan.from f.plan.to ≡ None
    switched_no_gap one two = (gap_exactly new_rows f.pair f.plan.from f.plan.to None).1 (λ t a b. by_time t a b (nat_lt t time) refl)
      where
        sends_in : (q : Row) (l : Lifetime) (t : ℕ) → sends_for f.pair q ≡ true → contains l t ≡ true → sendable f.pair t (sending_in l q) ≡ true
        sends_in q l t is within =
            let parts = and_tells (matches q f.pair) (sends q.direction) is in
            both_true (matches q f.pair) (sends q.direction && contains l t) parts.0 (both_true (sends q.direction) (contains l t) parts.1 within)

        by_time : (t : ℕ) → f.plan.from ≤ t → t ≤ f.plan.to → (b : Bool) → nat_lt t time ≡ b → has_sendable new_rows f.pair t ≡ true
        by_time t a b true e =
            let before : t < time = grind (arith, nat_tests) in
            any_got (sendable f.pair t) new_rows (n - 1) (sending_in old_life r) old_at
            (sends_in r old_life t (and_tells (sends_for f.pair r) (is_unbounded r.sending && is_unbounded r.accepting) one).0 (to_contains old_life t a (omega (arith, before))))
        by_time t a b false e =
            let after : time ≤ t = grind (arith, nat_tests) in
            any_got (sendable f.pair t) new_rows (m - 1) (sending_in new_life o) new_at
            (sends_in o new_life t (and_tells (sends_for f.pair o) (is_unbounded o.sending && is_unbounded o.accepting) two).0 (to_contains new_life t after b))

-- ---- what two findings say of the other rows

-- the finding is that one of two rows of an end isn't taken for long enough
abbrev IsOfTwo : End → (n m : ℕ) → Finding → Type 0
IsOfTwo end n m (finding.NoPeerRow e k) = ⊥
IsOfTwo end n m (finding.ShortAccept e k) = (e ≡ end) × ((k ≡ n) ⊎ (k ≡ m))
IsOfTwo end n m (finding.Gap e first last) = ⊥

unmet_here : (end : End) (n m : ℕ) (e : End) (k : ℕ) (o : Option Reason) (fs : List Finding)
    → AllByRecursion (IsOfTwo end n m) (with_finding (option_map (finding_by e k) o) fs) → (((e ≡ end) × ((k ≡ n) ⊎ (k ≡ m))) ⊎ (o ≡ None)) × AllByRecursion (IsOfTwo end n m) fs
unmet_here end n m e k None fs all = (inr refl, all)
unmet_here end n m e k (Some NoPeerRow) fs all = absurd (all.0)
unmet_here end n m e k (Some ShortAccept) fs all = (inl all.0, all.1)

others_met : (end : End) (n m : ℕ) (reason : Row → Option Reason) (e : End) (k : ℕ) (rows : List Row) → AllByRecursion (IsOfTwo end n m) (unmet_findings reason e k rows)
    → (i : ℕ) (r : Row) → slice_get rows i ≡ Some r → ((e ≡ end) × ((k + i ≡ n) ⊎ (k + i ≡ m)) → ⊥) → reason r ≡ None
others_met end n m reason e k [] all i r got ne = absurd (cc)
others_met end n m reason e k (o ∷ os) all zero r got ne =
    let same : o ≡ r = cc in
    let h = unmet_here end n m e k (reason o) (unmet_findings reason e (k + 1) os) all in
    let none : k + 0 ≡ k = omega arith in
    elim h.0 [
      | inl own ↦ absurd (ne (own.0, subst (λ (j : ℕ). (j ≡ n) ⊎ (j ≡ m)) (sym none) own.1))
      | inr clear ↦ ap reason (sym same) ∙ clear
    ]
others_met end n m reason e k (o ∷ os) all (suc i) r got ne =
    let h = unmet_here end n m e k (reason o) (unmet_findings reason e (k + 1) os) all in
    let next : k + 1 + i ≡ k + suc i = omega arith in
    others_met end n m reason e (k + 1) os h.1 i r got (λ own. ne (own.0, subst (λ (j : ℕ). (j ≡ n) ⊎ (j ≡ m)) next own.1))

ends_differ : A ≡ B → ⊥
ends_differ e = absurd (cc)

ends_differ_too : B ≡ A → ⊥
ends_differ_too e = absurd (cc)

module _ (end : End) (n m : ℕ) (a b : List Row) (pair : Pair) (plan : Plan) (all : AllByRecursion (IsOfTwo end n m) (findings a b pair plan)) where
  abbrev unmet_a : List Finding
  unmet_a = unmet_findings (unmet_reason b pair plan.lead plan.lag) A 1 a

  abbrev unmet_b : List Finding
  unmet_b = unmet_findings (unmet_reason a (mirrored pair) plan.lead plan.lag) B 1 b

  abbrev gaps_a : List Finding
  gaps_a = gap_findings A a pair plan.from plan.to

  abbrev gaps_b : List Finding
  gaps_b = gap_findings B b (mirrored pair) plan.from plan.to

  parts : AllByRecursion (IsOfTwo end n m) unmet_a × AllByRecursion (IsOfTwo end n m) unmet_b × AllByRecursion (IsOfTwo end n m) gaps_a × AllByRecursion (IsOfTwo end n m) gaps_b
  unfolding findings
  parts =
      let one = all_parts (IsOfTwo end n m) unmet_a (unmet_b ++ (gaps_a ++ gaps_b)) all in
      let two = all_parts (IsOfTwo end n m) unmet_b (gaps_a ++ gaps_b) one.1 in
      let three = all_parts (IsOfTwo end n m) gaps_a gaps_b two.1 in
      (one.0, two.0, three.0, three.1)

  met_a : (i : ℕ) (q : Row) → slice_get a i ≡ Some q → ((A ≡ end) × ((1 + i ≡ n) ⊎ (1 + i ≡ m)) → ⊥) → IsMet b pair plan.lead plan.lag q
  met_a i q got ne = no_reason_met b pair plan.lead plan.lag q (others_met end n m (unmet_reason b pair plan.lead plan.lag) A 1 a parts.0 i q got ne)

  met_b : (i : ℕ) (q : Row) → slice_get b i ≡ Some q → ((B ≡ end) × ((1 + i ≡ n) ⊎ (1 + i ≡ m)) → ⊥) → IsMet a (mirrored pair) plan.lead plan.lag q
  met_b i q got ne = no_reason_met a (mirrored pair) plan.lead plan.lag q (others_met end n m (unmet_reason a (mirrored pair) plan.lead plan.lag) B 1 b parts.1 i q got ne)

  no_gap_a : gap a pair plan.from plan.to ≡ None
  no_gap_a = none_gap (IsOfTwo end n m) A (λ first last e. e) a pair plan.from plan.to parts.2

  no_gap_b : gap b (mirrored pair) plan.from plan.to ≡ None
  no_gap_b = none_gap (IsOfTwo end n m) B (λ first last e. e) b (mirrored pair) plan.from plan.to parts.3

neither : (j n m : ℕ) → (j ≡ n → ⊥) → (j ≡ m → ⊥) → (j ≡ n) ⊎ (j ≡ m) → ⊥
neither j n m p q (inl e) = p e
neither j n m p q (inr e) = q e

pub aligned_at : (f : Facing) (e : End) (n m time : ℕ) (r o : Row) (s : Lifetime) → 1 ≤ n → 1 ≤ m → (n ≡ m → ⊥) → f.plan.to ≤ greatest_time
    → AllByRecursion (IsOfTwo e n m) (findings f.node.rows f.other.rows f.pair f.plan)
    → row_numbered (facing_at e f).node.rows n ≡ Some r → row_numbered (facing_at e f).node.rows m ≡ Some o
    → is_timeless (facing_at e f).pair r ≡ true → is_timeless (facing_at e f).pair o ≡ true
    → switch_span (facing_at e f) r o ≡ Some s → s.first ≤ time → time ≤ s.last → IsAligned (switched_at e n m time f)
aligned_at f A n m time r o s low_n low_m apart end all got_n got_m one two span low high =
    let new = switched f.plan n m time f.node.rows in
    let back = got_all (IsMet f.node.rows (mirrored f.pair) f.plan.lead f.plan.lag) f.other.rows
    (λ i q at. met_b A n m f.node.rows f.other.rows f.pair f.plan all i q at (λ h. ends_differ_too h.0)) in
    (lint_aligned new f.other.rows f.pair f.plan).1 (
      (
        switched_met f r o s time span low high end n m low_n low_m apart got_n got_m
            (λ i q at p q2. met_a A n m f.node.rows f.other.rows f.pair f.plan all i q at (λ h. neither (1 + i) n m p q2 h.1)),
        switched_received f r o s time span low high end n m low_n low_m apart got_n got_m (mirrored f.pair) back,
      ),
      switched_no_gap f r o s time span low high end n m low_n low_m apart got_n got_m one two,
      no_gap_b A n m f.node.rows f.other.rows f.pair f.plan all,
    )
aligned_at f B n m time r o s low_n low_m apart end all got_n got_m one two span low high =
    let g = facing_at B f in
    let new = switched f.plan n m time f.other.rows in
    let there = got_all (IsMet f.other.rows f.pair f.plan.lead f.plan.lag) f.node.rows
    (λ i q at. met_a B n m f.node.rows f.other.rows f.pair f.plan all i q at (λ h. ends_differ h.0)) in
    (lint_aligned f.node.rows new f.pair f.plan).1 (
      (
        switched_received g r o s time span low high end n m low_n low_m apart got_n got_m f.pair there,
        switched_met g r o s time span low high end n m low_n low_m apart got_n got_m
            (λ i q at p q2. met_b B n m f.node.rows f.other.rows f.pair f.plan all i q at (λ h. neither (1 + i) n m p q2 h.1)),
      ),
      no_gap_a B n m f.node.rows f.other.rows f.pair f.plan all,
      switched_no_gap g r o s time span low high end n m low_n low_m apart got_n got_m one two,
    )

two_hold : (P : Finding → Type 0) (fs : List Finding) (x y : Finding) → fs ≡ x ∷ y ∷ [] → P x → P y → AllByRecursion P fs
two_hold P fs x y is one two = rw is (one, (two, tt))

module _ (f : Facing) (e : End) (n m time : ℕ) (r o : Row) (s : Lifetime) (low_n : 1 ≤ n) (less : n < m) (end : f.plan.to ≤ greatest_time)
    (is : findings f.node.rows f.other.rows f.pair f.plan ≡ finding.ShortAccept e n ∷ finding.ShortAccept e m ∷ [])
    (got_n : row_numbered (facing_at e f).node.rows n ≡ Some r) (got_m : row_numbered (facing_at e f).node.rows m ≡ Some o)
    (one : is_timeless (facing_at e f).pair r ≡ true) (two : is_timeless (facing_at e f).pair o ≡ true) where
  pub there_aligned : switch_span (facing_at e f) r o ≡ Some s → s.first ≤ time → time ≤ s.last → IsAligned (switched_at e n m time f)
  there_aligned span low high =
      aligned_at f e n m time r o s low_n (omega (arith, low_n, less)) (λ q. absurd (omega (arith, q, less))) end
      (two_hold (IsOfTwo e n m) (findings f.node.rows f.other.rows f.pair f.plan) (finding.ShortAccept e n) (finding.ShortAccept e m) is (refl, inl refl) (refl, inr refl))
      got_n got_m one two span low high

  pub back_aligned : switch_span (facing_at e f) o r ≡ Some s → s.first ≤ time → time ≤ s.last → IsAligned (switched_at e m n time f)
  back_aligned span low high =
      aligned_at f e m n time o r s (omega (arith, low_n, less)) low_n (λ q. absurd (omega (arith, q, less))) end
      (two_hold (IsOfTwo e m n) (findings f.node.rows f.other.rows f.pair f.plan) (finding.ShortAccept e n) (finding.ShortAccept e m) is (refl, inr refl) (refl, inl refl))
      got_m got_n two one span low high
