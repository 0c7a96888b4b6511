-- Which seconds a bar shows, and where they stand.
use Rattle.std.proofs.Common.{◌≡◌, ◌↔◌, ℕ, ◌+◌, ◌-◌, ◌*◌, ◌/◌, ◌<◌, ◌≤◌, max, min, nat_le, Bool, true, false, ◌&&◌, Option, Some, None, refl, sym, subst, ◌∙◌, arith, if◌then◌else◌}
use Rattle.std.proofs.lemmas.Bool.Decides.{nat_tests}
use Rattle.std.proofs.Math.Nat.{div-mul-le_self, le-div_iff_mul-le, mul-div_cancel_left, zero-div}
use Rattle.book_base.specs.declared.address.Pair.{Pair}
use Rattle.book_scope_plan.specs.declared.duty.Duty.{Duty}
use Rattle.book_scope_plan.specs.declared.duty.Duty.TheVariants.{Accepts, Sends}
use Rattle.book_scope_plan.specs.declared.slice.Slice.{Slice}
use Rattle.book_scope_plan.specs.BarOrders.{is_doing}
use Rattle.book_scope_plan.specs.Bars.{is_seen, may_send_in, pair_at}
use Rattle.book_scope_plan.specs.Slices.{any_passes, slice_between, times_in}
use Rattle.book_scope_plan.proofs.MarkLaws.{sends_in, within_exactly}
use Rattle.page_draw_plan_svg.specs.Spans.{IsWithin, bar_span, common_span, finding_span, sending_span, time_column}
use Rattle.book_keys.specs.declared.lifetime.Lifetime.{Lifetime}
use Rattle.book_keys.specs.Lifetimes.{contains}
use Rattle.book_keys.specs.Rows.{Row, Table, matches, receives, sendable, sends}
use Rattle.book_plans.specs.declared.finding.Finding.{Finding}
use Rattle.book_plans.specs.declared.finding.Finding.TheVariants as finding
use Rattle.book_scope_plan.specs.CalendarTexts.{row_numbered, side_of}

le_holds : (x y : ℕ) → nat_le x y ≡ true → x ≤ y
le_holds x y h = grind (arith, nat_tests)

le_fails : (x y : ℕ) → nat_le x y ≡ false → y < x
le_fails x y h = grind (arith, nat_tests)

and_both : (x y : Bool) → (x && y) ≡ true → (x ≡ true) × (y ≡ true)
and_both true y h = (refl, h)
and_both false y h = absurd (cc)

inside : (l : Lifetime) (t : ℕ) → l.first ≤ t → t ≤ l.last → contains l t ≡ true
inside l t a b =
    let low : nat_le l.first t ≡ true = grind (arith, nat_tests) in
    let high : nat_le t l.last ≡ true = grind (arith, nat_tests) in
    rw (low, high) refl

by_common : (l : Lifetime) (s : Slice) (t : ℕ) → s.first ≤ t → t ≤ s.last → (b : Bool) → nat_le (max l.first s.first) (min l.last s.last) ≡ b
    → (contains l t ≡ true) ↔ IsWithin (if b then Some (slice_between (max l.first s.first) (min l.last s.last)) else None) t
by_common l s t low high true is = (
  λ h.
      let both = and_both (nat_le l.first t) (nat_le t l.last) h in
      let one = le_holds l.first t both.0 in
      let two = le_holds t l.last both.1 in
      (omega arith, omega arith),
  λ w. let one = w.0 in let two = w.1 in inside l t (omega arith) (omega arith),
)
by_common l s t low high false is = (
  λ h.
      let both = and_both (nat_le l.first t) (nat_le t l.last) h in
      let one = le_holds l.first t both.0 in
      let two = le_holds t l.last both.1 in
      let apart = le_fails (max l.first s.first) (min l.last s.last) is in
      absurd (omega arith),
  λ w. absurd w,
)

by_row : (m d : Bool) (l : Lifetime) (s : Slice) (t : ℕ) → s.first ≤ t → t ≤ s.last
    → ((m && (d && contains l t)) ≡ true) ↔ IsWithin (if m && d then common_span l s else None) t
by_row true true l s t low high = by_common l s t low high (nat_le (max l.first s.first) (min l.last s.last)) refl
by_row true false l s t low high = (λ h. absurd (cc), λ w. absurd w)
by_row false d l s t low high = (λ h. absurd (cc), λ w. absurd w)

pub span_exactly : (pair : Pair) (duty : Duty) (r : Row) (time : Slice) (t : ℕ) → time.first ≤ t → t ≤ time.last
    → (is_doing pair duty r t ≡ true) ↔ IsWithin (bar_span pair duty r time) t
span_exactly pair Accepts r time t low high = by_row (matches r pair) (receives r.direction) r.accepting time t low high
span_exactly pair Sends r time t low high = by_row (matches r pair) (sends r.direction) r.sending time t low high

-- ---- findings

one_second : (test : ℕ → Bool) (t : ℕ) → (any_passes test t (times_in (slice_between t t)) ≡ true) ↔ (test t ≡ true)
one_second test t = (
  λ h.
      let f = (within_exactly test (slice_between t t)).0 h in
      let low = f.1 in
      let high = f.2 in
      let same : f.0 ≡ t = omega arith in
      subst (λ (u : ℕ). test u ≡ true) same f.3,
  λ p. (within_exactly test (slice_between t t)).1 (t, omega arith, omega arith, p),
)

sending_second : (pair : Pair) (time : Slice) (t : ℕ) → time.first ≤ t → t ≤ time.last → (row : Option Row)
    → (may_send_in pair (slice_between t t) row ≡ true) ↔ IsWithin (sending_span pair time row) t
sending_second pair time t low high None = (λ h. absurd (cc), λ w. absurd w)
sending_second pair time t low high (Some r) =
    let one = one_second (λ u. sendable pair u r) t in
    let span = span_exactly pair Sends r time t low high in (
      λ h. span.0 (one.0 (sym (sends_in pair (slice_between t t) r) ∙ h)),
      λ w. sends_in pair (slice_between t t) r ∙ one.1 (span.1 w),
    )

pub finding_exactly : (a b : Table) (pair : Pair) (time : Slice) (f : Finding) (t : ℕ) → time.first ≤ t → t ≤ time.last
    → (is_seen a b pair (slice_between t t) f ≡ true) ↔ IsWithin (finding_span a b pair time f) t
finding_exactly a b pair time (finding.NoPeerRow end n) t low high =
    sending_second (pair_at end pair) time t low high (row_numbered (side_of end a b).rows n)
finding_exactly a b pair time (finding.ShortAccept end n) t low high =
    sending_second (pair_at end pair) time t low high (row_numbered (side_of end a b).rows n)
finding_exactly a b pair time (finding.Gap end first last) t low high = (
  λ h. let both = and_both (nat_le first t) (nat_le t last) h in (le_holds first t both.0, le_holds t last both.1),
  λ w.
      let one = w.0 in
      let two = w.1 in
      let early : nat_le first t ≡ true = grind (arith, nat_tests) in
      let late : nat_le t last ≡ true = grind (arith, nat_tests) in
      rw (early, late) refl,
)

-- ---- columns

div_order : (x y d : ℕ) → 0 < d → x ≤ y → x / d ≤ y / d
div_order x y d some order = let less = div-mul-le_self x d in (le-div_iff_mul-le some).1 (omega arith)

pub first_column : (time : Slice) → time_column time time.first ≡ 20
unfolding time_column
first_column time =
    let none : time.first - time.first ≡ 0 = omega arith in
    rw (none, zero-div (time.last - time.first + 1)) refl

pub last_column : (time : Slice) → time.first ≤ time.last → time_column time (time.last + 1) ≡ 780
unfolding time_column
last_column time order =
    let whole : time.last + 1 - time.first ≡ time.last - time.first + 1 = omega arith in
    rw (whole, mul-div_cancel_left 760 {n = time.last - time.first + 1} (omega arith)) refl

pub column_order : (time : Slice) (t u : ℕ) → t ≤ u → time_column time t ≤ time_column time u
unfolding time_column
column_order time t u order =
    let d = time.last - time.first + 1 in
    let less = div_order ((t - time.first) * 760) ((u - time.first) * 760) d (omega arith) (omega arith) in
    omega arith
