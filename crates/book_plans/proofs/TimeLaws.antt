-- A time that a key file writes is by the last that it can write.
use Rattle.std.proofs.Common.{◌≡◌, ℕ, ◌+◌, ◌-◌, ◌*◌, ◌<◌, ◌≤◌, ◌==◌, nat_le, nat_lt, Bool, true, false, ◌&&◌, List, length, Option, Some, None, refl, subst, arith, ℤ, pos, negsuc, ◌≤ℤ◌, ◌<ℤ◌, unsigned_abs, if◌then◌else◌}
use Rattle.std.specs.Prelude.{slice_index}
use Rattle.std.proofs.lemmas.Bool.{ltb-true}
use Rattle.std.proofs.lemmas.Int.{by_lt_z}
use Rattle.jiff_core.specs.Calendar.{day_count, days_from_civil, days_in_month, IsCivilDate}
use Rattle.jiff_core.proofs.SignedLemmas.{signed_arith}
use Rattle.jiff_core.proofs.CalendarLemmas.{day_count-epoch, days_from_civil-day_count, day_count-later_year, day_count-day_of_year, day_count_bounds}
use Rattle.book_segments.proofs.Fields.{and_tells, le_is}
use Rattle.book_keys.specs.Lifetimes.{greatest_time}
use Rattle.book_keys.specs.Times.{◌>>=◌, two_digits_at, day_of, second_of, time_of_digits, time_of}
use borrow.Author.Differences.{up, down}

some_if : (b : Bool) (x y : ℕ) → ◌≡◌ {A = Option ℕ} (if b then Some x else None) (Some y) → (b ≡ true) × (x ≡ y)
some_if true x y e = (refl, cc)
some_if false x y e = absurd (cc)

also_if : (b : Bool) (o : Option ℕ) (y : ℕ) → ◌≡◌ {A = Option ℕ} (if b then o else None) (Some y) → o ≡ Some y
also_if true o y e = e
also_if false o y e = absurd (cc)

-- reading that went on
then_some : (o : Option ℕ) (f : ℕ → Option ℕ) (y : ℕ) → (o >>= f) ≡ Some y → (x : ℕ) × (o ≡ Some x) × (f x ≡ Some y)
then_some (Some x) f y e = (x, refl, e)
then_some None f y e = absurd (cc)

lt_is : (a b : ℕ) → nat_lt a b ≡ true → a < b
lt_is a b e = ltb-true a b e

two_low : (a b n : ℕ) → ◌≡◌ {A = Option ℕ} (if (nat_le 48 a && nat_le a 57) && (nat_le 48 b && nat_le b 57) then Some (10 * (a - 48) + (b - 48)) else None) (Some n) → n < 100
two_low a b n e =
    let c = some_if ((nat_le 48 a && nat_le a 57) && (nat_le 48 b && nat_le b 57)) (10 * (a - 48) + (b - 48)) n e in
    let both = and_tells (nat_le 48 a && nat_le a 57) (nat_le 48 b && nat_le b 57) c.0 in
    let one = le_is a 57 (and_tells (nat_le 48 a) (nat_le a 57) both.0).1 in
    let two = le_is b 57 (and_tells (nat_le 48 b) (nat_le b 57) both.1).1 in
    let is = c.1 in
    omega arith

two_bound : (text : List ℕ) (i n : ℕ) → two_digits_at text i ≡ Some n → n < 100
unfolding two_digits_at
two_bound text i n e = two_low (slice_index text i) (slice_index text (i + 1)) n e

later : (y : ℤ) → pos 1970 <ℤ y → 4_371_953 ≤ day_count y 1 1
later y lt = omega (arith, day_count-epoch, day_count-later_year (pos 1970) y (omega (arith, signed_arith)) lt)

first_day : (y : ℤ) → pos 1970 ≤ℤ y → 4_371_953 ≤ day_count y 1 1
first_day y low =
    by_lt_z (pos 1970) y (λ lt. later y lt) (λ le.
    let same : pos 1970 ≡ y = omega (arith, signed_arith) in
    rw (← same) (omega (arith, day_count-epoch)))

from_first : (y : ℤ) (m d : ℕ) → 1 ≤ d → pos 1970 ≤ℤ y → 4_371_953 ≤ day_count y m d
from_first y m d first low =
    let h = first_day y low in
    omega (arith, day_count-day_of_year y m d first)

size : (z : ℤ) (days : ℕ) → up z + 4_371_953 ≡ down z + days → 4_371_953 ≤ days → days ≤ 7_304_849 → unsigned_abs z ≤ 2_932_896
size (pos n) days e low high = omega (arith, signed_arith)
size (negsuc n) days e low high = absurd (omega (arith, signed_arith))

day_bound : (y m d n : ℕ) → y ≤ 9999 → day_of y m d ≡ Some n → n ≤ 2_932_896
unfolding day_of
day_bound y m d n year e =
    let year_month = nat_le 1970 y && (nat_le 1 m && nat_le m 12) in
    let day = nat_le 1 d && nat_le d (days_in_month (pos y) m) in
    let c = some_if (year_month && day) (unsigned_abs (days_from_civil (pos y) m d)) n e in
    let both = and_tells year_month day c.0 in
    let one = and_tells (nat_le 1970 y) (nat_le 1 m && nat_le m 12) both.0 in
    let since = le_is 1970 y one.0 in
    let month = and_tells (nat_le 1 m) (nat_le m 12) one.1 in
    let days = and_tells (nat_le 1 d) (nat_le d (days_in_month (pos y) m)) both.1 in
    let first = le_is 1 d days.0 in
    let civil : IsCivilDate (pos y) m d =
    ((omega (arith, signed_arith), omega (arith, signed_arith)), (le_is 1 m month.0, le_is m 12 month.1), (first, le_is d (days_in_month (pos y) m) days.1)) in
    let low : pos 1970 ≤ℤ pos y = omega (arith, signed_arith) in
    let bound = size (days_from_civil (pos y) m d) (day_count (pos y) m d) (days_from_civil-day_count (pos y) m d) (from_first (pos y) m d first low) (day_count_bounds (pos y) m d civil).1 in
    subst (λ (x : ℕ). x ≤ 2_932_896) c.1 bound

second_bound : (h m s n : ℕ) → second_of h m s ≡ Some n → n < 86400
unfolding second_of
second_bound h m s n e =
    let c = some_if (nat_lt h 24 && (nat_lt m 60 && nat_lt s 60)) (3600 * h + 60 * m + s) n e in
    let both = and_tells (nat_lt h 24) (nat_lt m 60 && nat_lt s 60) c.0 in
    let rest = and_tells (nat_lt m 60) (nat_lt s 60) both.1 in
    let hour = lt_is h 24 both.0 in
    let minute = lt_is m 60 rest.0 in
    let second = lt_is s 60 rest.1 in
    let is = c.1 in
    omega arith

pub some_is : (x y : ℕ) → ◌≡◌ {A = Option ℕ} (Some x) (Some y) → x ≡ y
some_is x y e = cc

digits_bound : (text : List ℕ) (t : ℕ) → time_of_digits text ≡ Some t → t ≤ greatest_time
unfolding time_of_digits
digits_bound text t e =
    let c = then_some (two_digits_at text 0) _ t e in
    let y = then_some (two_digits_at text 2) _ t c.2 in
    let mo = then_some (two_digits_at text 4) _ t y.2 in
    let d = then_some (two_digits_at text 6) _ t mo.2 in
    let h = then_some (two_digits_at text 8) _ t d.2 in
    let mi = then_some (two_digits_at text 10) _ t h.2 in
    let s = then_some (two_digits_at text 12) _ t mi.2 in
    let day = then_some (day_of (100 * c.0 + y.0) mo.0 d.0) _ t s.2 in
    let second = then_some (second_of h.0 mi.0 s.0) _ t day.2 in
    let century = two_bound text 0 c.0 c.1 in
    let year = two_bound text 2 y.0 y.1 in
    let days = day_bound (100 * c.0 + y.0) mo.0 d.0 day.0 (omega arith) day.1 in
    let seconds = second_bound h.0 mi.0 s.0 second.0 second.1 in
    let is = some_is (day.0 * 86400 + second.0) t second.2 in
    omega arith

pub time_bound : (text : List ℕ) (t : ℕ) → time_of text ≡ Some t → t ≤ greatest_time
unfolding time_of
time_bound text t e = digits_bound text t (also_if ((length text == 15) && (slice_index text 14 == 90)) (time_of_digits text) t e)
