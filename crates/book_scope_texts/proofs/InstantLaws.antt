-- The calendar's days, one after another, are the days of jiff's calendar by their numbers.
use Rattle.std.proofs.Common.{◌≡◌, inl, inr, rules, neg_ℤ, ℕ, zero, suc, ◌+◌, ◌<◌, ◌≤◌, refl, sym, ◌∙◌, arith, lt-ltb, le-ltb, pos, ◌≤ℤ◌}
use Rattle.std.proofs.lemmas.Bool.{cases_lt}
use Rattle.jiff_core.specs.declared.civil.date.Date.{Date}
use Rattle.jiff_core.specs.Calendar.{day_count, days_from_civil, days_in_month, IsYear}
use Rattle.jiff_core.specs.Date.{epoch_day}
use Rattle.jiff_core.proofs.SignedLemmas.{signed_arith}
use Rattle.jiff_core.proofs.CalendarLemmas.{days_from_civil-day_count, day_count-epoch, day_count-next_month, day_count-next_year, day_count-later_year, day_count-day_of_year, day_count-day, day_count-last_of_year, day_count-end, days_in_month_bounds}
use Rattle.jiff_core.proofs.DateLemmas.{epoch_day_injective}
use Rattle.book_scope_texts.specs.declared.calendar_day.CalendarDay.{CalendarDay}
use Rattle.book_scope_texts.specs.Instants.{next_day, calendar_day}

-- a day of the calendar from 1970 on, with its number
pub record IsDay (n : ℕ) (d : CalendarDay) : Type 0 where
  pub since : 1970 ≤ d.year
  pub month_low : 1 ≤ d.month
  pub month_high : d.month ≤ 12
  pub day_low : 1 ≤ d.day
  pub day_high : d.day ≤ days_in_month (pos d.year) d.month
  pub counted : day_count (pos d.year) d.month d.day ≡ n + 4_371_953

-- the first of January comes after the last of December
new_year : (n y m d : ℕ) → m ≡ 12 → d ≡ days_in_month (pos y) m → day_count (pos y) m d ≡ n + 4_371_953
    → day_count (pos (y + 1)) 1 1 ≡ suc n + 4_371_953
new_year n y m d december last counted =
    let same : day_count (pos y) m d ≡ day_count (pos y) 12 31 = rw (last, december) refl in
    let low : neg_ℤ (pos 10000) ≤ℤ pos y = search rules in
    omega (arith, same, counted, day_count-last_of_year (pos y), day_count-next_year (pos y) (pos (y + 1)) low refl)

next_is_day : (n : ℕ) (d : CalendarDay) → IsDay n d → IsDay (suc n) (next_day d)
next_is_day n d h =
    elim (cases_lt d.day (days_in_month (pos d.year) d.month)) [
      | inl within ↦ rw (lt-ltb d.day (days_in_month (pos d.year) d.month) within) (record {
        since = h.since;
        month_low = h.month_low;
        month_high = h.month_high;
        day_low = omega arith;
        day_high = omega arith;
        counted = omega (arith, h.counted, day_count-day (pos d.year) d.month d.day (d.day + 1) h.day_low (omega arith));
      })
      | inr last ↦ rw (le-ltb d.day (days_in_month (pos d.year) d.month) last) (elim (cases_lt d.month 12) [
        | inl within ↦ rw (lt-ltb d.month 12 within) (record {
          since = h.since;
          month_low = omega arith;
          month_high = omega arith;
          day_low = omega arith;
          day_high = omega (arith, days_in_month_bounds (pos d.year) (d.month + 1));
          counted = omega (arith, last, h.day_high, h.counted, day_count-next_month (pos d.year) d.month h.month_low, day_count-day (pos d.year) d.month d.day 1 h.day_low (omega arith));
        })
        | inr end ↦ rw (le-ltb d.month 12 end) (record {
          since = omega (arith, h.since);
          month_low = omega arith;
          month_high = omega arith;
          day_low = omega arith;
          day_high = omega (arith, days_in_month_bounds (pos (d.year + 1)) 1);
          counted = new_year n d.year d.month d.day (omega (arith, h.month_high)) (omega (arith, last, h.day_high)) h.counted;
        })
      ])
    ]

pub is_day : (n : ℕ) → IsDay n (calendar_day n)
unfolding calendar_day
is_day zero = record {
  since = omega arith;
  month_low = omega arith;
  month_high = omega arith;
  day_low = omega arith;
  day_high = omega arith;
  counted = day_count-epoch;
}
is_day (suc n) = next_is_day n (calendar_day n) (is_day n)

-- the year 9999 isn't over
in_calendar : (y m d n : ℕ) → 1970 ≤ y → 1 ≤ d → day_count (pos y) m d ≡ n + 4_371_953 → n < 2_932_897 → y ≤ 9999
in_calendar y m d n since low counted small =
    elim (cases_lt 9999 y) [
      | inl past ↦ absurd (omega (arith, counted, day_count-day_of_year (pos y) m d low, day_count-end, day_count-later_year (pos 9999) (pos y) (search rules) (omega (arith, signed_arith)), day_count-last_of_year (pos 9999), day_count-next_year (pos 9999) (pos 10000) (search rules) refl))
      | inr until ↦ until
    ]

is_year : (y : ℕ) → y ≤ 9999 → IsYear (pos y)
is_year y h = (search rules, omega (arith, signed_arith))

-- the calendar's day as jiff's date
abbrev date_of : (n : ℕ) (d : CalendarDay) → IsDay n d → n < 2_932_897 → Date
date_of n d h small = record {
  year = pos d.year;
  month = d.month;
  day = d.day;
  year_in = is_year d.year (in_calendar d.year d.month d.day n h.since h.day_low h.counted small);
  month_in = (h.month_low, h.month_high);
  day_in = (h.day_low, h.day_high);
}

numbered : (n : ℕ) (d : CalendarDay) (h : IsDay n d) → days_from_civil (pos d.year) d.month d.day ≡ pos n
numbered n d h = omega (arith, signed_arith, h.counted, days_from_civil-day_count (pos d.year) d.month d.day)

-- the date of jiff's calendar with this number has the day's year, month and day
pub same_date : (n : ℕ) (date : Date) → n < 2_932_897 → epoch_day date ≡ pos n →
    (date.year ≡ pos (calendar_day n).year) × (date.month ≡ (calendar_day n).month) × (date.day ≡ (calendar_day n).day)
same_date n date small e =
    let h = is_day n in
    epoch_day_injective date (date_of n (calendar_day n) h small) (e ∙ sym (numbered n (calendar_day n) h))
