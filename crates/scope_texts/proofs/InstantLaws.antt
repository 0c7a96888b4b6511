-- The day of a number, and a time put behind a text.
use Rattle.std.proofs.Common.{◌≡◌, ℕ, ◌≤◌, ◌<◌, ◌/◌, ◌%◌, List, [], ◌∷◌, ◌++◌, pos, refl, ap, ◌∙◌, append_assoc, le-leb, arith, w16, to_z, of_z, FitsSigned}
use Rattle.std.proofs.lemmas.Int.{to_z-of_z}
use Rattle.jiff_core.proofs.SignedLemmas.{signed_arith}
use Rattle.std.specs.Prelude.{unsigned_abs}
use Rattle.jiff_core.specs.declared.civil.date.Date.{Date}
use Rattle.jiff_core.specs.Date.{epoch_day}
use Rattle.book_keys.specs.Lifetimes.{greatest_time}
use Rattle.book_scope_texts.specs.declared.calendar_day.CalendarDay.{CalendarDay}
use Rattle.book_scope_texts.specs.Instants.{calendar_day, clock_text, day_text, key_time_text}
use Rattle.book_scope_texts.proofs.InstantLaws.{same_date}

same_parts : (y m d : ℕ) (day : CalendarDay) → y ≡ day.year → m ≡ day.month → d ≡ day.day
    → ◌≡◌ {A = CalendarDay} (record { year = y; month = m; day = d }) day
same_parts y m d day year month date = rw (year, month, date) refl

pub same_day : (n : ℕ) (date : Date) (year : ℕ) → n < 2_932_897 → epoch_day date ≡ pos n → year ≡ unsigned_abs date.year
    → ◌≡◌ {A = CalendarDay} (record { year = year; month = date.month; day = date.day }) (calendar_day n)
same_day n date year small e is =
    let same = same_date n date small e in
    same_parts year date.month date.day (calendar_day n) (is ∙ ap unsigned_abs same.0) same.1 same.2

-- a year is a number of 16 bits with a sign
pub year_kept : (date : Date) → to_z w16 (of_z w16 date.year) ≡ date.year
year_kept date =
    let fits : FitsSigned w16 date.year = omega (arith, signed_arith, date.year_in) in
    to_z-of_z w16 date.year fits

pub key_time_put : (time : ℕ) (out day clock new : List ℕ) → time ≤ greatest_time → day ≡ out ++ day_text [] (calendar_day (time / 86400))
    → clock ≡ day ++ clock_text [] (time % 86400) → new ≡ clock ++ 90 ∷ [] → new ≡ out ++ key_time_text time
unfolding key_time_text
key_time_put time out day clock new small a b c =
    rw (le-leb time greatest_time small)
    (c ∙ rw (b, a) (append_assoc (out ++ day_text [] (calendar_day (time / 86400))) (clock_text [] (time % 86400)) (90 ∷ [])
    ∙ append_assoc out (day_text [] (calendar_day (time / 86400))) (clock_text [] (time % 86400) ++ 90 ∷ [])))
