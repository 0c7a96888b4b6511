-- Times as operators write them. Its tops are `instant_text`, `key_time_text` and `instant_of`.
use Rattle.std.specs.Prelude.{ℕ, zero, suc, ◌+◌, ◌/◌, ◌%◌, ◌==◌, ◌&&◌, nat_le, nat_lt, Bool, pos}
use Rattle.std.specs.Prelude.{if◌then◌else◌, List, [], ◌∷◌, ◌++◌, length, map, slice_index}
use Rattle.std.specs.Prelude.{Option, decimal}
use Rattle.jiff_core.specs.Calendar.{days_in_month}
use Rattle.book_keys.specs.Lifetimes.{greatest_time}
use Rattle.book_keys.specs.Times.{time_of}
use Rattle.book_scope_texts.specs.declared.calendar_day.CalendarDay.{CalendarDay}

-- the day after a day (ISO 8601, section 4.3)
abbrev pub next_day : CalendarDay → CalendarDay
next_day d =
    if nat_lt d.day (days_in_month (pos d.year) d.month)
    then record { year = d.year; month = d.month; day = d.day + 1 }
    else if nat_lt d.month 12
    then record { year = d.year; month = d.month + 1; day = 1 }
    else record { year = d.year + 1; month = 1; day = 1 }

-- the day so many days after the first of January of 1970 (own)
unfoldable pub calendar_day : ℕ → CalendarDay
calendar_day zero = record { year = 1970; month = 1; day = 1 }
calendar_day (suc n) = next_day (calendar_day n)

-- a number below 100 in two digits (RFC 3339, section 5.6)
abbrev pub two_digits : ℕ → List ℕ
two_digits n = (48 + n / 10) ∷ (48 + n % 10) ∷ []

-- a number below 10,000 in four digits (RFC 3339, section 5.6)
abbrev pub four_digits : ℕ → List ℕ
four_digits n = two_digits (n / 100) ++ two_digits (n % 100)

-- year, month and day with a text between them (RFC 3339, section 5.6)
abbrev pub day_text : (between : List ℕ) → CalendarDay → List ℕ
day_text between d =
    four_digits d.year ++ (between ++ (two_digits d.month ++ (between ++ two_digits d.day)))

-- hour, minute and second of a second of the day with a text between them (RFC 3339, section 5.6)
abbrev pub clock_text : (between : List ℕ) → ℕ → List ℕ
clock_text between n =
    two_digits (n / 3600)
    ++ (between ++ (two_digits (n / 60 % 60) ++ (between ++ two_digits (n % 60))))

-- a time as YYYY-MM-DDTHH:MM:SSZ, in seconds since 1970, leap seconds not counted (RFC 3339,
-- section 5.6); past the year 9999, which that form can't write, the number of seconds (own)
unfoldable pub instant_text : ℕ → List ℕ
instant_text time =
    if nat_le time greatest_time
    then day_text (45 ∷ []) (calendar_day (time / 86400))
    ++ (84 ∷ (clock_text (58 ∷ []) (time % 86400) ++ 90 ∷ []))
    else decimal time

-- a time as YYYYMMDDHHMMSSZ, as a key file writes it; past the year 9999 the number of seconds
-- (own)
unfoldable pub key_time_text : ℕ → List ℕ
key_time_text time =
    if nat_le time greatest_time
    then day_text [] (calendar_day (time / 86400)) ++ (clock_text [] (time % 86400) ++ 90 ∷ [])
    else decimal time

-- where the marks of YYYY-MM-DDTHH:MM:SSZ stand, they do (RFC 3339, section 5.6)
abbrev pub has_marks : List ℕ → Bool
has_marks text =
    (length text == 20)
    && ((slice_index text 4 == 45) && ((slice_index text 7 == 45) && ((slice_index text 10 == 84)
    && ((slice_index text 13 == 58) && (slice_index text 16 == 58)))))

-- the digits of YYYY-MM-DDTHH:MM:SSZ, and its Z (RFC 3339, section 5.6)
abbrev pub without_marks : List ℕ → List ℕ
without_marks text =
    map (slice_index text)
    (0 ∷ 1 ∷ 2 ∷ 3 ∷ 5 ∷ 6 ∷ 8 ∷ 9 ∷ 11 ∷ 12 ∷ 14 ∷ 15 ∷ 17 ∷ 18 ∷ 19 ∷ [])

-- the time that YYYY-MM-DDTHH:MM:SSZ or YYYYMMDDHHMMSSZ writes, from 1970 on, in seconds since then
-- (RFC 3339, section 5.6, and own)
unfoldable pub instant_of : List ℕ → Option ℕ
instant_of text = if has_marks text then time_of (without_marks text) else time_of text
