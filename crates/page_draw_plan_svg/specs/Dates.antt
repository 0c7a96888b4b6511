-- At which times a scale has dates. Its tops are `unit_for`, `is_dated` and `date_text`.
use Rattle.std.specs.Prelude.{ℕ, ◌==◌, ◌&&◌, ◌||◌, nat_le, nat_lt, Bool, true, List, length}
use Rattle.std.specs.Prelude.{slice_index, take, if◌then◌else◌}
use Rattle.page_draw_plan_svg.specs.declared.unit.DateUnit.{DateUnit}
use Rattle.page_draw_plan_svg.specs.declared.unit.DateUnit.TheVariants.{Hour, SixHours, Day}
use Rattle.page_draw_plan_svg.specs.declared.unit.DateUnit.TheVariants.{TenDays, Month, HalfYear}
use Rattle.page_draw_plan_svg.specs.declared.unit.DateUnit.TheVariants.{Year, Decade, Century}
use Rattle.page_draw_plan_svg.specs.declared.unit.DateUnit.TheVariants.{Millennium}
use Rattle.book_scope_texts.specs.Instants.{instant_text}

-- the unit for a time of so many seconds: so many that their dates don't meet (own)
unfoldable pub unit_for : (seconds : ℕ) → DateUnit
unit_for seconds =
    if nat_le seconds 21_600 then Hour
    else if nat_le seconds 129_600 then SixHours
    else if nat_le seconds 691_200 then Day
    else if nat_le seconds 6_220_800 then TenDays
    else if nat_le seconds 31_622_400 then Month
    else if nat_le seconds 126_489_600 then HalfYear
    else if nat_le seconds 379_468_800 then Year
    else if nat_le seconds 3_794_688_000 then Decade
    else if nat_le seconds 37_946_880_000 then Century
    else Millennium

-- how many seconds apart the times are that may have a date (own)
abbrev pub unit_step : DateUnit → ℕ
unit_step Hour = 3600
unit_step SixHours = 21_600
unit_step _ = 86_400

-- how many bytes of a time as text are its date (own)
abbrev pub date_length : DateUnit → ℕ
date_length Hour = 16
date_length SixHours = 16
date_length Day = 10
date_length TenDays = 10
date_length Month = 7
date_length HalfYear = 7
date_length _ = 4

-- the time's text, YYYY-MM-DDTHH:MM:SSZ, is of the days 1, 11 or 21 of a month (own)
abbrev pub is_tenth_day : (text : List ℕ) → Bool
is_tenth_day text = (slice_index text 9 == 49) && nat_lt (slice_index text 8) 51

-- it is of the first day of a month (own)
abbrev pub is_first_day : (text : List ℕ) → Bool
is_first_day text = (slice_index text 9 == 49) && (slice_index text 8 == 48)

-- it is of the first of January (own)
abbrev pub is_new_year : (text : List ℕ) → Bool
is_new_year text =
    is_first_day text && ((slice_index text 5 == 48) && (slice_index text 6 == 49))

-- it is of the first of January or of July (own)
abbrev pub is_half_year : (text : List ℕ) → Bool
is_half_year text =
    is_first_day text && ((slice_index text 5 == 48)
    && ((slice_index text 6 == 49) || (slice_index text 6 == 55)))

-- a time that a step leads to has a date, by its text (own)
abbrev pub has_date : DateUnit → (text : List ℕ) → Bool
has_date TenDays text = is_tenth_day text
has_date Month text = is_first_day text
has_date HalfYear text = is_half_year text
has_date Year text = is_new_year text
has_date Decade text = is_new_year text && (slice_index text 3 == 48)
has_date Century text =
    is_new_year text && ((slice_index text 3 == 48) && (slice_index text 2 == 48))
has_date Millennium text =
    is_new_year text && ((slice_index text 3 == 48)
    && ((slice_index text 2 == 48) && (slice_index text 1 == 48)))
has_date _ text = true

-- so it is, and the text is of the form that has a date (own)
abbrev pub is_dated : DateUnit → (text : List ℕ) → Bool
is_dated unit text = (length text == 20) && has_date unit text

-- the date of a time (RFC 3339, section 5.6, own)
abbrev pub date_text : DateUnit → ℕ → List ℕ
date_text unit time = take (date_length unit) (instant_text time)
