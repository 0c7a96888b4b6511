-- The time for which a date and a time of the day of TOML stand, as a key file writes it. Our own
-- format. Its top is `moment_hint`.
use Rattle.std.specs.Prelude.{ℕ, ◌+◌, ◌-◌, ◌*◌, ◌/◌, ◌%◌, nat_le, not, ◌&&◌, ◌++◌, Bool, true}
use Rattle.std.specs.Prelude.{false}
use Rattle.std.specs.Prelude.{List, [], ◌∷◌, codes, Option, Some, None, is_some, option_and_then}
use Rattle.std.specs.Prelude.{unwrap_or, if◌then◌else◌, ℤ, pos, int_lt, unsigned_abs}
use Rattle.toml_datetime.specs.declared.datetime.Date.{Date}
use Rattle.toml_datetime.specs.declared.datetime.Time.{Time}
use Rattle.toml_datetime.specs.declared.datetime.Offset.{Offset}
use Rattle.toml_datetime.specs.declared.datetime.Offset.TheVariants.{Z, Custom}
use Rattle.toml_datetime.specs.declared.datetime.Datetime.{Datetime}
use Rattle.book_keys.specs.Lifetimes.{greatest_time}
use Rattle.book_scope_texts.specs.Instants.{instant_of, key_time_text}

-- the digit of the tens of a number below 100 (own)
abbrev pub tens_digit : ℕ → ℕ
tens_digit n = 48 + n / 10

-- the digit of its ones (own)
abbrev pub ones_digit : ℕ → ℕ
ones_digit n = 48 + n % 10

-- a date and a time of the day in 14 digits, and Z (own)
abbrev pub moment_digits : Date → Time → List ℕ
moment_digits d t =
    tens_digit (d.year / 100) ∷ ones_digit (d.year / 100)
    ∷ tens_digit (d.year % 100) ∷ ones_digit (d.year % 100)
    ∷ tens_digit d.month ∷ ones_digit d.month
    ∷ tens_digit d.day ∷ ones_digit d.day
    ∷ tens_digit t.hour ∷ ones_digit t.hour
    ∷ tens_digit t.minute ∷ ones_digit t.minute
    ∷ tens_digit (unwrap_or t.second 0) ∷ ones_digit (unwrap_or t.second 0) ∷ 90 ∷ []

-- the time that is so much later, where a key file can write it (own)
abbrev pub later_by : (time seconds : ℕ) → Option ℕ
later_by time seconds =
    if nat_le time greatest_time && nat_le (time + seconds) greatest_time
    then Some (time + seconds)
    else None

-- the time that is so much earlier, where a key file can write it (own)
abbrev pub earlier_by : (time seconds : ℕ) → Option ℕ
earlier_by time seconds = if nat_le seconds time then Some (time - seconds) else None

-- the time in UTC that a clock which is so many minutes ahead of it shows (RFC 3339, section 4.2)
abbrev pub behind_clock : (minutes : ℤ) → (time : ℕ) → Option ℕ
behind_clock minutes time =
    if int_lt minutes (pos 0) then later_by time (60 * unsigned_abs minutes)
    else earlier_by time (60 * unsigned_abs minutes)

-- the time in UTC that a clock of an offset shows (RFC 3339, section 4.2)
abbrev pub in_utc : Offset → (time : ℕ) → Option ℕ
in_utc Z time = Some time
in_utc (Custom minutes) time = behind_clock minutes time

-- the time for which a date, a time of the day and an offset stand, where all are there (own)
abbrev pub parts_moment : Option Date → Option Time → Option Offset → Option ℕ
parts_moment (Some d) (Some t) (Some o) =
    option_and_then (in_utc o) (instant_of (moment_digits d t))
parts_moment _ _ _ = None

-- a date and a time of the day of no zone (own)
abbrev pub is_zoneless : Datetime → Bool
is_zoneless dt = is_some dt.date && (is_some dt.time && not (is_some dt.offset))

-- what is said of a time: how a key file writes it, or that its zone isn't known (own)
abbrev pub moment_said : Option ℕ → (zoneless : Bool) → List ℕ
moment_said (Some time) zoneless =
    codes ", which is written \"" ++ (key_time_text time ++ codes "\"")
moment_said None true = codes ", of no zone: a time is in UTC"
moment_said None false = []

-- what is said of a date or time of TOML (own)
unfoldable pub moment_hint : Datetime → List ℕ
moment_hint dt = moment_said (parts_moment dt.date dt.time dt.offset) (is_zoneless dt)
