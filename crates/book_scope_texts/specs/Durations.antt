-- Lengths of time as operators write them. Its top is `duration_of`.
use Rattle.std.specs.Prelude.{ℕ, ◌-◌, ◌*◌, ◌==◌, nat_lt, if◌then◌else◌, List, length, take}
use Rattle.std.specs.Prelude.{slice_index, Option, Some, None}
use Rattle.book_base.specs.Decimals.{decimal_of}

-- the seconds of a second `s`, a minute `m`, an hour `h` or a day `d` (own)
abbrev pub unit_of : ℕ → Option ℕ
unit_of letter =
    if letter == 115 then Some 1
    else if letter == 109 then Some 60
    else if letter == 104 then Some 3600
    else if letter == 100 then Some 86400
    else None

-- so many units, where they are below 2^64 seconds (own)
abbrev pub unit_seconds : (unit : ℕ) → Option ℕ → Option ℕ
unit_seconds unit None = None
unit_seconds unit (Some n) =
    if nat_lt (n * unit) 18446744073709551616 then Some (n * unit) else None

-- the seconds that a text writes whose last byte is the letter of a unit, or isn't (own)
abbrev pub duration_by : Option ℕ → List ℕ → Option ℕ
duration_by None text = decimal_of text
duration_by (Some unit) text = unit_seconds unit (decimal_of (take (length text - 1) text))

-- the seconds, below 2^64, that a decimal with the letter of a unit behind it writes, or a decimal
-- alone (own)
unfoldable pub duration_of : List ℕ → Option ℕ
duration_of text = duration_by (unit_of (slice_index text (length text - 1))) text
