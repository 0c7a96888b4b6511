-- Numbers as decimals (own).
use Rattle.std.specs.Prelude.{ℕ, ◌^◌, ◌&&◌, nat_lt, nat_le, List, length, Option, Some, None}
use Rattle.std.specs.Prelude.{if◌then◌else◌}
use Rattle.std.specs.Str.{all_ascii_digits}
use Rattle.std.specs.Str.Parse.{digits_value}

-- the numbers of a text are below this (own)
abbrev pub decimal_limit : ℕ
decimal_limit = 2 ^ 64

-- 1 to 20 decimal digits whose value is below the limit (own)
unfoldable pub decimal_of : List ℕ → Option ℕ
decimal_of word =
    if nat_le 1 (length word) && nat_le (length word) 20 && all_ascii_digits word
    && nat_lt (digits_value 10 word) decimal_limit
    then Some (digits_value 10 word) else None
