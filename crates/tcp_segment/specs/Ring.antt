-- Numbers around the ring of 2^32.
use Rattle.std.specs.Prelude.{ℕ, ◌+◌, ◌-◌, ◌%◌}
use Rattle.book_segments.specs.Bytes.{ring}

-- the first number from `at` on with this low half (RFC 9293, section 3.4)
abbrev pub next_from : ℕ → ℕ → ℕ
next_from low at = at + (low + ring - at % ring) % ring
