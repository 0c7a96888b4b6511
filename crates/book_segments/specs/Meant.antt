-- The number that a sequence field means, and numbers compared around the ring of 2^32.
use Rattle.std.specs.Prelude.{◌≡◌, ℕ, ◌+◌, ◌-◌, ◌%◌, ◌^◌, ◌<◌, nat_lt, nat_le, if◌then◌else◌}
use Rattle.std.specs.Prelude.{Option, Some, None, ℤ, pos, neg_ℤ}
use Rattle.std.specs.Prelude.{◌+ℤ◌, ◌-ℤ◌, ◌*ℤ◌, ◌<ℤ◌, ◌≤ℤ◌}
use Rattle.book_segments.specs.Bytes.{ring}

-- the integer with this remainder modulo 2^32 that lies from 2^31 below to below 2^31 above the
-- expected one, which is none where it is below 0 (RFC 5925, section 6.2)
unfoldable pub meant : (sequence expected : ℕ) → Option ℕ
meant seq expected =
    let ahead = (seq + ring - expected % ring) % ring in
    if nat_lt ahead (2 ^ 31) then Some (expected + ahead)
    else if nat_le (ring - ahead) expected then Some (expected - (ring - ahead)) else None

-- two integers have one remainder modulo 2^32 (RFC 9293, section 3.4)
abbrev pub IsCongruent : (one other : ℤ) → Type 0
IsCongruent m n = (k : ℤ) × (m ≡ n +ℤ (k *ℤ pos ring))

-- a difference is from -2^31 to below 2^31 (RFC 5925, section 6.2)
abbrev pub IsWithinHalf : ℤ → Type 0
IsWithinHalf d = (neg_ℤ (pos (2 ^ 31)) ≤ℤ d) × (d <ℤ pos (2 ^ 31))

-- an integer that a sequence field may mean near an expected number (RFC 5925, section 6.2)
abbrev pub IsNearest : (sequence expected : ℕ) → ℤ → Type 0
IsNearest seq expected n = IsCongruent n (pos seq) × IsWithinHalf (n -ℤ pos expected)

-- what an answer says of the integer that is meant: it is this number, or is below 0 (own)
abbrev pub Tells : Option ℕ → ℤ → Type 0
Tells None n = n <ℤ pos 0
Tells (Some m) n = n ≡ pos m

-- how far a sequence number is ahead of another, at most half the ring (RFC 9293, section 3.4)
abbrev pub IsAhead : (one other : ℕ) → ℤ → Type 0
IsAhead a b d = IsCongruent (pos a -ℤ pos b) d × IsWithinHalf d

-- a sequence number is one of the `size` numbers from `start` on, around the ring (RFC 9293,
-- section 3.4)
abbrev pub IsInWindow : (sequence start size : ℕ) → Type 0
IsInWindow seq start size = (d : ℕ) × (d < size) × (seq ≡ (start + d) % ring)
