-- Sums of 16-bit words folded to 16 bits (RFC 1071, section 1): `folded` is the file's top.
use Rattle.std.specs.Prelude.{ℕ, zero, suc, ◌+◌, ◌/◌, ◌%◌}

-- a sum with this carry over 16 bits: where there is one, it is added back in, and how the sum is
-- folded then is handed in (RFC 1071, section 1)
abbrev pub by_carry : (carry sum : ℕ) → (ℕ → ℕ) → ℕ
by_carry zero sum others = sum
by_carry (suc carry) sum others = others (sum % 0x10000 + suc carry)

-- the carries of a sum added back in until it fits 16 bits, of which the first argument bounds how
-- often: each time takes a multiple of ffff off (RFC 1071, section 1)
abbrev pub carried_in : (most sum : ℕ) → ℕ
carried_in zero sum = sum
carried_in (suc k) sum = by_carry (sum / 0x10000) sum (carried_in k)

-- the one's complement sum of 16-bit words, from their plain sum (RFC 1071, section 1)
abbrev pub folded : ℕ → ℕ
folded sum = carried_in (sum / 0xffff) sum
