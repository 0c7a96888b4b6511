-- A copy of a datagram with one byte altered. Its top is `altered`.
use Rattle.std.specs.Prelude.{ℕ, ◌+◌, nat_lt, Bool, List, length, slice_index, slice_set, bit_xor}
use Rattle.book_segments.specs.Spelling.{ip_length, with_right_checksum}
use Rattle.book_link.specs.declared.event.Fixing.{Fixing}
use Rattle.book_link.specs.declared.event.Fixing.TheVariants.{Keep, Fix}

-- the place in the datagram's bytes of a place that is counted from the TCP header (own)
abbrev pub place_in : List ℕ → ℕ → ℕ
place_in bytes place = ip_length bytes + place

-- the place, counted from the TCP header, is in the datagram (own)
abbrev pub has_place : List ℕ → ℕ → Bool
has_place bytes place = nat_lt (place_in bytes place) (length bytes)

-- the bytes with the one at a place xored with a mask (own)
abbrev pub masked : List ℕ → (place mask : ℕ) → List ℕ
masked bytes i mask = slice_set bytes i (bit_xor (slice_index bytes i) mask)

-- what is altered in a copy: the byte at a place, counted from the TCP header, is xored with a
-- mask; then the TCP checksum is kept or set right (own)
pub record Alteration : Type 0 where
  pub place : ℕ
  pub mask : ℕ
  pub fixing : Fixing

-- a datagram whose TCP checksum is kept or set right (own)
abbrev pub with_fixing : Fixing → List ℕ → List ℕ
with_fixing Keep bytes = bytes
with_fixing Fix bytes = with_right_checksum bytes

-- a copy that is altered so (own)
unfoldable pub altered : List ℕ → Alteration → List ℕ
altered bytes change =
    with_fixing change.fixing (masked bytes (place_in bytes change.place) change.mask)
