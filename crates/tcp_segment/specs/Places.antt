-- Where the parts of a datagram begin in its bytes.
use Rattle.std.specs.Prelude.{◌≡◌, ℕ, ◌+◌, ◌*◌, ◌/◌, ◌%◌, ◌==◌, ◌≤◌, List, ◌++◌, length, drop, slice_index, slice_range, if◌then◌else◌}
use Rattle.book_segments.specs.Segments.{two_octets_at, fields, spell, tcp_bytes, tcp_length}
use Rattle.book_segments.specs.Spelling.{Fits}
use Rattle.tcp_segment.specs.declared.faults.Places.{Places}

-- the length of the IP header, as its fields say (RFC 791, section 3.1; RFC 8200, section 3)
abbrev pub header_end : List ℕ → ℕ
header_end b = if slice_index b 0 / 16 == 4 then 4 * (slice_index b 0 % 16) else 40

-- the length of the datagram, as its fields say (RFC 791, section 3.1; RFC 8200, section 3)
abbrev pub whole_end : List ℕ → ℕ
whole_end b = if slice_index b 0 / 16 == 4 then two_octets_at b 2 else 40 + two_octets_at b 4

-- the places that these header fields say
pub record PlacedBy (b : List ℕ) (header_length whole_length : ℕ) (p : Places) : Type 0 where
  pub header : p.header ≡ header_length
  pub end : p.end ≡ whole_length
  pub payload : p.payload ≡ p.header + 4 * (slice_index (slice_range b p.header p.end) 12 / 16)

-- the places that the header fields say
abbrev pub Placed : List ℕ → Places → Type 0
Placed b p = PlacedBy b (header_end b) (whole_end b) p

-- bytes of which a prefix spells a datagram, with the places of its parts
pub record IsRead (b : List ℕ) (p : Places) : Type 0 where
  pub fits : Fits (fields b)
  pub spelled : b ≡ spell (fields b) ++ drop p.end b
  pub tcp : slice_range b p.header p.end ≡ tcp_bytes (fields b) (fields b).checksum
  pub end : p.end ≡ p.header + tcp_length (fields b)
  pub payload : p.payload ≡ p.header + (20 + length (fields b).area)
  pub header : 20 ≤ p.header
  pub room : p.end ≤ length b
