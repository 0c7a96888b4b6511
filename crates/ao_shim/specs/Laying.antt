-- A datagram with other options, before its TCP checksum is set.
use Rattle.std.specs.Prelude.{List, ℕ, ◌==◌, if◌then◌else◌}
use Rattle.book_segments.specs.Segments.{Segment}
use Rattle.book_shim.specs.Relaying.{with_area, summed}

-- a datagram with these options: its lengths and, of IPv4, the checksum of its IP header are made
-- anew, and all else stays, its TCP checksum too (RFC 791, section 3.1)
abbrev pub laid : Segment → List ℕ → Segment
laid d area = record (with_area d area) { ip = summed d.ip (with_area d area) }

-- a checksum as it is sent (own)
abbrev pub sum_sent : ℕ → ℕ
sum_sent c = if c == 0 then 65535 else c
