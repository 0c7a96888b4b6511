-- Datagrams that a capture has only the beginning of (own). Its top is `cut_segment`.
use Rattle.std.specs.Prelude.{ℕ, ◌+◌, ◌-◌, ◌/◌, ◌==◌, nat_le, ◌&&◌, Bool, true, false, List, ◌++◌}
use Rattle.std.specs.Prelude.{length, replicate, slice_index, Option, Some, None, if◌then◌else◌}
use Rattle.book_segments.specs.declared.fault.DatagramFault.TheVariants.{Truncated}
use Rattle.book_segments.specs.Segments.{Segment, Reading, Read, Bad, reading, two_octets_at}
use Rattle.book_segments.specs.Segments.{ipv4_header_length, ipv6_header_length}
use Rattle.book_sessions.specs.AsSent.{mended}

-- how many bytes a datagram has, as its IP header says (RFC 791, section 3.1; RFC 8200, section 3)
abbrev pub length_told : List ℕ → ℕ
length_told b = if slice_index b 0 / 16 == 4
    then two_octets_at b 2 else ipv6_header_length + two_octets_at b 4

-- how many bytes of a datagram are missing at its end (own)
abbrev pub missing : List ℕ → ℕ
missing b = length_told b - length b

-- a datagram with its missing bytes as 0 (own)
abbrev pub filled : List ℕ → List ℕ
filled b = b ++ replicate {A = ℕ} (missing b) 0

-- bytes are read as the beginning of a datagram (own)
abbrev pub is_truncated : Reading → Bool
is_truncated (Bad Truncated) = true
is_truncated _ = false

-- the segment that is read once so many bytes were filled in, where they are all of its payload
-- (own)
abbrev pub filled_segment : (missing : ℕ) → Reading → Option Segment
filled_segment n (Bad fault) = None
filled_segment n (Read d) = if nat_le n (length d.payload) then Some d else None

-- bytes are read as the beginning of a datagram, with its first 20 bytes (RFC 791, section 3.1)
abbrev pub is_beginning : List ℕ → Bool
is_beginning b = is_truncated (reading b) && nat_le ipv4_header_length (length b)

-- the segment that was cut off within its payload, so that its IP header, its TCP header and its
-- options are there (own)
unfoldable pub cut_segment : List ℕ → Option Segment
cut_segment b = if is_beginning b
    then filled_segment (missing b) (reading (mended (filled b))) else None
