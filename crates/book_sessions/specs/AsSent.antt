-- Datagrams that a capture has otherwise than the wire: without the header checksum that a card
-- sets later; and those that are told as none of TCP (own). Its tops: `mended`, `told_fault`.
use Rattle.std.specs.Prelude.{ℕ, ◌*◌, ◌%◌, ◌==◌, nat_le, nat_lt, ◌&&◌, ◌||◌, Bool, true, false, not}
use Rattle.std.specs.Prelude.{List, ◌++◌, take, drop, length, slice_index}
use Rattle.std.specs.Prelude.{if◌then◌else◌}
use Rattle.book_segments.specs.declared.fault.DatagramFault.{DatagramFault}
use Rattle.book_segments.specs.declared.fault.DatagramFault.TheVariants.{HeaderChecksum, NotTcp}
use Rattle.book_segments.specs.declared.fault.DatagramFault.TheVariants.{ExtensionHeader}
use Rattle.book_segments.specs.Bytes.{put2}
use Rattle.book_segments.specs.Segments.{Reading, Read, Bad, reading, two_octets_at}
use Rattle.book_segments.specs.Segments.{complement_of, ipv4_header_length}
use Rattle.book_segments.specs.Segments.{ipv6_header_length, is_extension}

-- what is read has a wrong header checksum (RFC 791, section 3.1)
abbrev pub has_wrong_header : Reading → Bool
has_wrong_header (Bad HeaderChecksum) = true
has_wrong_header _ = false

-- a header checksum isn't set: there is a header, its checksum is 0, and that isn't the right one
-- (RFC 791, section 3.1, and own)
unfoldable pub lacks_checksum : List ℕ → Bool
lacks_checksum b = nat_le ipv4_header_length (length b)
    && ((two_octets_at b 10 == 0) && has_wrong_header (reading b))

-- the bytes of a datagram over IPv4 with this header checksum (RFC 791, section 3.1)
abbrev pub with_header_checksum : ℕ → List ℕ → List ℕ
with_header_checksum n b = take 10 b ++ put2 n (drop 12 b)

-- the right header checksum of a datagram over IPv4 that has none (RFC 791, section 3.1)
abbrev pub header_checksum_of : List ℕ → ℕ
header_checksum_of b = complement_of (take (4 * (slice_index b 0 % 16)) b)

-- the bytes of a datagram, with the right header checksum where it isn't set (own)
unfoldable pub mended : List ℕ → List ℕ
mended b = if lacks_checksum b then with_header_checksum (header_checksum_of b) b else b

-- what is read is a segment (own)
abbrev pub is_segment : Reading → Bool
is_segment (Read d) = true
is_segment (Bad fault) = false

-- the bytes are a segment but for a header checksum that isn't set (own)
unfoldable pub is_unset_segment : List ℕ → Bool
is_unset_segment b = lacks_checksum b && is_segment (reading (mended b))

-- this header says its length, and what comes next: hop-by-hop options, routing, destination
-- options (RFC 8200, section 4)
abbrev pub has_next_header : ℕ → Bool
has_next_header n = (n == 0) || (n == 43) || (n == 60)

-- what comes next is TCP, or a header that may have TCP in it (RFC 8200, section 4, RFC 7045,
-- section 4)
abbrev pub may_lead_to_tcp : ℕ → Bool
may_lead_to_tcp n = (n == 6) || is_extension n || (n == 50) || (n == 51) || (n == 135)
    || (n == 139) || (n == 140) || (n == 253) || (n == 254)

-- the first header of a datagram over IPv6 is an extension header, and names another protocol than
-- TCP (RFC 8200, section 4)
unfoldable pub leads_elsewhere : List ℕ → Bool
leads_elsewhere b = (nat_lt ipv6_header_length (length b) && has_next_header (slice_index b 6))
    && (nat_le 8 (two_octets_at b 4) && not (may_lead_to_tcp (slice_index b 40)))

-- the fault that is told of bytes that have this one: an extension header in front of another
-- protocol is none of TCP (RFC 8200, section 4, and own)
abbrev pub told_fault : List ℕ → DatagramFault → DatagramFault
told_fault b ExtensionHeader = if leads_elsewhere b then NotTcp else ExtensionHeader
told_fault b fault = fault
