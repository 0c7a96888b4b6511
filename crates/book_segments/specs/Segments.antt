-- Datagrams as values: the fields of the IP header and of TCP, how they are spelled and read, and
-- their checksums. `spell` and `reading` are the file's tops.
use Rattle.std.specs.Prelude.{ℕ, ◌+◌, ◌-◌, ◌*◌, ◌/◌, ◌%◌, ◌==◌, nat_lt, if◌then◌else◌}
use Rattle.std.specs.Prelude.{Bool, true, false, not, ◌||◌, Option, Some, None}
use Rattle.std.specs.Prelude.{List, [], ◌∷◌, ◌++◌, length, take, drop, slice_index, slice_range}
use Rattle.book_base.specs.declared.address.Address.{Address}
use Rattle.book_base.specs.declared.address.Address.TheVariants.{V4, V6}
use Rattle.book_base.specs.declared.address.Socket.{Socket}
use Rattle.book_segments.specs.Bytes.{put2, put4}
use Rattle.book_segments.specs.Sockets.{octets}
use Rattle.book_segments.specs.declared.fault.DatagramFault.{DatagramFault}
use Rattle.book_segments.specs.declared.fault.DatagramFault.TheVariants.{Truncated, Version}
use Rattle.book_segments.specs.declared.fault.DatagramFault.TheVariants.{HeaderLength}
use Rattle.book_segments.specs.declared.fault.DatagramFault.TheVariants.{HeaderChecksum, Fragment}
use Rattle.book_segments.specs.declared.fault.DatagramFault.TheVariants.{NotTcp, ExtensionHeader}
use Rattle.book_segments.specs.declared.fault.DatagramFault.TheVariants.{DataOffset, BadOption}
use Rattle.book_segments.specs.Folded.{folded}
use Rattle.book_segments.specs.Options.{Options, Listed, Faulty, options_of}
use Rattle.book_base.specs.declared.address.Pair.{Pair}

-- the fields of an IP header but its addresses and lengths (RFC 791, section 3.1; RFC 8200, section
-- 3)
pub data IpHeader : Type 0 where
  Ipv4 : (service identification flags ttl checksum : ℕ) (options : List ℕ) → IpHeader
  Ipv6 : (class_flow : ℕ) (hops : ℕ) → IpHeader

-- a datagram with a TCP segment, whose area is the bytes of the TCP options (RFC 9293, section 3.1)
pub record Segment : Type 0 where
  pub ip : IpHeader
  pub source : Socket
  pub destination : Socket
  pub sequence : ℕ
  pub acknowledgement : ℕ
  pub reserved : ℕ
  pub flags : ℕ
  pub window : ℕ
  pub checksum : ℕ
  pub urgent : ℕ
  pub area : List ℕ
  pub payload : List ℕ

-- the sum of 16-bit words, an odd length filled with a zero byte (RFC 1071, section 1)
abbrev pub words_sum : List ℕ → ℕ
words_sum [] = 0
words_sum (x ∷ []) = x * 256
words_sum (x ∷ y ∷ rest) = x * 256 + y + words_sum rest

-- the one's complement sum of bytes is ffff (RFC 1071, section 1)
unfoldable pub sums : List ℕ → Bool
sums bytes = folded (words_sum bytes) == 0xffff

-- the complement of the one's complement sum of bytes (RFC 1071, section 1)
unfoldable pub complement_of : List ℕ → ℕ
complement_of bytes = 0xffff - folded (words_sum bytes)

-- the length of a TCP header without options (RFC 9293, section 3.1)
abbrev pub tcp_header_length : ℕ
tcp_header_length = 20

-- the length of an IPv4 header without options (RFC 791, section 3.1)
abbrev pub ipv4_header_length : ℕ
ipv4_header_length = 20

-- the length of an IPv6 header (RFC 8200, section 3)
abbrev pub ipv6_header_length : ℕ
ipv6_header_length = 40

-- the length of the TCP header with its options and the payload (RFC 9293, section 3.1)
abbrev pub tcp_length : Segment → ℕ
tcp_length d = tcp_header_length + length d.area + length d.payload

-- the pseudo-header of a datagram with this IP header, and then the rest (RFC 9293, section 3.1;
-- RFC 8200, section 8.1)
abbrev pub pseudo_of : IpHeader → Segment → List ℕ → List ℕ
pseudo_of (Ipv4 service identification flags ttl checksum options) d rest =
    octets d.source.address ++ (octets d.destination.address
    ++ (0 ∷ 6 ∷ put2 (tcp_length d) rest))
pseudo_of (Ipv6 class_flow hops) d rest =
    octets d.source.address ++ (octets d.destination.address
    ++ put4 (tcp_length d) (0 ∷ 0 ∷ 0 ∷ 6 ∷ rest))

-- the pseudo-header of a datagram, and then the rest (RFC 9293, section 3.1; RFC 8200, section 8.1)
unfoldable pub pseudo : Segment → List ℕ → List ℕ
pseudo d rest = pseudo_of d.ip d rest

-- the 20 bytes of the TCP header with this checksum, and then the rest (RFC 9293, section 3.1)
unfoldable pub header : Segment → ℕ → List ℕ → List ℕ
header d checksum rest =
    put2 d.source.port (put2 d.destination.port (put4 d.sequence (put4 d.acknowledgement
    ((0x50 + 4 * length d.area + d.reserved) ∷ d.flags
    ∷ put2 d.window (put2 checksum (put2 d.urgent rest))))))

-- the TCP bytes: the header with this checksum, the options and the payload (RFC 9293, section 3.1)
unfoldable pub tcp_bytes : Segment → ℕ → List ℕ
tcp_bytes d checksum = header d checksum (d.area ++ d.payload)

-- the TCP checksum that a sender writes (RFC 9293, section 3.1)
unfoldable pub checksum_of : Segment → ℕ
checksum_of d = complement_of (pseudo d (tcp_bytes d 0))

-- the TCP checksum of a datagram is right (RFC 9293, section 3.1)
unfoldable pub good : Segment → Bool
good d = sums (pseudo d (tcp_bytes d d.checksum))

-- the IP header, and then the TCP bytes (RFC 791, section 3.1; RFC 8200, section 3)
abbrev pub spell_as : IpHeader → Segment → List ℕ → List ℕ
spell_as (Ipv4 service identification flags ttl checksum options) d tcp =
    (0x45 + length options / 4) ∷ service
    ∷ put2 (ipv4_header_length + length options + tcp_length d) (put2 identification
    ((0x40 * flags) ∷ 0 ∷ ttl ∷ 6 ∷ put2 checksum (octets d.source.address
    ++ (octets d.destination.address ++ (options ++ tcp)))))
spell_as (Ipv6 class_flow hops) d tcp =
    put4 (0x60000000 + class_flow) (put2 (tcp_length d) (6 ∷ hops ∷ octets d.source.address
    ++ (octets d.destination.address ++ tcp)))

-- the bytes of a datagram (RFC 791, section 3.1; RFC 8200, section 3; RFC 9293, section 3.1)
unfoldable pub spell : Segment → List ℕ
spell d = spell_as d.ip d (tcp_bytes d d.checksum)

-- the flag FIN: the sender has no more bytes (RFC 9293, section 3.1)
abbrev pub FIN : ℕ
FIN = 0x01

-- the flag SYN: the sequence numbers begin (RFC 9293, section 3.1)
abbrev pub SYN : ℕ
SYN = 0x02

-- the flag RST: the connection is reset (RFC 9293, section 3.1)
abbrev pub RST : ℕ
RST = 0x04

-- the flag PSH: the bytes are handed on at once (RFC 9293, section 3.1)
abbrev pub PSH : ℕ
PSH = 0x08

-- the flag ACK: the acknowledgement field says something (RFC 9293, section 3.1)
abbrev pub ACK : ℕ
ACK = 0x10

-- this flag of a segment is set (RFC 9293, section 3.1)
abbrev pub has : ℕ → Segment → Bool
has flag d = (d.flags / flag) % 2 == 1

-- the number 1 for true, 0 for false (own)
abbrev pub bit_of : Bool → ℕ
bit_of true = 1
bit_of false = 0

-- what the segment takes of the sequence space: the payload's length plus 1 for SYN plus 1 for FIN
-- (RFC 9293, section 3.4)
abbrev pub segment_length : Segment → ℕ
segment_length d = length d.payload + bit_of (has SYN d) + bit_of (has FIN d)

-- what reading answers: a datagram, or why there is none (own)
pub data Reading : Type 0 where
  Bad : (fault : DatagramFault) → Reading
  Read : (segment : Segment) → Reading

-- the number of two bytes in network order from a place on (RFC 791, appendix B)
abbrev pub two_octets_at : List ℕ → ℕ → ℕ
two_octets_at b i = slice_index b i * 0x100 + slice_index b (i + 1)

-- the number of four bytes in network order from a place on (RFC 791, appendix B)
abbrev pub four_octets_at : List ℕ → ℕ → ℕ
four_octets_at b i = two_octets_at b i * 0x10000 + two_octets_at b (i + 2)

-- a test with its fault, and in front of the tests behind it (own)
abbrev pub refuse : Bool → DatagramFault → Option DatagramFault → Option DatagramFault
refuse test fault others = if test then Some fault else others

-- the ninth test of a datagram: its option area has no fault (RFC 9293, section 3.2)
abbrev pub option_fault : Options → Option DatagramFault
option_fault (Listed list) = None
option_fault (Faulty fault) = Some (BadOption fault)

-- the eighth and the ninth test of a datagram, over its TCP bytes (RFC 9293, section 3.1)
abbrev pub tcp_fault : List ℕ → Option DatagramFault
tcp_fault t =
    let size = 4 * (slice_index t 12 / 16) in
    refuse (nat_lt (length t) tcp_header_length) DataOffset
    (refuse (nat_lt size tcp_header_length) DataOffset
    (refuse (nat_lt (length t) size) DataOffset
    (option_fault (options_of (slice_range t tcp_header_length size)))))

-- the tests of a datagram over IPv4, in order (RFC 791, section 3.1)
abbrev pub v4_fault : List ℕ → Option DatagramFault
v4_fault b =
    let size = 4 * (slice_index b 0 % 16) in
    let total = two_octets_at b 2 in
    refuse (nat_lt (length b) ipv4_header_length) Truncated
    (refuse (nat_lt (length b) total) Truncated
    (refuse (nat_lt size ipv4_header_length) HeaderLength
    (refuse (nat_lt total size) HeaderLength
    (refuse (not (sums (take size b))) HeaderChecksum
    (refuse (not (two_octets_at b 6 % 0x4000 == 0)) Fragment
    (refuse (not (slice_index b 9 == 6)) NotTcp
    (tcp_fault (slice_range b size total))))))))

-- this next header is of an extension header: hop-by-hop options, routing, fragment, destination
-- options (RFC 8200, section 4)
abbrev pub is_extension : ℕ → Bool
is_extension next = (next == 0) || (next == 43) || (next == 44) || (next == 60)

-- the tests of a datagram over IPv6, in order (RFC 8200, section 3)
abbrev pub v6_fault : List ℕ → Option DatagramFault
v6_fault b =
    let size = two_octets_at b 4 in
    let next = slice_index b 6 in
    refuse (nat_lt (length b) ipv6_header_length) Truncated
    (refuse (nat_lt (length b) (ipv6_header_length + size)) Truncated
    (refuse (not ((next == 6) || is_extension next)) NotTcp
    (refuse (is_extension next) ExtensionHeader
    (tcp_fault (slice_range b ipv6_header_length (ipv6_header_length + size))))))

-- the first of the nine tests of a datagram that holds (RFC 791, section 3.1; RFC 8200, section 3)
unfoldable pub first_fault : List ℕ → Option DatagramFault
first_fault [] = Some Truncated
first_fault (first ∷ rest) =
    refuse (not ((first / 16 == 4) || (first / 16 == 6))) Version
    (if first / 16 == 4 then v4_fault (first ∷ rest) else v6_fault (first ∷ rest))

-- a datagram of this IP header, these addresses and the fields of its TCP bytes (RFC 9293, section
-- 3.1)
abbrev pub tcp_fields : IpHeader → (source destination : Address) → List ℕ → Segment
tcp_fields ip source destination t =
    let size = 4 * (slice_index t 12 / 16) in
    record {
      ip = ip;
      source = record { address = source; port = two_octets_at t 0 };
      destination = record { address = destination; port = two_octets_at t 2 };
      sequence = four_octets_at t 4;
      acknowledgement = four_octets_at t 8;
      reserved = slice_index t 12 % 16;
      flags = slice_index t 13;
      window = two_octets_at t 14;
      checksum = two_octets_at t 16;
      urgent = two_octets_at t 18;
      area = slice_range t tcp_header_length size;
      payload = drop size t;
    }

-- the fields of a datagram over IPv4 (RFC 791, section 3.1)
abbrev pub v4_fields : List ℕ → Segment
v4_fields b =
    let size = 4 * (slice_index b 0 % 16) in
    tcp_fields (Ipv4 (slice_index b 1) (two_octets_at b 4) (slice_index b 6 / 0x40)
    (slice_index b 8) (two_octets_at b 10)
    (slice_range b ipv4_header_length size))
    (V4 (slice_range b 12 16)) (V4 (slice_range b 16 20)) (slice_range b size (two_octets_at b 2))

-- the fields of a datagram over IPv6 (RFC 8200, section 3)
abbrev pub v6_fields : List ℕ → Segment
v6_fields b =
    tcp_fields (Ipv6 (four_octets_at b 0 % 0x10000000) (slice_index b 7))
    (V6 (slice_range b 8 24)) (V6 (slice_range b 24 40))
    (slice_range b ipv6_header_length (ipv6_header_length + two_octets_at b 4))

-- the fields of a datagram, each at its place (RFC 791, section 3.1; RFC 8200, section 3)
unfoldable pub fields : List ℕ → Segment
fields b = if slice_index b 0 / 16 == 4 then v4_fields b else v6_fields b

-- the fault of a datagram, or the segment where there is none (own)
abbrev pub read_unless : Option DatagramFault → Segment → Reading
read_unless None d = Read d
read_unless (Some fault) d = Bad fault

-- the datagram that a prefix of the bytes spells, or the first of the nine faults (RFC 791, section
-- 3.1; RFC 8200, section 3; RFC 9293, section 3.1)
unfoldable pub reading : List ℕ → Reading
reading b = read_unless (first_fault b) (fields b)

-- the pair of a segment as its destination sees it (own)
abbrev pub pair_reached : Segment → Pair
pair_reached d = record { local = d.destination; remote = d.source }
