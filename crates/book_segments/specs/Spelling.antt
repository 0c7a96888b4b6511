-- Which bytes spell which datagram (RFC 791, section 3.1; RFC 8200, section 3; RFC 9293, section
-- 3.1), and datagrams whose checksum is set right: `Spells` and `with_right_checksum` are the
-- file's tops.
use Rattle.std.specs.Prelude.{◌≡◌, ℕ, ◌+◌, ◌-◌, ◌/◌, ◌%◌, ◌==◌, ◌<◌, ◌≤◌, true, IsTrue}
use Rattle.std.specs.Prelude.{List, [], ◌∷◌, ◌++◌, length, take, drop, slice_index, if◌then◌else◌}
use Rattle.book_base.specs.declared.address.Address.{Address}
use Rattle.book_base.specs.declared.address.Address.TheVariants.{V4, V6}
use Rattle.book_segments.specs.Bytes.{put2, put4, ring}
use Rattle.book_segments.specs.Options.{AreListed, options_of}
use Rattle.book_segments.specs.Segments.{IpHeader, Ipv4, Ipv6, Segment, sums, complement_of}
use Rattle.book_segments.specs.Segments.{checksum_of, good, spell_as, spell, tcp_length}
use Rattle.book_segments.specs.Segments.{ipv4_header_length, ipv6_header_length}

-- all numbers of a list are bytes: below 256 (own)
abbrev pub AreBytes : List ℕ → Type 0
AreBytes xs = (i : ℕ) → slice_index xs i < 0x100

-- the bytes of an option area: whole 32-bit words, ten at most (RFC 791, section 3.1; RFC 9293,
-- section 3.1)
pub record IsArea (xs : List ℕ) : Type 0 where
  pub words : length xs % 4 ≡ 0
  pub most : length xs ≤ 40
  pub bytes : AreBytes xs

-- an address of IPv4 (RFC 791, section 3.1)
abbrev pub IsV4 : Address → Type 0
IsV4 (V4 bytes) = (length bytes ≡ 4) × AreBytes bytes
IsV4 (V6 bytes) = ⊥

-- an address of IPv6 (RFC 8200, section 3)
abbrev pub IsV6 : Address → Type 0
IsV6 (V4 bytes) = ⊥
IsV6 (V6 bytes) = (length bytes ≡ 16) × AreBytes bytes

-- the fields of an IPv4 header fit their places: no fragment, and its words sum to ffff (RFC 791,
-- section 3.1)
pub record FitsV4 (d : Segment) (service identification flags ttl checksum : ℕ)
    (options : List ℕ) : Type 0 where
  pub service_fits : service < 0x100
  pub identification_fits : identification < 0x10000
  pub flags_fit : flags < 4
  pub ttl_fits : ttl < 0x100
  pub checksum_fits : checksum < 0x10000
  pub options_fit : IsArea options
  pub source : IsV4 d.source.address
  pub destination : IsV4 d.destination.address
  pub total : ipv4_header_length + length options + tcp_length d < 0x10000
  pub right : sums (spell_as d.ip d []) ≡ true

-- the fields of an IPv6 header fit their places (RFC 8200, section 3)
pub record FitsV6 (d : Segment) (class_flow hops : ℕ) : Type 0 where
  pub class_flow_fits : class_flow < 0x10000000
  pub hops_fit : hops < 0x100
  pub source : IsV6 d.source.address
  pub destination : IsV6 d.destination.address
  pub total : tcp_length d < 0x10000

-- the fields of an IP header fit their places (RFC 791, section 3.1; RFC 8200, section 3)
abbrev pub FitsIp : IpHeader → Segment → Type 0
FitsIp (Ipv4 service identification flags ttl checksum options) d =
    FitsV4 d service identification flags ttl checksum options
FitsIp (Ipv6 class_flow hops) d = FitsV6 d class_flow hops

-- each field of a datagram fits its place, and its option area has no fault (RFC 9293, section 3.1)
pub record Fits (d : Segment) : Type 0 where
  pub ip : FitsIp d.ip d
  pub source_port : d.source.port < 0x10000
  pub destination_port : d.destination.port < 0x10000
  pub sequence : d.sequence < ring
  pub acknowledgement : d.acknowledgement < ring
  pub reserved : d.reserved < 16
  pub flags : d.flags < 0x100
  pub window : d.window < 0x10000
  pub checksum : d.checksum < 0x10000
  pub urgent : d.urgent < 0x10000
  pub area : IsArea d.area
  pub listed : AreListed (options_of d.area)
  pub payload : AreBytes d.payload

-- the bytes are a datagram's: IP header, TCP header, options and payload (RFC 791, section 3.1; RFC
-- 8200, section 3; RFC 9293, section 3.1)
pub record Spells (d : Segment) (bytes : List ℕ) : Type 0 where
  pub fits : Fits d
  pub spelled : bytes ≡ spell d

-- the TCP checksum is right (RFC 9293, section 3.1)
abbrev pub Good : Segment → Type 0
Good d = IsTrue (good d)

-- a datagram with this TCP checksum (RFC 9293, section 3.1)
abbrev pub with_sum : Segment → ℕ → Segment
with_sum d checksum = record d { checksum = checksum }

-- a datagram with its TCP checksum set right (RFC 9293, section 3.1)
abbrev pub finished : Segment → Segment
finished d = with_sum d (checksum_of d)

-- TCP bytes with this checksum in their header (RFC 9293, section 3.1)
abbrev pub with_checksum : List ℕ → ℕ → List ℕ
with_checksum t checksum = take 16 t ++ put2 checksum (drop 18 t)

-- the length of the IP header of a datagram's bytes, where it has no options (RFC 791, section 3.1;
-- RFC 8200, section 3)
abbrev pub ip_length : List ℕ → ℕ
ip_length b = if slice_index b 0 / 16 == 4 then ipv4_header_length else ipv6_header_length

-- both addresses in a datagram's bytes (RFC 791, section 3.1; RFC 8200, section 3)
abbrev pub addresses_in : List ℕ → List ℕ
addresses_in b =
    if slice_index b 0 / 16 == 4 then take 8 (drop 12 b) else take 32 (drop 8 b)

-- the pseudo-header of a datagram's bytes whose IP header has no options, and then the rest (RFC
-- 9293, section 3.1; RFC 8200, section 8.1)
abbrev pub pseudo_in : (datagram rest : List ℕ) → List ℕ
pseudo_in b rest =
    if slice_index b 0 / 16 == 4
    then addresses_in b ++ (0 ∷ 6 ∷ put2 (length b - ipv4_header_length) rest)
    else addresses_in b ++ put4 (length b - ipv6_header_length) (0 ∷ 0 ∷ 0 ∷ 6 ∷ rest)

-- a datagram's bytes with the TCP checksum set right, whatever else they hold (RFC 9293, section
-- 3.1)
unfoldable pub with_right_checksum : List ℕ → List ℕ
with_right_checksum b =
    let t = drop (ip_length b) b in
    take (ip_length b) b ++ with_checksum t (complement_of (pseudo_in b (with_checksum t 0)))
