-- The datagram in a frame: behind the link's header, tags, a session's header and a stack of
-- labels.
use Rattle.std.specs.Prelude.{ℕ, ◌+◌, ◌-◌, ◌*◌, ◌/◌, ◌%◌, ◌==◌, nat_lt, Bool, true, false, List}
use Rattle.std.specs.Prelude.{◌∷◌, length, take, drop, slice_index, Option, Some, None, Result, Ok}
use Rattle.std.specs.Prelude.{Err, if◌then◌else◌}
use Rattle.book_base.specs.Results.{◌>>=◌}
use Rattle.book_pcap.specs.declared.pcap_head.ByteOrder.TheVariants.{Big, Little}
use Rattle.book_pcap.specs.Packets.{two_at, four_at}
use Rattle.book_captures.specs.declared.link_type.LinkType.{LinkType}
use Rattle.book_captures.specs.declared.link_type.LinkType.TheVariants.{Ethernet, RawIp, RawIpv4}
use Rattle.book_captures.specs.declared.link_type.LinkType.TheVariants.{RawIpv6, LinuxCooked}
use Rattle.book_captures.specs.declared.link_type.LinkType.TheVariants.{LinuxCookedV2, BsdLoopback}
use Rattle.book_captures.specs.declared.link_type.Protocol.{Protocol}
use Rattle.book_captures.specs.declared.link_type.Protocol.TheVariants.{Ip, Ipv4, Ipv6, Tag}
use Rattle.book_captures.specs.declared.link_type.Protocol.TheVariants.{Session, Labels, Other}
use Rattle.book_captures.specs.declared.reasons.Header.TheVariants as header
use Rattle.book_captures.specs.declared.reasons.Skipped.{Skipped}
use Rattle.book_captures.specs.declared.reasons.Skipped.TheVariants.{NotIp, Version, NotSession}
use Rattle.book_captures.specs.declared.reasons.Skipped.TheVariants.{Short, Cut}
use Rattle.book_captures.specs.declared.datagram_parts.IpVersion.{IpVersion}
use Rattle.book_captures.specs.declared.datagram_parts.IpVersion.TheVariants.{V4, V6}
use Rattle.book_captures.specs.declared.datagram_parts.Extent.{Extent}
use Rattle.book_captures.specs.declared.datagram_parts.Extent.TheVariants as extent

-- the link types that are read (libpcap, link-layer header types)
abbrev pub link_type : ℕ → Option LinkType
link_type n = if n == 0 then Some BsdLoopback
    else if n == 1 then Some Ethernet
    else if n == 12 then Some RawIp
    else if n == 101 then Some RawIp
    else if n == 108 then Some BsdLoopback
    else if n == 113 then Some LinuxCooked
    else if n == 228 then Some RawIpv4
    else if n == 229 then Some RawIpv6
    else if n == 276 then Some LinuxCookedV2
    else None

-- what follows a header: which protocol, and its bytes (own)
pub record Layer : Type 0 where
  pub protocol : Protocol
  pub body : List ℕ

-- the protocol of an EtherType (RFC 894; RFC 2464, section 3; IEEE 802.1Q, table 9-1; RFC 2516,
-- section 4; RFC 5332, section 3; 9100 stood for a tag before 88a8 did)
unfoldable pub ethertype : ℕ → Protocol
ethertype n = if n == 0x0800 then Ipv4
    else if n == 0x86dd then Ipv6
    else if n == 0x8100 then Tag
    else if n == 0x88a8 then Tag
    else if n == 0x9100 then Tag
    else if n == 0x8864 then Session
    else if n == 0x8847 then Labels
    else if n == 0x8848 then Labels
    else Other

-- the protocol of PPP's number (RFC 1332, section 2; RFC 5072, section 2; RFC 3032, section 4.3)
unfoldable pub ppp : ℕ → Protocol
ppp n = if n == 0x21 then Ipv4
    else if n == 0x57 then Ipv6
    else if n == 0x281 then Labels
    else if n == 0x283 then Labels
    else Other

-- the protocol of an address family: 2 is IPv4 everywhere; IPv6 is 24 for NetBSD and OpenBSD, 28
-- for FreeBSD and 30 for Darwin (libpcap, LINKTYPE_NULL)
unfoldable pub family : ℕ → Protocol
family n = if n == 2 then Ipv4
    else if n == 24 then Ipv6
    else if n == 28 then Ipv6
    else if n == 30 then Ipv6
    else Other

-- a protocol, or a second one where the first is none of those that are read (own)
abbrev pub or_else : (first second : Protocol) → Protocol
or_else Other second = second
or_else first second = first

-- how long the header of a link is (RFC 894; libpcap, LINKTYPE_LINUX_SLL, LINKTYPE_LINUX_SLL2,
-- LINKTYPE_NULL)
abbrev pub link_header_length : LinkType → ℕ
link_header_length Ethernet = 14
link_header_length LinuxCooked = 16
link_header_length LinuxCookedV2 = 20
link_header_length BsdLoopback = 4
link_header_length _ = 0

-- what the header of a link says that follows it (as above; a family is read in either order, own)
abbrev pub protocol_in : LinkType → List ℕ → Protocol
protocol_in Ethernet frame = ethertype (two_at Big frame 12)
protocol_in LinuxCooked frame = ethertype (two_at Big frame 14)
protocol_in LinuxCookedV2 frame = ethertype (two_at Big frame 0)
protocol_in BsdLoopback frame =
    or_else (family (four_at Big frame 0)) (family (four_at Little frame 0))
protocol_in RawIp frame = Ip
protocol_in RawIpv4 frame = Ipv4
protocol_in RawIpv6 frame = Ipv6

-- what follows the header of the link (own)
unfoldable pub behind_link : LinkType → List ℕ → Result Layer Skipped
behind_link link frame =
    if nat_lt (length frame) (link_header_length link) then Err (Short header.Link)
    else Ok (record {
      protocol = protocol_in link frame;
      body = drop (link_header_length link) frame;
    })

-- what follows any number of tags: each has two bytes of control information, and then the
-- EtherType of what follows it (IEEE 802.1Q, 9.6)
unfoldable pub behind_tags : Protocol → List ℕ → Result Layer Skipped
behind_tags Tag (a ∷ b ∷ c ∷ d ∷ rest) = behind_tags (ethertype (c * 256 + d)) rest
behind_tags Tag body = Err (Short header.Tag)
behind_tags protocol body = Ok (record { protocol = protocol; body = body })

-- what follows the header of a session of PPPoE, where one stands: version 1 and type 1, code 0,
-- two bytes of session and two of length, and then PPP's protocol (RFC 2516, section 4; RFC 1661,
-- section 2)
unfoldable pub behind_session : Protocol → List ℕ → Result Layer Skipped
behind_session Session body = if nat_lt (length body) 8 then Err (Short header.Session)
    else if two_at Big body 0 == 0x1100
    then Ok (record { protocol = ppp (two_at Big body 6); body = drop 8 body })
    else Err NotSession
behind_session protocol body = Ok (record { protocol = protocol; body = body })

-- what follows a stack of labels of four bytes each: the lowest bit of the third byte is set at its
-- bottom, and what follows says by itself what it is (RFC 3032, section 2.1)
unfoldable pub behind_labels : Protocol → List ℕ → Result Layer Skipped
behind_labels Labels (a ∷ b ∷ c ∷ d ∷ rest) = if c % 2 == 1
    then Ok (record { protocol = Ip; body = rest }) else behind_labels Labels rest
behind_labels Labels body = Err (Short header.Label)
behind_labels protocol body = Ok (record { protocol = protocol; body = body })

-- what is innermost in a frame: behind its link's header, tags, a session's header and labels (own)
unfoldable pub innermost : LinkType → List ℕ → Result Layer Skipped
innermost link frame = do
  outer ← behind_link link frame
  untagged ← behind_tags outer.protocol outer.body
  carried ← behind_session untagged.protocol untagged.body
  behind_labels carried.protocol carried.body

-- the version of IP that a protocol lets a datagram's first four bits say (RFC 791, section 3.1;
-- RFC 8200, section 3)
abbrev pub version_by : Protocol → ℕ → Result IpVersion Skipped
version_by Ip n = if n == 4 then Ok V4 else if n == 6 then Ok V6 else Err Version
version_by Ipv4 n = if n == 4 then Ok V4 else Err Version
version_by Ipv6 n = if n == 6 then Ok V6 else Err Version
version_by protocol n = Err NotIp

-- whether a protocol is IP (own)
abbrev pub is_ip_protocol : Protocol → Bool
is_ip_protocol Ip = true
is_ip_protocol Ipv4 = true
is_ip_protocol Ipv6 = true
is_ip_protocol protocol = false

-- the version of the datagram that stands here (RFC 791, section 3.1, and RFC 8200, section 3)
unfoldable pub version_in : Layer → Result IpVersion Skipped
version_in layer = if is_ip_protocol layer.protocol
    then (if length layer.body == 0 then Err (Short header.Datagram)
    else version_by layer.protocol (slice_index layer.body 0 / 16))
    else Err NotIp

-- a field of two bytes in the header of IPv4 is 0 (RFC 791, section 3.1)
abbrev pub is_zero : IpVersion → ℕ → List ℕ → Bool
is_zero V6 at bytes = false
is_zero V4 at bytes = if nat_lt (length bytes) 20 then false else two_at Big bytes at == 0

-- how long a datagram is by its own header, or the header where it isn't all there (RFC 791,
-- section 3.1; RFC 8200, section 3)
abbrev pub told_length : IpVersion → List ℕ → ℕ
told_length V4 bytes = if nat_lt (length bytes) 20 then 20 else two_at Big bytes 2
told_length V6 bytes = if nat_lt (length bytes) 40 then 40 else 40 + two_at Big bytes 4

-- how long a datagram is that begins these bytes, of a packet of which so many bytes are missing;
-- it has no length of its own where a network card was to fill it in, and then reaches to the end
-- (own)
abbrev pub full_length : IpVersion → List ℕ → ℕ → ℕ
full_length version bytes missing = if is_zero version 2 bytes then length bytes + missing
    else told_length version bytes

-- how much there is of so many bytes (own)
abbrev pub extent_of : (full here missing : ℕ) → Extent
extent_of full here missing = if nat_lt (here + missing) full then extent.Short
    else if nat_lt here full then extent.Cut else extent.Whole

-- a datagram as far as it was captured; whether its total length and its header's checksum are 0,
-- as where a network card was to fill them in (own)
pub record Datagram : Type 0 where
  pub version : IpVersion
  pub bytes : List ℕ
  pub behind : List ℕ
  pub extent : Extent
  pub no_length : Bool
  pub no_checksum : Bool

-- the datagram of this version that begins these bytes, of a packet of which so many bytes are
-- missing (own)
unfoldable pub datagram_at : IpVersion → List ℕ → ℕ → Datagram
datagram_at version bytes missing = record {
  version = version;
  bytes = take (full_length version bytes missing) bytes;
  behind = drop (full_length version bytes missing) bytes;
  extent = extent_of (full_length version bytes missing) (length bytes) missing;
  no_length = is_zero version 2 bytes;
  no_checksum = is_zero version 10 bytes;
}

-- a header that isn't all there was cut where bytes are missing (own)
abbrev pub as_cut : ℕ → Skipped → Skipped
as_cut missing (Short part) = if nat_lt 0 missing then Cut part else Short part
as_cut missing why = why

-- a reading with its reason seen so (own)
abbrev pub with_cuts : {A : Type 0} → ℕ → Result A Skipped → Result A Skipped
with_cuts missing (Ok found) = Ok found
with_cuts missing (Err why) = Err (as_cut missing why)

-- how many bytes of a packet of this length the snapshot left out (own)
abbrev pub missing_from : List ℕ → ℕ → ℕ
missing_from frame original = original - length frame

-- the datagram of a packet of this length, of which the snapshot left a frame, or why it has none
-- (own)
unfoldable pub datagram_in : LinkType → List ℕ → ℕ → Result Datagram Skipped
datagram_in link frame original = with_cuts (missing_from frame original) (do
  layer ← innermost link frame
  version ← version_in layer
  Ok (datagram_at version layer.body (missing_from frame original)))
