-- What comes out of the other guard byte for byte. The file's tops: `StaysWhole` and `ComesBack`.
use Rattle.std.specs.Prelude.{◌≡◌, ℕ, ◌-◌, ◌<◌, true, false, List, [], ◌++◌, length, Some, Ok}
use Rattle.book_base.specs.declared.address.Pair.{Pair}
use Rattle.book_segments.specs.Segments.{IpHeader, Ipv4, Ipv6, Segment, has, SYN, good, spell}
use Rattle.book_keys.specs.Coordination.{Sending}
use Rattle.book_endpoint.specs.Emissions.{ao_length}
use Rattle.book_shim.specs.declared.kept.Kept.{Kept}
use Rattle.book_shim.specs.Keeping.{Setting}
use Rattle.book_shim.specs.Leaving.{Sealed}
use Rattle.book_shim.specs.Arriving.{Opened, inbound}
use Rattle.book_shim.specs.Relaying.{fitted}

-- the checksum of an IP header, and 0 where it has none (RFC 791, section 3.1; RFC 8200, section 3)
abbrev pub ip_checksum : IpHeader → ℕ
ip_checksum (Ipv4 service identification flags ttl checksum options) = checksum
ip_checksum (Ipv6 class_flow hops) = 0

-- nothing of a datagram need change but for TCP-AO: it has no SYN, its options fit beside TCP-AO as
-- they stand, and its checksums are those that a sender computes: right, and not ffff, to which it
-- comes for no header (RFC 1071, section 1, and own)
pub record StaysWhole (d : Segment) (s : Sending) : Type 0 where
  pub no_syn : has SYN d ≡ false
  pub fits : fitted (40 - ao_length s) d.area ≡ Some d.area
  pub right : good d ≡ true
  pub below : d.checksum < 0xffff
  pub ip_below : ip_checksum d.ip < 0xffff

-- of what arrived the kernel is handed the very bytes of a datagram that the other kernel gave, but
-- for what stood after the datagram's end (own)
pub record ComesBack (here : Setting) (pair : Pair) (g : Kept) (m : Sealed)
    (bytes arrived : List ℕ) : Type 0 where
  pub taken : Opened
  pub takes : inbound here pair g arrived ≡ Ok taken
  pub after : List ℕ
  pub same : bytes ≡ spell taken.segment ++ after
  pub whole : length bytes ≡ length (spell m.given) → after ≡ []
