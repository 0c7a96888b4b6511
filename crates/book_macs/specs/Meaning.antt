-- What two segments have in common whose MACs are computed over the same bytes: `SameMeaning` is
-- the file's top.
use Rattle.std.specs.Prelude.{◌≡◌, ℕ, ◌%◌, ◌<◌, ◌^◌}
use Rattle.book_segments.specs.Bytes.{ring}
use Rattle.book_segments.specs.Options.{Ao, One, find_ao}
use Rattle.book_segments.specs.Segments.{IpHeader, Ipv4, Ipv6, Segment}
use Rattle.book_segments.specs.Spelling.{Fits}

-- both headers are of IPv4, or both of IPv6 (RFC 791, section 3.1; RFC 8200, section 3)
abbrev pub SameFamily : (one other : IpHeader) → Type 0
SameFamily (Ipv4 service identification flags ttl checksum options)
    (Ipv4 service2 identification2 flags2 ttl2 checksum2 options2) = Unit {0}
SameFamily (Ipv6 class_flow hops) (Ipv6 class_flow2 hops2) = Unit {0}
SameFamily _ _ = ⊥

-- a segment whose fields fit their places, with one TCP-AO option, and a number that its sequence
-- field means (RFC 5925, section 6.2)
pub record NumberedSegment (n : ℕ) (d : Segment) (ao : Ao) : Type 0 where
  pub fits : Fits d
  pub option : find_ao d.area ≡ One ao
  pub number : n < 2 ^ 64
  pub sequence : n % ring ≡ d.sequence

-- two segments agree in all that the MAC protects (RFC 5925, section 5.1)
pub record SameMeaning (n m : ℕ) (d e : Segment) (p q : Ao) : Type 0 where
  pub number : n ≡ m
  pub sequence : d.sequence ≡ e.sequence
  pub acknowledgement : d.acknowledgement ≡ e.acknowledgement
  pub flags : d.flags ≡ e.flags
  pub window : d.window ≡ e.window
  pub key_id : p.key_id ≡ q.key_id
  pub rnext_key_id : p.rnext_key_id ≡ q.rnext_key_id
  pub payload : d.payload ≡ e.payload
