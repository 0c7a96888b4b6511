-- A datagram as an end makes it, and where its checksum stands (own).
use Rattle.std.specs.Prelude.{◌≡◌, ◌≤◌, ◌==◌, ℕ, Option, Some, None, ⊤, if◌then◌else◌}
use Rattle.book_base.specs.declared.address.Address.{Address}
use Rattle.book_base.specs.declared.address.Address.TheVariants.{V4, V6}
use Rattle.book_base.specs.declared.address.Pair.{Pair}
use Rattle.book_segments.specs.Segments.{Segment}
use Rattle.book_endpoint.specs.Emissions.{Emission, written_ip}

-- the segment is over the pair, in the written form of IP, and its checksum is two bytes (own)
pub record IsFrom (pair : Pair) (d : Segment) : Type 0 where
  pub size : ℕ
  pub ip : d.ip ≡ written_ip pair size pair.local.address
  pub source : d.source ≡ pair.local
  pub destination : d.destination ≡ pair.remote
  pub checksum : d.checksum ≤ 65535

-- where the TCP checksum stands in a datagram from this address whose IP header has no options (RFC
-- 791, section 3.1; RFC 8200, section 3; RFC 9293, section 3.1)
abbrev pub sum_place : Address → ℕ
sum_place (V4 bytes) = 36
sum_place (V6 bytes) = 56

-- a checksum as it is handed out (own)
abbrev pub sum_handed : ℕ → ℕ
sum_handed c = if c == 0 then 65535 else c

-- the segment of a turn, if there is one, is over the pair (own)
abbrev pub IsFromIf : Pair → Option Emission → Type 0
IsFromIf pair None = ⊤
IsFromIf pair (Some x) = IsFrom pair x.segment
