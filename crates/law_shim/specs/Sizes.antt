-- What room a datagram needs once it is sealed, and which maximum segment size a SYN tells so that
-- there is that room. The file's tops: `sizes_told`, `left_of` and `KeepsTo`.
use Rattle.std.specs.Prelude.{ℕ, ◌+◌, ◌-◌, ◌*◌, ◌≤◌, ◌==◌, ◌&&◌, min, if◌then◌else◌}
use Rattle.std.specs.Prelude.{List, [], ◌∷◌, length, slice_index}
use Rattle.book_segments.specs.Options.{Plain, mss_kind, plains, listed, options_of}
use Rattle.book_segments.specs.Segments.{IpHeader, Segment, spell}
use Rattle.book_shim.specs.Relaying.{headers_length, longest_ao}

-- the maximum segment sizes that options tell, each by two bytes, in order (RFC 9293, section 3.2)
abbrev pub sizes_among : List Plain → List ℕ
sizes_among [] = []
sizes_among (o ∷ os) =
    if (o.kind == mss_kind) && (length o.body == 2)
    then (slice_index o.body 0 * 256 + slice_index o.body 1) ∷ sizes_among os
    else sizes_among os

-- the maximum segment sizes that a segment tells (RFC 9293, section 3.2)
abbrev pub sizes_told : Segment → List ℕ
sizes_told d = sizes_among (plains (listed (options_of d.area)))

-- a maximum segment size, or what a device of this MTU leaves beside both headers, less the longest
-- TCP-AO option (RFC 6691, section 2, and own)
abbrev pub left_of : (mtu : ℕ) → IpHeader → (told : ℕ) → ℕ
left_of mtu ip told = min told (mtu - headers_length ip) - longest_ao

-- a datagram has at most so many bytes, its own options among them, beside both headers (RFC 9293,
-- section 3.7.1)
abbrev pub KeepsTo : Segment → (most : ℕ) → Type 0
KeepsTo d most = length (spell d) ≤ most + headers_length d.ip
