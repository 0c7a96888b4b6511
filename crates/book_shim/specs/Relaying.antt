-- A datagram with other options. The file's tops: `fitted`, `coming_area` and `relaid`.
use Rattle.std.specs.Prelude.{ℕ, zero, suc, ◌+◌, ◌-◌, ◌*◌, ◌%◌, ◌==◌, min, nat_lt, nat_le}
use Rattle.std.specs.Prelude.{Bool, true, false, if◌then◌else◌, List, [], ◌∷◌, ◌++◌, length, take}
use Rattle.std.specs.Prelude.{replicate, flat_map, ◌&&◌, ◌||◌}
use Rattle.std.specs.Prelude.{slice_index, Option, Some, None}
use Rattle.std.specs.Option.{option_or}
use Rattle.book_segments.specs.Bytes.{put2}
use Rattle.book_segments.specs.Options.{Plain, ao_kind, mss_kind}
use Rattle.book_segments.specs.Options.{plains, listed, options_of}
use Rattle.book_segments.specs.Segments.{IpHeader, Ipv4, Ipv6, Segment, complement_of, spell_as}
use Rattle.book_segments.specs.Segments.{ipv4_header_length, tcp_length, has, SYN}
use Rattle.book_segments.specs.Spelling.{finished}
use Rattle.book_shim.specs.declared.trim.Trim.{Trim}

-- the option kind of selective acknowledgements (RFC 2018, section 3)
abbrev pub sack_kind : ℕ
sack_kind = 5

-- the bytes of an option: its kind, and from kind 2 on its length and body (RFC 9293, section 3.2)
abbrev pub spelled : Plain → List ℕ
spelled o = if nat_lt o.kind 2 then o.kind ∷ [] else o.kind ∷ (2 + length o.body) ∷ o.body

-- an option of selective acknowledgements, and none over no bytes (RFC 2018, section 3)
abbrev pub sack : List ℕ → List ℕ
sack [] = []
sack (b ∷ bs) = sack_kind ∷ (2 + length (b ∷ bs)) ∷ b ∷ bs

-- the option kind of multipath (RFC 8684, section 3)
abbrev pub multipath_kind : ℕ
multipath_kind = 30

-- the option kind of Fast Open (RFC 7413, section 4.1.1)
abbrev pub fast_open_kind : ℕ
fast_open_kind = 34

-- left out are the end of the list, and for want of room NOPs, multipath and Fast Open, which a
-- peer takes for not offered then (RFC 8684, section 3.7; RFC 7413, section 4.2, and own)
abbrev pub is_left_out : Trim → Plain → Bool
is_left_out t o =
    (o.kind == 0) || ((t.packed && (o.kind == 1))
    || (t.bare && ((o.kind == multipath_kind) || (o.kind == fast_open_kind))))

-- an option as it goes out, of selective acknowledgements the newest blocks (RFC 2018, section 4)
abbrev pub going : Trim → Plain → List ℕ
going t o =
    if is_left_out t o then []
    else (if o.kind == sack_kind then sack (take (8 * t.blocks) o.body) else spelled o)

-- the most bytes that a TCP-AO option has here: four and a MAC of 16 (RFC 5925, section 2.2)
abbrev pub longest_ao : ℕ
longest_ao = 20

-- the maximum segment size that a body tells, or the most that the own device leaves, less the
-- longest TCP-AO option, of which the own kernel doesn't know (RFC 6691, section 2, and own)
abbrev pub lowered : (most : ℕ) → List ℕ → ℕ
lowered most body = min (slice_index body 0 * 256 + slice_index body 1) most - longest_ao

-- an option, and where there is a most the maximum segment size lowered (RFC 9293, section 3.7.1)
abbrev pub with_mss : (most : Option ℕ) → Plain → List ℕ
with_mss None o = spelled o
with_mss (Some most) o =
    if (o.kind == mss_kind) && (length o.body == 2)
    then mss_kind ∷ 4 ∷ put2 (lowered most o.body) [] else spelled o

-- an option as it comes in: TCP-AO is left out (RFC 5925, section 7.5, and own)
abbrev pub coming : (most : Option ℕ) → Plain → List ℕ
coming most o = if (o.kind == 0) || (o.kind == ao_kind) then [] else with_mss most o

-- bytes of options filled up to whole words by NOP (RFC 9293, section 3.2)
abbrev pub in_words : List ℕ → List ℕ
in_words bytes = bytes ++ replicate ((4 - length bytes % 4) % 4) 1

-- the options of an area, each written so, in whole words (own)
unfoldable pub rewritten : (Plain → List ℕ) → List ℕ → List ℕ
rewritten write area = in_words (flat_map write (plains (listed (options_of area))))

-- the bytes, where they have room (own)
abbrev pub if_room : (room : ℕ) → List ℕ → Option (List ℕ)
if_room room bytes = if nat_le (length bytes) room then Some bytes else None

-- the options as they go out with so many blocks, where they have room, else without NOPs (own)
abbrev pub packed_in : (room blocks : ℕ) → (bare : Bool) → List ℕ → Option (List ℕ)
packed_in room n bare area = option_or
    (if_room room (rewritten (going (record { blocks = n; packed = false; bare = bare })) area))
    (if_room room (rewritten (going (record { blocks = n; packed = true; bare = bare })) area))

-- the same with so many blocks or as many fewer as leave room; the last are left out first (own)
unfoldable pub fitted_from : (room blocks : ℕ) → (bare : Bool) → List ℕ → Option (List ℕ)
fitted_from room zero bare area = packed_in room 0 bare area
fitted_from room (suc n) bare area =
    option_or (packed_in room (suc n) bare area) (fitted_from room n bare area)

-- the options as they go out beside TCP-AO; multipath and Fast Open are left out last (own)
abbrev pub fitted : (room : ℕ) → List ℕ → Option (List ℕ)
fitted room area = option_or (fitted_from room 4 false area) (fitted_from room 4 true area)

-- the options as they come in (own)
abbrev pub coming_area : (most : Option ℕ) → List ℕ → List ℕ
coming_area most area = rewritten (coming most) area

-- the least bytes of an IP header and a TCP header (RFC 9293, section 3.7.1)
abbrev pub headers_length : IpHeader → ℕ
headers_length (Ipv4 service identification flags ttl checksum options) = 40
headers_length (Ipv6 class_flow hops) = 60

-- the greatest maximum segment size that a SYN may tell under this MTU (RFC 6691, section 2)
abbrev pub most_mss : (mtu : ℕ) → Segment → Option ℕ
most_mss mtu d = if has SYN d then Some (mtu - headers_length d.ip) else None

-- an IP header whose own checksum is right for a datagram (RFC 791, section 3.1)
abbrev pub summed : IpHeader → Segment → IpHeader
summed (Ipv4 service identification flags ttl checksum options) d =
    Ipv4 service identification flags ttl
    (complement_of (spell_as (Ipv4 service identification flags ttl 0 options) d [])) options
summed (Ipv6 class_flow hops) d = Ipv6 class_flow hops

-- a datagram with these options in place of its own (own)
abbrev pub with_area : Segment → List ℕ → Segment
with_area d area = record d { area = area }

-- a datagram with these options: its lengths and checksums are made anew, and all else stays (own)
unfoldable pub relaid : Segment → List ℕ → Segment
relaid d area = finished (record (with_area d area) { ip = summed d.ip (with_area d area) })

-- how many bytes an IP header says of its datagram (RFC 791, section 3.1; RFC 8200, section 3)
abbrev pub length_in_header : IpHeader → Segment → ℕ
length_in_header (Ipv4 service identification flags ttl checksum options) d =
    ipv4_header_length + length options + tcp_length d
length_in_header (Ipv6 class_flow hops) d = tcp_length d
