-- The headers of a datagram's bytes, with other lengths and checksums.
use Rattle.std.specs.Prelude.{ℕ, ◌+◌, ◌*◌, ◌/◌, ◌%◌, ◌==◌, if◌then◌else◌}
use Rattle.std.specs.Prelude.{List, [], ◌∷◌, ◌++◌, length, drop, slice_index}
use Rattle.book_segments.specs.Bytes.{put2}
use Rattle.book_segments.specs.Segments.{words_sum}
use Rattle.tcp_segment.specs.Sums.{complement_at}

-- an IPv4 header up to its addresses, with another total length and checksum (RFC 791, section 3.1)
abbrev pub v4_start : List ℕ → (total checksum : ℕ) → List ℕ
v4_start b total checksum =
    slice_index b 0 ∷ slice_index b 1 ∷ put2 total (slice_index b 4 ∷ slice_index b 5
    ∷ slice_index b 6 ∷ slice_index b 7 ∷ slice_index b 8 ∷ slice_index b 9 ∷ put2 checksum [])

-- an IPv6 header up to its addresses, with another length (RFC 8200, section 3)
abbrev pub v6_start : List ℕ → (size : ℕ) → List ℕ
v6_start b size =
    slice_index b 0 ∷ slice_index b 1 ∷ slice_index b 2 ∷ slice_index b 3
    ∷ put2 size (slice_index b 6 ∷ slice_index b 7 ∷ [])

-- an IPv4 header over so many TCP bytes, its checksum made anew (RFC 791, section 3.1)
abbrev pub v4_again : List ℕ → (size : ℕ) → List ℕ
v4_again b size =
    let total = length b + size in
    let sum = words_sum (v4_start b total 0) + words_sum (drop 12 b) in
    v4_start b total (complement_at sum) ++ drop 12 b

-- an IP header over so many TCP bytes (RFC 791, section 3.1; RFC 8200, section 3)
abbrev pub ip_again : List ℕ → (size : ℕ) → List ℕ
ip_again b size =
    if slice_index b 0 / 16 == 4 then v4_again b size else v6_start b size ++ drop 8 b

-- the byte of the data offset over options of another length, whose lower half stays (RFC 9293,
-- section 3.1)
abbrev pub offset_of : List ℕ → (area_length : ℕ) → ℕ
offset_of header area_length = 80 + 4 * area_length + slice_index header 12 % 16
