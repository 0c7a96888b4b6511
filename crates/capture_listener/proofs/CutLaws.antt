-- The bytes of a segment that was cut off.
use Rattle.std.proofs.Common.{◌≡◌, ℕ, Bool, true, false, List, Option, Some, None, refl, sym, ap, ◌∙◌, if◌then◌else◌, nat_le, length, is_some}
use Rattle.book_segments.specs.Segments.{Segment, Reading, Read, Bad, reading}
use Rattle.book_sessions.specs.AsSent.{lacks_checksum, mended}
use Rattle.book_sessions.specs.CutOff.{cut_segment, filled, filled_segment, is_beginning, missing}

filled_if : (b : Bool) (d : Segment) → is_some (if b then Some d else None) ≡ true → (if b then Some d else None) ≡ Some d
filled_if true d e = refl
filled_if false d e = absurd (cc)

filled_told : (n : ℕ) (r : Reading) → is_some (filled_segment n r) ≡ true → (d : Segment) × (r ≡ Read d) × (filled_segment n r ≡ Some d)
filled_told n (Bad fault) e = absurd (cc)
filled_told n (Read d) e = (d, refl, filled_if (nat_le n (length d.payload)) d e)

cut_if : (b : Bool) (found : Option Segment) (d : Segment) → b ≡ true → found ≡ Some d → (if b then found else None) ≡ Some d
cut_if true found d e f = f
cut_if false found d e f = absurd (cc)

none_if : (b : Bool) (found : Option Segment) → is_some found ≡ false → (if b then found else None) ≡ None
none_if b (Some d) e = absurd (cc)
none_if true None e = refl
none_if false None e = refl

unless : (b : Bool) (found : Option Segment) → b ≡ false → (if b then found else None) ≡ None
unless true found e = absurd (cc)
unless false found e = refl

-- bytes that are no beginning of a datagram weren't cut off
pub not_begun : (b : List ℕ) → is_beginning b ≡ false → cut_segment b ≡ None
unfolding cut_segment
not_begun b e = unless (is_beginning b) (filled_segment (missing b) (reading (mended (filled b)))) e

-- nor those whose missing bytes aren't all of the payload
pub not_whole : (b whole : List ℕ) → whole ≡ mended (filled b) → is_some (filled_segment (missing b) (reading whole)) ≡ false → cut_segment b ≡ None
unfolding cut_segment
not_whole b whole w e = none_if (is_beginning b) (filled_segment (missing b) (reading (mended (filled b)))) (ap (λ (x : List ℕ). is_some (filled_segment (missing b) (reading x))) (sym w) ∙ e)

pub whole_told : (b whole : List ℕ) → is_beginning b ≡ true → whole ≡ mended (filled b) → is_some (filled_segment (missing b) (reading whole)) ≡ true → (d : Segment) × (reading whole ≡ Read d) × (cut_segment b ≡ Some d)
unfolding cut_segment
whole_told b whole begun w e =
    let t = filled_told (missing b) (reading whole) e in
    (t.0, t.1, cut_if (is_beginning b) (filled_segment (missing b) (reading (mended (filled b)))) t.0 begun (ap (λ (x : List ℕ). filled_segment (missing b) (reading x)) (sym w) ∙ t.2))

-- bytes whose header checksum is set
pub mended_same : (b : List ℕ) → lacks_checksum b ≡ false → b ≡ mended b
unfolding mended
mended_same b free = rw free refl
