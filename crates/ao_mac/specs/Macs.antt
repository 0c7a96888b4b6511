-- The MAC of a segment that has a TCP-AO option.
use Rattle.std.specs.Prelude.{◌≡◌, ◌↔◌, ℕ, ◌/◌, Bool, IsTrue, List}
use Rattle.book_base.specs.declared.algorithm.Algorithm.{Algorithm}
use Rattle.book_segments.specs.Bytes.{ring}
use Rattle.book_segments.specs.Options.{Ao, One, find_ao}
use Rattle.book_segments.specs.Segments.{Segment}
use Rattle.book_macs.specs.Keys.{mac}
use Rattle.book_macs.specs.MacInput.{mac_input}

-- the segment has one TCP-AO option and none of TCP MD5 (RFC 5925, section 2.2)
abbrev pub HasAo : Segment → Type 0
HasAo d = (ao : Ao) × (find_ao d.area ≡ One ao)

-- the bytes are the MAC of the segment under the traffic key, for each number with this extension (RFC 5925, section 5.1)
abbrev pub IsMacOf : List ℕ → Algorithm → List ℕ → ℕ → Segment → Bool → Type 0
IsMacOf bytes algorithm key extension d with_options =
    (number : ℕ) (ao : Ao) → number / ring ≡ extension → find_ao d.area ≡ One ao → bytes ≡ mac algorithm key (mac_input number d ao with_options)

-- it is true exactly where the MACs of both segments are computed over the same bytes, for all numbers with these extensions (RFC 5925, section 5.1)
abbrev pub IsSameInput : Bool → ℕ → Segment → Bool → ℕ → Segment → Bool → Type 0
IsSameInput answer extension d with_options other_extension e other_with_options =
    (number other_number : ℕ) (ao other_ao : Ao) → number / ring ≡ extension → other_number / ring ≡ other_extension → find_ao d.area ≡ One ao → find_ao e.area ≡ One other_ao
    → (IsTrue answer ↔ (mac_input number d ao with_options ≡ mac_input other_number e other_ao other_with_options))
