-- What a segment passes by: the conditions of the check, each by itself (RFC 5925, section 7.5).
-- Its top: `Passes`.
use Rattle.std.specs.Prelude.{◌≡◌, ℕ, ◌+◌, ◌≤◌, true, false, List, [], ◌∷◌, length, Option}
use Rattle.std.specs.Prelude.{Some}
use Rattle.book_base.specs.declared.address.Pair.{Pair}
use Rattle.book_base.specs.Algorithms.{mac_length_of}
use Rattle.book_segments.specs.Meant.{meant}
use Rattle.book_segments.specs.Options.{Opt, Ao, ao_kind, md5_kind, ao_of}
use Rattle.book_segments.specs.Options.{of_kind, options_of, listed}
use Rattle.book_segments.specs.Segments.{Segment, has, SYN, segment_length}
use Rattle.book_macs.specs.Contexts.{context_of}
use Rattle.book_keys.specs.Rows.{Row}
use Rattle.book_keys.specs.Choices.{Numbered, acceptable_as, IsLowest}
use Rattle.book_endpoint.specs.States.{number_limit}
use Rattle.book_endpoint.specs.Verdicts.{Finding, Known, mac_of, found_with}

-- The options of this kind that a segment has (RFC 9293, section 3.2).
abbrev pub options_in : ℕ → Segment → List Opt
options_in kind d = of_kind kind (listed (options_of d.area))

-- The number of a segment is with SYN its sequence, without SYN what its sequence means near the
-- number expected (RFC 5925, section 6.2).
pub record HasNumber (d : Segment) (expected : Option ℕ) (n : ℕ) : Type 0 where
  pub with_syn : has SYN d ≡ true → n ≡ d.sequence
  pub without : has SYN d ≡ false → (e : ℕ) × (expected ≡ Some e) × (meant d.sequence e ≡ Some n)

-- A segment passes with this finding, from what is known of the numbers of the connection, at this
-- time (RFC 5925, section 7.5; the range: own).
pub record Passes (rows : List Row) (pair : Pair) (known : Known) (now : ℕ) (d : Segment)
    (p : Finding) : Type 0 where
  pub option : Opt  -- its one TCP-AO option
  pub ao : Ao  -- the fields of that option
  pub row : Numbered  -- the row under which it passes
  pub one_option : options_in ao_kind d ≡ option ∷ []
  pub no_md5 : options_in md5_kind d ≡ []
  pub its_fields : ao ≡ ao_of option
  pub acceptable_row : IsLowest (acceptable_as pair ao.key_id now) rows row
  pub mac_length : length ao.mac ≡ mac_length_of row.row.algorithm
  pub known_context : context_of d known.peer_isn (Some known.own_isn) ≡ Some p.context
  pub number : HasNumber d known.expected p.number
  pub in_range : p.number + segment_length d ≤ number_limit
  pub finding : p ≡ found_with row d ao p.context p.number
  pub right_mac : ao.mac ≡ mac_of p
