-- What the check sees of a segment in question (RFC 5925, section 7.5). Its top is `ComesToItsMac`.
use Rattle.std.specs.Prelude.{◌≡◌, ℕ, ◌+◌, ◌==◌, nat_le, true, ◌||◌, List, length, Some, is_some}
use Rattle.std.specs.Prelude.{Ok}
use Rattle.book_base.specs.declared.address.Pair.{Pair}
use Rattle.book_base.specs.Algorithms.{mac_length_of}
use Rattle.book_segments.specs.Options.{find_ao}
use Rattle.book_segments.specs.Segments.{has, SYN, segment_length}
use Rattle.book_macs.specs.Contexts.{context, context_of}
use Rattle.book_keys.specs.Rows.{Row}
use Rattle.book_keys.specs.Choices.{Numbered, accept_row}
use Rattle.book_endpoint.specs.States.{number_limit}
use Rattle.book_endpoint.specs.Verdicts.{Finding, Known, found_with, one_ao, segment_number}
use Rattle.book_why.specs.Recipes.{Suspect}

-- the context of a segment in question (RFC 5925, section 5.2)
abbrev pub suspect_context : Suspect → List ℕ
suspect_context s =
    context s.segment.source s.segment.destination s.source_isn s.destination_isn

-- the row of a segment in question, with its number in the table (own)
abbrev pub row_as : ℕ → Suspect → Numbered
row_as n s = record { number = n; row = s.row }

-- what the check finds of a segment in question, where its MAC is right (RFC 5925, section 7.5)
abbrev pub suspect_finding : ℕ → Suspect → Finding
suspect_finding n s = found_with (row_as n s) s.segment s.ao (suspect_context s) s.number

-- the check comes to the MAC of this segment, by the row of this number in these rows, by what is
-- known of its connection, at this time (RFC 5925, section 7.5)
pub record ComesToItsMac (rows : List Row) (pair : Pair) (known : Known) (now : ℕ) (n : ℕ)
    (s : Suspect) : Type 0 where
  pub option : one_ao (find_ao s.segment.area) ≡ Ok s.ao
  pub row : accept_row rows pair s.ao.key_id now ≡ Some (row_as n s)
  pub mac_length : (length s.ao.mac == mac_length_of s.row.algorithm) ≡ true
  pub known_context : context_of s.segment known.peer_isn (Some known.own_isn)
      ≡ Some (suspect_context s)
  pub numbered : (has SYN s.segment || is_some known.expected) ≡ true
  pub number : segment_number s.segment known.expected ≡ Some s.number
  pub in_range : nat_le (s.number + segment_length s.segment) number_limit ≡ true
