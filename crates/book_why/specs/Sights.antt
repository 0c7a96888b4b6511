-- What the check goes by at a segment of a capture (RFC 5925, section 7.5). Its top is
-- `suspect_at`.
use Rattle.std.specs.Prelude.{ℕ, Option, Some, None, option_map, Result, Ok, if◌then◌else◌}
use Rattle.book_base.specs.Results.{◌>>=◌, or_fault}
use Rattle.book_segments.specs.Options.{Ao, find_ao}
use Rattle.book_segments.specs.Segments.{Segment, has, SYN, ACK, pair_reached}
use Rattle.book_keys.specs.Rows.{Table}
use Rattle.book_keys.specs.Choices.{Numbered}
use Rattle.book_endpoint.specs.declared.refusal.Refusal.{Refusal}
use Rattle.book_endpoint.specs.declared.refusal.Refusal.TheVariants.{NoContext, Range}
use Rattle.book_endpoint.specs.Verdicts.{Known, one_ao, row_taking, segment_number}
use Rattle.book_cmd_check.specs.Captures.{Connection, acknowledged_isn}
use Rattle.book_why.specs.declared.change.IsnPair.{IsnPair}
use Rattle.book_why.specs.Recipes.{Suspect}

-- what the check goes by at a segment: the table of the node that it goes to, the connection that
-- is held between its sockets, seen from its source, and when it was seen, in seconds since 1970
-- (RFC 5925, section 7.5)
pub record Sight : Type 0 where
  pub table : Table
  pub held : Option Connection
  pub now : ℕ
  pub segment : Segment

-- what is known of a connection that is held, or isn't, at a segment without SYN (RFC 5925, section
-- 5.2)
abbrev pub known_later : Option Connection → Known
known_later None = record { own_isn = 0; peer_isn = None; expected = None }
known_later (Some c) = record {
  own_isn = c.two.isn;
  peer_isn = Some c.one.isn;
  expected = Some c.one.expected;
}

-- what is known of the connection of a segment; a SYN with ACK tells the initial sequence number of
-- its destination itself (RFC 5925, section 5.2)
abbrev pub known_at : Sight → Known
known_at s =
    if has SYN s.segment
    then record { own_isn = acknowledged_isn s.segment; peer_isn = None; expected = None }
    else known_later s.held

-- the initial sequence numbers of a connection, that of its first side first (RFC 5925, section
-- 5.2)
abbrev pub isns_held : Connection → IsnPair
isns_held c = record { source_isn = c.one.isn; destination_isn = c.two.isn }

-- the initial sequence numbers of a SYN: its own sequence number, and with ACK that which it
-- acknowledges, else 0 (RFC 5925, section 5.2)
abbrev pub isns_of_syn : Segment → IsnPair
isns_of_syn d = record {
  source_isn = d.sequence;
  destination_isn = if has ACK d then acknowledged_isn d else 0;
}

-- the initial sequence numbers in the context of a segment, where they are known (RFC 5925, section
-- 5.2)
abbrev pub isns_at : Sight → Option IsnPair
isns_at s =
    if has SYN s.segment then Some (isns_of_syn s.segment) else option_map isns_held s.held

-- the number of a segment, where it isn't below 0 (RFC 5925, section 6.2)
abbrev pub number_at : Sight → Option ℕ
number_at s = segment_number s.segment (known_at s).expected

-- the one TCP-AO option of a segment, or why it is refused in front of that (RFC 5925, section 2.2)
abbrev pub ao_at : Sight → Result Ao Refusal
ao_at s = one_ao (find_ao s.segment.area)

-- the row that takes a segment, or why it is refused in front of that (RFC 5925, section 7.5)
unfoldable pub row_at : Sight → Result Numbered Refusal
row_at s = do
  ao ← ao_at s
  row_taking s.table.rows (pair_reached s.segment) ao.key_id s.now

-- a segment whose MAC is in question, with its option, its row, its initial sequence numbers and
-- its number, or why it is refused in front of that (RFC 5925, section 7.5)
unfoldable pub suspect_at : Sight → Result Suspect Refusal
suspect_at s = do
  ao ← ao_at s
  row ← row_at s
  isns ← or_fault (isns_at s) NoContext
  number ← or_fault (number_at s) Range
  Ok (record {
    segment = s.segment;
    ao = ao;
    number = number;
    source_isn = isns.source_isn;
    destination_isn = isns.destination_isn;
    row = row.row;
  })
