-- The values of this crate as those of the definitions (own).
use Rattle.std.specs.Prelude.{option_map}
use Rattle.toml.specs.View.{table_view}
use Rattle.book_segments.specs.Segments.{Segment}
use Rattle.book_cmd_check.specs.Captures.{Connection}
use Rattle.book_why.specs.Inquiries as book
use Rattle.book_why.specs.Sights.{Sight}
use Rattle.capture_check.specs.declared.known.KnownConnection.{KnownConnection}
use Rattle.scope_why.specs.declared.inquiry.Inquiry.{Inquiry}

-- a connection of which these numbers are known, seen from the source of a segment; what is expected
-- of its other side doesn't matter for the segment
abbrev pub connection_of : Segment → KnownConnection → Connection
connection_of d k = record {
  one = record { socket = d.source; isn = k.source_isn; expected = k.expected };
  two = record { socket = d.destination; isn = k.destination_isn; expected = 0 };
}

-- what the check goes by
abbrev pub sight_of : Inquiry → Sight
sight_of i = record {
  table = i.table.now;
  held = option_map (connection_of i.datagram.now) i.known;
  now = i.time;
  segment = i.datagram.now;
}

-- what an answer speaks of
abbrev pub inquiry_of : Inquiry → book.Inquiry
inquiry_of i = record {
  sight = sight_of i;
  sender = option_map (λ t. t.now) i.sender;
  others = i.others.now;
  document = table_view i.document.now;
  with_key = i.with_key;
}
