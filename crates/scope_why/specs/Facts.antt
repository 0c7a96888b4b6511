-- What is said of a segment by what is known when it is answered (own).
use Rattle.std.specs.Prelude.{◌≤◌, ◌^◌, ℕ, List, [], ◌∷◌, Option, Some, None, IfSome, option_map, codes}
use Rattle.std.specs.List.{find}
use Rattle.toml.specs.View.{table_view}
use Rattle.book_keys.specs.Rows.{Table, has_address}
use Rattle.book_lines.specs.Texts.{line_text}
use Rattle.book_scope_texts.specs.Addresses.{usual_address_text}
use Rattle.book_why.specs.declared.change.IsnPair.{IsnPair}
use Rattle.book_why.specs.Inquiries.{Inquiry}
use Rattle.book_why.specs.OtherIsns.{other_isns}
use Rattle.book_why.specs.Sights.{Sight, isns_at}
use Rattle.capture_check.specs.declared.answer.CheckLine.{CheckLine}
use Rattle.scope_why.specs.declared.facts.Facts.{Facts}
use Rattle.scope_why.specs.Finding.{lines_of_said}
use Rattle.scope_why.specs.Views.{connection_of}

-- what the check goes by at the table of the node that the segment goes to
abbrev pub sight_by : Facts → Table → Sight
sight_by f t = record {
  table = t;
  held = option_map (connection_of f.datagram.now) f.known;
  now = f.time;
  segment = f.datagram.now;
}

-- what an answer speaks of at that table
abbrev pub inquiry_by : Facts → List Table → Table → Inquiry
inquiry_by f tables t = record {
  sight = sight_by f t;
  sender = find (has_address f.datagram.now.source.address) tables;
  others = other_isns f.datagram.now (isns_at (sight_by f t)) f.told.now;
  document = table_view f.document.now;
  with_key = f.with_key;
}

-- why the check says this
abbrev pub reason_by : Facts → List Table → Option Table → CheckLine → List ℕ
reason_by f tables None line =
    line_text (codes "no node has" ∷ usual_address_text f.datagram.now.destination.address ∷ [])
reason_by f tables (Some t) line = lines_of_said (inquiry_by f tables t) line

-- what is expected is at most 2^63
abbrev pub AreWithin : Facts → Type 0
AreWithin f = IfSome f.known (λ k. k.expected ≤ 2 ^ 63)

-- what an answer speaks of, with these initial sequence numbers of other connections
abbrev pub with_others : List IsnPair → Inquiry → Inquiry
with_others others q = record q { others = others }
