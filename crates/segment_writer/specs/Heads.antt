-- The head of a segment that an end makes.
use Rattle.std.specs.Prelude.{ℕ, ◌+◌, ◌%◌, Option, Some, None, if◌then◌else◌}
use Rattle.book_base.specs.declared.address.Address.{Address}
use Rattle.book_base.specs.declared.address.Pair.{Pair}
use Rattle.book_base.specs.Algorithms.{mac_length_of}
use Rattle.book_segments.specs.Bytes.{ring}
use Rattle.tcp_segment.specs.Counter.{number as value_of}
use Rattle.book_segments.specs.Segments.{SYN, RST, ACK}
use Rattle.book_keys.specs.Rows.{Row}
use Rattle.book_keys.specs.Coordination as book
use Rattle.book_endpoint.specs.States.{EndState, own_mss}
use Rattle.book_endpoint.specs.Emissions.{Draft, sets, told_window, ao_place}
use Rattle.ao_check.specs.declared.choice.Sending.{Sending}
use Rattle.tcp_segment.specs.declared.spelling.Head.{Head}
use Rattle.tcp_segment.specs.Layout.{ip_size}
use Rattle.segment_writer.specs.declared.outgoing.Outgoing.{Outgoing}

-- the maximum segment size, which is told with SYN alone (RFC 9293, section 3.7.1)
abbrev pub mss_with : ℕ → Address → Option ℕ
mss_with flags address = if sets flags SYN then Some (own_mss address) else None

-- the acknowledgement field: the number expected with ACK, else 0 (RFC 9293, section 3.1)
abbrev pub expected_with : ℕ → ℕ → ℕ
expected_with flags expected = if sets flags ACK then expected else 0

-- the window field: none with RST, all before the peer is heard (own)
abbrev pub window_with : ℕ → ℕ → ℕ
window_with flags window = if sets flags RST then 0 else (if sets flags ACK then window else 65535)

-- what a sender sets of a segment, with a MAC of so many bytes
abbrev pub head_of : Pair → Outgoing → Sending → ℕ → Head
head_of pair o sending mac_length =
    record {
      source = pair.local;
      destination = pair.remote;
      sequence = value_of o.number % ring;
      acknowledgement = expected_with o.flags o.expected;
      flags = o.flags;
      window = window_with o.flags o.window;
      mss = mss_with o.flags pair.local.address;
      key_id = sending.key_id;
      rnext = sending.rnext;
      mac_length = mac_length;
    }

-- what a sender sets of a draft that is sent with this row
abbrev pub head_for : Pair → EndState → Draft → book.Sending → Head
head_for pair s draft chosen =
    record {
      source = pair.local;
      destination = pair.remote;
      sequence = draft.number % ring;
      acknowledgement = expected_with draft.flags (s.expected % ring);
      flags = draft.flags;
      window = told_window s draft.flags;
      mss = mss_with draft.flags pair.local.address;
      key_id = chosen.key_id;
      rnext = chosen.rnext_key_id;
      mac_length = mac_length_of chosen.row.algorithm;
    }

-- the bytes of a segment that is signed by a row: headers, options and payload
abbrev pub size_of : Pair → Outgoing → Row → ℕ
size_of pair o r =
    ip_size pair.local.address + 24 + ao_place (sets o.flags SYN) + mac_length_of r.algorithm + o.payload.count
