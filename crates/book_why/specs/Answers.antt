-- Why the check says what it says of a packet of a capture. Our own format. Its tops are `why_text`
-- and `why_passes`.
use Rattle.std.specs.Prelude.{ℕ, ◌==◌, Bool, false, List, [], ◌∷◌, ◌++◌, length, codes}
use Rattle.std.specs.Prelude.{decimal, Option, Some, None, Result, Ok, Err, if◌then◌else◌}
use Rattle.std.specs.List.{find}
use Rattle.book_base.specs.Hexadecimal.{hex_of}
use Rattle.book_segments.specs.Options.{AoFound, Absent, One, Two, WithMd5, find_ao}
use Rattle.book_segments.specs.Segments.{Segment, Reading, Read, Bad, reading}
use Rattle.book_keys.specs.Rows.{Table, has_address}
use Rattle.book_lines.specs.Texts.{line_text}
use Rattle.book_cmd_check.specs.DatagramTexts.{number_texts}
use Rattle.book_cmd_check.specs.declared.given.GivenIsns.{GivenIsns}
use Rattle.book_cmd_check.specs.Captures.{Connection, Saying, Stored, connection_between, hear}
use Rattle.book_cmd_check.specs.Captures.{is_pass, saying_texts}
use Rattle.book_cmd_check.specs.Connections.{connections_after}
use Rattle.book_cmd_check.specs.Handshakes.{given_after}
use Rattle.book_captures.specs.Captures.{CapturePacket}
use Rattle.book_scope_texts.specs.Addresses.{usual_address_text}
use Rattle.book_scope_texts.specs.Instants.{instant_text}
use Rattle.book_scope_plan.specs.AdminNames.{KeyFile}
use Rattle.book_sessions.specs.declared.outcome.PassedOver.{PassedOver}
use Rattle.book_sessions.specs.declared.outcome.PassedOver.TheVariants as passed
use Rattle.book_sessions.specs.AsSent.{lacks_checksum, mended, told_fault}
use Rattle.book_sessions.specs.OutcomeTexts.{passed_text}
use Rattle.book_sessions.specs.Sessions.{all_stored, captured_of_packet}
use Rattle.book_sessions.specs.Sessions.{mended_of, stored_of_packet}
use Rattle.book_why.specs.Inquiries.{Inquiry, why_lines}
use Rattle.book_why.specs.OtherIsns.{other_isns, told_by_stored}
use Rattle.book_why.specs.Sights.{Sight, isns_at}

-- what stands in front of a packet: the connections that the check holds, and which initial
-- sequence numbers were told or given (own)
pub record Behind : Type 0 where
  pub held : List Connection
  pub told : List GivenIsns

-- a packet has this number (own)
abbrev pub has_number : ℕ → CapturePacket → Bool
has_number n p = p.number == n

-- the packets in front of the first one of this number (own)
abbrev pub packets_before : ℕ → List CapturePacket → List CapturePacket
packets_before n [] = []
packets_before n (p ∷ ps) = if has_number n p then [] else p ∷ packets_before n ps

-- what stands behind given handshakes and these stored segments (RFC 5925, section 5.2, and own)
abbrev pub behind_stored : List Table → List GivenIsns → List Stored → Behind
behind_stored tables given stored = record {
  held = connections_after tables (given_after [] given) stored;
  told = given ++ told_by_stored stored;
}

-- what `check` says of a stored datagram behind these (own)
abbrev pub said_behind : List Table → Behind → Stored → Saying
said_behind tables b s = (hear tables b.held s.time s.bytes).saying

-- what the check goes by at a segment that goes to the node of this table (own)
abbrev pub sight_behind : Behind → (now : ℕ) → Segment → Table → Sight
sight_behind b now d t =
    record { table = t; held = connection_between d b.held; now = now; segment = d }

-- what an answer speaks of at a segment that the check sees so (own)
abbrev pub inquiry_of : KeyFile → Behind → (with_key : Bool) → Sight → Inquiry
inquiry_of keys b with_key s = record {
  sight = s;
  sender = find (has_address s.segment.source.address) keys.tables;
  others = other_isns s.segment (isns_at s) b.told;
  document = keys.document;
  with_key = with_key;
}

-- bytes in hexadecimal, or a hyphen where there are none (own)
abbrev pub hex_or_hyphen : List ℕ → List ℕ
hex_or_hyphen [] = codes "-"
hex_or_hyphen (b ∷ bs) = hex_of (b ∷ bs)

-- the KeyID, the RNextKeyID and the MAC of a segment, where it has one TCP-AO option, without TCP
-- MD5 beside it (RFC 5925, section 2.2)
abbrev pub option_texts_of : AoFound → List (List ℕ)
option_texts_of Absent = []
option_texts_of Two = []
option_texts_of WithMd5 = []
option_texts_of (One ao) =
    codes "key" ∷ decimal ao.key_id ∷ codes "asks" ∷ decimal ao.rnext_key_id
    ∷ codes "mac" ∷ hex_or_hyphen ao.mac ∷ []

-- the line of a segment: its packet's number, when it was seen, its sockets and its fields (RFC
-- 9293, section 3.1; RFC 5925, section 2.2)
unfoldable pub segment_line : Stored → Segment → List ℕ
segment_line s d =
    line_text (codes "packet" ∷ decimal s.number ∷ codes "at" ∷ instant_text s.time
    ∷ usual_address_text d.source.address ∷ decimal d.source.port ∷ codes ">"
    ∷ usual_address_text d.destination.address ∷ decimal d.destination.port
    ∷ number_texts d (option_texts_of (find_ao d.area)))

-- why the check says this of a segment: no node has its destination's address, or by the inquiry at
-- the table of that node (own)
abbrev pub reason_lines : Option Table → (Table → Inquiry) → Segment → Saying → List ℕ
reason_lines None asked d said =
    line_text (codes "no node has" ∷ usual_address_text d.destination.address ∷ [])
reason_lines (Some t) asked d said = why_lines (asked t) said

-- the line of what is said of a segment, and the lines of why (own)
abbrev pub said_and_why : KeyFile → Behind → (with_key : Bool) → Stored → Segment → List ℕ
said_and_why keys b with_key s d =
    let said = said_behind keys.tables b s in
    line_text (saying_texts said)
    ++ reason_lines (find (has_address d.destination.address) keys.tables)
    (λ t. inquiry_of keys b with_key (sight_behind b s.time d t)) d said

-- the line of a packet that is no segment, for this reason (own)
abbrev pub no_segment_line : (number : ℕ) → PassedOver → List ℕ
no_segment_line n why =
    line_text (codes "packet" ∷ decimal n ∷ codes "other" ∷ passed_text why ∷ [])

-- the line of a header checksum that isn't set (own)
abbrev pub unset_text : (unset : Bool) → List ℕ
unset_text unset = if unset then codes "ip-checksum wrong" ++ 10 ∷ [] else []

-- the text for what a packet has behind others, which is judged with its header checksum (own)
abbrev pub answer_to_reading : KeyFile → Behind → (with_key : Bool) → Stored → Reading → List ℕ
answer_to_reading keys b with_key s (Bad fault) =
    no_segment_line s.number (passed.Faulty (told_fault (mended s.bytes) fault))
answer_to_reading keys b with_key s (Read d) = segment_line s d
    ++ (unset_text (lacks_checksum s.bytes) ++ said_and_why keys b with_key (mended_of s) d)

-- the text for what a packet of this number has behind others, or for why it is passed over (own)
abbrev pub answer_behind :
    KeyFile → Behind → (with_key : Bool) → (number : ℕ) → Result Stored PassedOver → List ℕ
answer_behind keys b with_key n (Err why) = no_segment_line n why
answer_behind keys b with_key n (Ok s) =
    answer_to_reading keys b with_key s (reading (mended s.bytes))

-- the line where a capture of so many packets has none of this number (own)
abbrev pub no_packet_line : (number count : ℕ) → List ℕ
no_packet_line n count =
    line_text (codes "no packet" ∷ decimal n ∷ codes "of" ∷ decimal count ∷ [])

-- the text for a packet, if it is there, behind others (own)
abbrev pub answer_at : KeyFile → Behind → (with_key : Bool) → Option CapturePacket → List ℕ → List ℕ
answer_at keys b with_key None missing = missing
answer_at keys b with_key (Some p) missing =
    answer_behind keys b with_key p.number (captured_of_packet p)

-- a question: given initial sequence numbers, the packet of which number, and whether the traffic
-- key is asked for (own)
pub record WhyAsked : Type 0 where
  pub given : List GivenIsns
  pub number : ℕ
  pub with_key : Bool

-- the packet that is asked for (own)
abbrev pub packet_asked : WhyAsked → List CapturePacket → Option CapturePacket
packet_asked asked packets = find (has_number asked.number) packets

-- what stands in front of the packet that is asked for (own)
abbrev pub behind_asked : List Table → WhyAsked → List CapturePacket → Behind
behind_asked tables asked packets =
    behind_stored tables asked.given (all_stored (packets_before asked.number packets))

-- why the check says what it says of a packet of a capture, by a key file, behind given handshakes
-- and the packets in front of it (own)
unfoldable pub why_text : KeyFile → WhyAsked → List CapturePacket → List ℕ
why_text keys asked packets =
    answer_at keys (behind_asked keys.tables asked packets) asked.with_key
    (packet_asked asked packets) (no_packet_line asked.number (length packets))

-- what is judged of a packet is a segment that passes behind others (own)
abbrev pub passes_behind : List Table → Behind → Result Stored PassedOver → Bool
passes_behind tables b (Err why) = false
passes_behind tables b (Ok s) = is_pass (said_behind tables b s)

-- a packet, if it is there, is a segment that passes behind others (own)
abbrev pub passes_at : List Table → Behind → Option CapturePacket → Bool
passes_at tables b None = false
passes_at tables b (Some p) = passes_behind tables b (stored_of_packet p)

-- the packet that is asked for is a segment that passes (own)
unfoldable pub why_passes : List Table → WhyAsked → List CapturePacket → Bool
why_passes tables asked packets =
    passes_at tables (behind_asked tables asked packets) (packet_asked asked packets)
