-- The sessions of a capture: the segments of each direction, by KeyID and by what the check says of
-- them (RFC 5925, sections 2.2, 7.1 and 7.5, and own). Its top is `sessions_of`.
use Rattle.std.specs.Prelude.{ℕ, ◌+◌, ◌/◌, ◌==◌, nat_lt, min, max, Bool, true, false, ◌&&◌, ◌||◌}
use Rattle.std.specs.Prelude.{not, List, [], ◌∷◌, is_some}
use Rattle.std.specs.Prelude.{Option, Some, None, option_map, Result, Ok, Err, if◌then◌else◌}
use Rattle.std.specs.List.{find, list_any}
use Rattle.std.specs.Option.{unwrap_or}
use Rattle.std.specs.Str.{bytes_eq}
use Rattle.book_segments.specs.declared.fault.DatagramFault.{DatagramFault}
use Rattle.book_segments.specs.Sockets.{same_socket}
use Rattle.book_segments.specs.Options.{AoFound, Absent, One, Two, WithMd5, find_ao}
use Rattle.book_segments.specs.Options.{Plain, listed, md5_kind, options_of, plains}
use Rattle.book_segments.specs.Segments.{Segment, Reading, Read, Bad, reading, has, SYN, ACK}
use Rattle.book_segments.specs.Segments.{FIN, RST, segment_length}
use Rattle.book_endpoint.specs.States.{number_limit}
use Rattle.book_endpoint.specs.Verdicts.{Finding}
use Rattle.book_cmd_check.specs.Captures.{Connection, Stored, connection_between}
use Rattle.book_cmd_check.specs.declared.given.GivenIsns.{GivenIsns}
use Rattle.book_captures.specs.declared.reasons.Skipped.{Skipped}
use Rattle.book_captures.specs.Frames.{Datagram}
use Rattle.book_captures.specs.Captures.{CapturePacket, frame_datagram}
use Rattle.book_captures.specs.PacketLines.{judged_bytes}
use Rattle.book_sessions.specs.declared.outcome.SegmentOutcome.{SegmentOutcome}
use Rattle.book_sessions.specs.declared.outcome.SegmentOutcome.TheVariants.{CutOff}
use Rattle.book_sessions.specs.declared.outcome.PassedOver.{PassedOver}
use Rattle.book_sessions.specs.declared.outcome.PassedOver.TheVariants as passed
use Rattle.book_sessions.specs.declared.uses.FlowIsns.{FlowIsns}
use Rattle.book_sessions.specs.declared.uses.KeyIds.{KeyIds}
use Rattle.book_sessions.specs.declared.uses.Protection.{Protection}
use Rattle.book_sessions.specs.declared.uses.Protection.TheVariants as protection
use Rattle.book_sessions.specs.declared.uses.SeenBits.{SeenBits}
use Rattle.book_sessions.specs.declared.uses.SeenPass.{SeenPass}
use Rattle.book_sessions.specs.declared.uses.SeenSegment.{SeenSegment}
use Rattle.book_sessions.specs.declared.uses.Signs.{Signs}
use Rattle.book_sessions.specs.declared.uses.KeyUse.{KeyUse}
use Rattle.book_sessions.specs.declared.uses.PassedCount.{PassedCount}
use Rattle.book_sessions.specs.contracts.outcome.PassedOverPartialEq.TheImpl as passed_eq
use Rattle.book_sessions.specs.contracts.uses.ProtectionPartialEq.TheImpl as protection_eq
use Rattle.book_sessions.specs.AsSent.{is_unset_segment, mended, told_fault}
use Rattle.book_sessions.specs.CutOff.{cut_segment}
use Rattle.book_sessions.specs.Laps.{Judging}
use Rattle.book_sessions.specs.Listening.{Listened, Listening, listen, listening_behind}
use Rattle.book_sessions.specs.OutcomeTexts.{outcome_text}

-- a table of sessions: how many there are, what their segments use, and what was passed over (own)
pub record SessionTable : Type 0 where
  pub sessions : ℕ
  pub uses : List KeyUse
  pub passed : List PassedCount
  pub unset : ℕ  -- how many segments had no header checksum

-- the ids of the one TCP-AO option (RFC 5925, section 2.2)
abbrev pub ids_found : AoFound → Option KeyIds
ids_found (One ao) = Some (record { key_id = ao.key_id; rnext_key_id = ao.rnext_key_id })
ids_found Absent = None
ids_found Two = None
ids_found WithMd5 = None

-- the option is of TCP MD5 (RFC 2385, section 3.0)
abbrev pub is_md5 : Plain → Bool
is_md5 o = o.kind == md5_kind

-- one of the options of an area is of TCP MD5 (RFC 2385, section 3.0)
abbrev pub carries_md5 : List ℕ → Bool
carries_md5 area = list_any is_md5 (plains (listed (options_of area)))

-- how a segment is protected, by what was found of TCP-AO and whether it carries TCP MD5 (RFC 5925,
-- section 2.2, and own)
abbrev pub protection_by : AoFound → (md5 : Bool) → Protection
protection_by (One ao) md5 = protection.Ao
protection_by Two md5 = protection.Unclear
protection_by WithMd5 md5 = protection.Unclear
protection_by Absent md5 = if md5 then protection.Md5 else protection.Plain

-- how a segment with these options is protected (RFC 5925, section 2.2, and own)
abbrev pub protection_of : List ℕ → Protection
protection_of area = protection_by (find_ao area) (carries_md5 area)

-- the control bits that begin or end a connection (RFC 9293, section 3.1)
abbrev pub bits_of : Segment → SeenBits
bits_of d =
    record { syn = has SYN d; ack = has ACK d; fin = has FIN d; rst = has RST d }

-- the initial sequence number that a SYN tells of its sender (RFC 9293, section 3.5)
abbrev pub syn_isns : Segment → FlowIsns
syn_isns d = record { own = d.sequence; peer = None }

-- those of a connection, as its first side sees it (RFC 5925, section 5.2)
abbrev pub isns_of_connection : Connection → FlowIsns
isns_of_connection c = record { own = c.one.isn; peer = Some c.two.isn }

-- the initial sequence numbers of a segment's connection, by the connections that are held once it
-- was heard; a SYN without ACK tells its sender's alone (RFC 5925, section 5.2)
abbrev pub flow_isns : Segment → List Connection → FlowIsns
flow_isns d held = if has SYN d && not (has ACK d) then syn_isns d
    else if same_socket d.source d.destination then syn_isns d
    else unwrap_or (option_map isns_of_connection (connection_between d held)) (syn_isns d)

-- what the check found of a segment that passes, by the connections that are held then; its numbers
-- end at the greatest one (own)
abbrev pub seen_pass : Segment → List Connection → Finding → SeenPass
seen_pass d held p = record {
  row = p.row;
  first = p.number;
  after = min (p.number + segment_length d) number_limit;
  isns = flow_isns d held;
}

-- a segment that was stored, with what is said of it and what was found of it (own)
abbrev pub seen_segment : Stored → Segment → SegmentOutcome → Option SeenPass → SeenSegment
seen_segment s d said pass = record {
  packet = s.number;
  time = s.time;
  source = d.source;
  destination = d.destination;
  ids = ids_found (find_ao d.area);
  protection = protection_of d.area;
  bits = bits_of d;
  outcome = said;
  pass = pass;
}

-- a segment that was cut off, of which nothing was heard; or why bytes with this fault are passed
-- over (own)
abbrev pub seen_cut : Stored → Option Segment → DatagramFault → Result SeenSegment PassedOver
seen_cut s (Some d) fault = Ok (seen_segment s d CutOff None)
seen_cut s None fault = Err (passed.Faulty (told_fault s.bytes fault))

-- the segment that stored bytes are, by what was heard of it, or why they are passed over (own)
abbrev pub seen_as : Stored → Listened → Reading → Result SegmentOutcome DatagramFault →
    Result SeenSegment PassedOver
seen_as s l bytes (Err fault) = seen_cut s (cut_segment s.bytes) fault
seen_as s l (Bad fault) (Ok said) = Err (passed.Faulty fault)
seen_as s l (Read d) (Ok said) =
    Ok (seen_segment s d said (option_map (seen_pass d l.listening.held) l.pass))

-- the same, with what is said of it (own)
abbrev pub seen_by : Stored → Reading → Listened → Result SeenSegment PassedOver
seen_by s bytes l = seen_as s l bytes l.outcome

-- both are none, or the same number (own)
abbrev pub same_id : (one other : Option ℕ) → Bool
same_id None None = true
same_id (Some a) (Some b) = a == b
same_id a b = false

-- both are none, or the same initial sequence numbers (RFC 5925, section 5.2)
abbrev pub same_flow : (one other : Option FlowIsns) → Bool
same_flow None None = true
same_flow (Some a) (Some b) = (a.own == b.own) && same_id a.peer b.peer
same_flow a b = false

-- the same is said of two segments, word for word (own)
abbrev pub same_outcome : SegmentOutcome → SegmentOutcome → Bool
same_outcome one two = bytes_eq (outcome_text one) (outcome_text two)

-- a segment's KeyID (RFC 5925, section 2.2)
abbrev pub key_id_of : SeenSegment → Option ℕ
key_id_of s = option_map (λ ids. ids.key_id) s.ids

-- the KeyID that a segment asks for (RFC 5925, section 7.1)
abbrev pub asked_by : SeenSegment → Option ℕ
asked_by s = option_map (λ ids. ids.rnext_key_id) s.ids

-- the row under which a segment passed (RFC 5925, section 7.5)
abbrev pub passed_row : SeenSegment → Option ℕ
passed_row s = option_map (λ p. p.row) s.pass

-- the initial sequence numbers of the connection of a segment that passed (RFC 5925, section 5.2)
abbrev pub isns_of : SeenSegment → Option FlowIsns
isns_of s = option_map (λ p. p.isns) s.pass

-- a segment goes the way of these (own)
abbrev pub goes_as : SeenSegment → KeyUse → Bool
goes_as s u = same_socket s.source u.source && same_socket s.destination u.destination

-- two segments are protected alike (own)
abbrev pub same_protection : Protection → Protection → Bool
same_protection = (protection_eq.ghosts).eq

-- a segment carries the ids of these, and is protected alike (RFC 5925, section 2.2)
abbrev pub carries_ids_of : SeenSegment → KeyUse → Bool
carries_ids_of s u = (same_id (key_id_of s) u.key_id && same_id (asked_by s) u.asked)
    && same_protection s.protection u.protection

-- a segment passed under the row of these, in their connection, or none of them passed (own)
abbrev pub passed_as : SeenSegment → KeyUse → Bool
passed_as s u = same_id (passed_row s) u.row && same_flow (isns_of s) u.isns

-- a segment is one of these (own)
abbrev pub is_use_of : SeenSegment → KeyUse → Bool
is_use_of s u = goes_as s u
    && (carries_ids_of s u && (same_outcome s.outcome u.outcome && passed_as s u))

-- a segment is between the sockets of these, in either direction (own)
abbrev pub is_session_of : SeenSegment → KeyUse → Bool
is_session_of s u = (same_socket s.source u.source && same_socket s.destination u.destination)
    || (same_socket s.source u.destination && same_socket s.destination u.source)

-- the number of a segment's session, if one is known (own)
abbrev pub session_of : SeenSegment → List KeyUse → Option ℕ
session_of s uses = option_map (λ u. u.session) (find (is_session_of s) uses)

-- both initial sequence numbers are known (RFC 5925, section 5.2)
abbrev pub knows_both : Option FlowIsns → Bool
knows_both None = false
knows_both (Some isns) = is_some isns.peer

-- these passed in the connection of a segment, and go its way (own)
abbrev pub is_flow_of : SeenSegment → KeyUse → Bool
is_flow_of s u = goes_as s u && (knows_both (isns_of s) && same_flow (isns_of s) u.isns)

-- the greater of a number and of another, if there is one (own)
abbrev pub greater_of : ℕ → Option ℕ → ℕ
greater_of n None = n
greater_of n (Some m) = max n m

-- how far the segments in front of this one came that passed in its connection and go its way; none
-- where there are none (RFC 9293, section 3.4)
abbrev pub reached_before : SeenSegment → List KeyUse → Option ℕ
reached_before s [] = None
reached_before s (u ∷ us) = if is_flow_of s u
    then Some (greater_of u.reached (reached_before s us)) else reached_before s us

-- the segment takes numbers past those that were reached: it isn't a SYN, nor an ACK alone, nor one
-- that was seen before (RFC 9293, section 3.4, and own)
abbrev pub goes_past : (reached : ℕ) → SeenBits → SeenPass → Bool
goes_past n bits p = not bits.syn && (nat_lt p.first p.after && nat_lt n p.after)

-- it resets the connection: it is a RST at the number that was reached (RFC 9293, section 3.5.3)
abbrev pub resets_at : (reached : ℕ) → SeenBits → SeenPass → Bool
resets_at n bits p = bits.rst && (p.first == n)

-- what holds of the numbers of a segment that passed, and of how far those in front of it came
-- (own)
abbrev pub if_passed : (ℕ → SeenPass → Bool) → Option ℕ → Option SeenPass → Bool
if_passed holds (Some n) (Some p) = holds n p
if_passed holds reached pass = false

-- what a segment shows, where those in front of it came so far (RFC 9293, section 3.5, and own)
abbrev pub signs_at : Option ℕ → SeenSegment → Signs
signs_at reached s = record {
  moves = if_passed (λ n p. goes_past n s.bits p) reached s.pass;
  resets = if_passed (λ n p. resets_at n s.bits p) reached s.pass;
  finishes = s.bits.fin && if_passed (λ n p. goes_past n s.bits p) reached s.pass;
}

-- what a segment shows behind those that were seen (own)
abbrev pub signs_of : SeenSegment → List KeyUse → Signs
signs_of s uses = signs_at (reached_before s uses) s

-- the number after the last byte of a segment that passed (RFC 9293, section 3.4)
abbrev pub after_of : Option SeenPass → ℕ
after_of None = 0
after_of (Some p) = p.after

-- the number of this packet, where it shows something; else that of the last one that did (own)
abbrev pub marked : Bool → (packet before : ℕ) → ℕ
marked shows packet before = if shows then packet else before

-- the first of its kind, in the session of this number (own)
abbrev pub first_use : ℕ → Signs → SeenSegment → KeyUse
first_use session g s = record {
  session = session;
  source = s.source;
  destination = s.destination;
  key_id = key_id_of s;
  asked = asked_by s;
  protection = s.protection;
  outcome = s.outcome;
  row = passed_row s;
  isns = isns_of s;
  opens = s.bits.syn && s.bits.ack;
  segments = 1;
  first = s.time;
  last = s.time;
  packet = s.packet;
  reached = after_of s.pass;
  moved = marked g.moves s.packet 0;
  reset = marked g.resets s.packet 0;
  finished = marked g.finishes s.packet 0;
}

-- one more of its kind (own)
abbrev pub used_again : Signs → SeenSegment → KeyUse → KeyUse
used_again g s u = record {
  session = u.session;
  source = u.source;
  destination = u.destination;
  key_id = u.key_id;
  asked = u.asked;
  protection = u.protection;
  outcome = u.outcome;
  row = u.row;
  isns = u.isns;
  opens = u.opens || (s.bits.syn && s.bits.ack);
  segments = u.segments + 1;
  first = min u.first s.time;
  last = max u.last s.time;
  packet = s.packet;
  reached = max u.reached (after_of s.pass);
  moved = marked g.moves s.packet u.moved;
  reset = marked g.resets s.packet u.reset;
  finished = marked g.finishes s.packet u.finished;
}

-- a segment of the session of this number, counted (own)
abbrev pub with_use : ℕ → Signs → SeenSegment → List KeyUse → List KeyUse
with_use session g s [] = first_use session g s ∷ []
with_use session g s (u ∷ us) =
    if is_use_of s u then used_again g s u ∷ us else u ∷ with_use session g s us

-- a segment, counted; it begins another session where none is known between its sockets (own)
abbrev pub and_segment : Option ℕ → SeenSegment → SessionTable → SessionTable
and_segment None s t = record {
  sessions = t.sessions + 1;
  uses = with_use (t.sessions + 1) (signs_of s t.uses) s t.uses;
  passed = t.passed;
  unset = t.unset;
}
and_segment (Some session) s t = record {
  sessions = t.sessions;
  uses = with_use session (signs_of s t.uses) s t.uses;
  passed = t.passed;
  unset = t.unset;
}

-- packets are passed over for the same reason (own)
abbrev pub same_reason : PassedOver → PassedOver → Bool
same_reason = (passed_eq.ghosts).eq

-- one more packet that is passed over for this reason (own)
abbrev pub with_passed : PassedOver → List PassedCount → List PassedCount
with_passed why [] = record { why = why; packets = 1 } ∷ []
with_passed why (c ∷ cs) = if same_reason why c.why
    then record { why = c.why; packets = c.packets + 1 } ∷ cs
    else c ∷ with_passed why cs

-- a packet, counted (own)
abbrev pub and_counted : Result SeenSegment PassedOver → SessionTable → SessionTable
and_counted (Ok s) t = and_segment (session_of s t.uses) s t
and_counted (Err why) t =
    record t { passed = with_passed why t.passed }

-- what a packet has that was seen at this time: its datagram at its second; or why it is passed
-- over (own)
abbrev pub captured_by : ℕ → Option ℕ → Result Datagram Skipped → Result Stored PassedOver
captured_by number time (Err why) = Err (passed.NoDatagram why)
captured_by number None (Ok d) = Err passed.NoTime
captured_by number (Some time) (Ok d) =
    Ok (record { number = number; time = time / 1000000000; bytes = judged_bytes d })

-- what a packet has, or why it is passed over (own)
abbrev pub captured_of_packet : CapturePacket → Result Stored PassedOver
captured_of_packet p = captured_by p.number p.frame.time (frame_datagram p.frame)

-- a stored datagram with its header checksum, where that isn't set (own)
abbrev pub mended_of : Stored → Stored
mended_of s = record s { bytes = mended s.bytes }

-- what is judged of what a packet has (own)
abbrev pub judged_of : Result Stored PassedOver → Result Stored PassedOver
judged_of (Err why) = Err why
judged_of (Ok s) = Ok (mended_of s)

-- what is judged of a packet seen at this time, or why it is passed over (own)
abbrev pub stored_by : ℕ → Option ℕ → Result Datagram Skipped → Result Stored PassedOver
stored_by number time found = judged_of (captured_by number time found)

-- what is judged of a packet, or why it is passed over (own)
abbrev pub stored_of_packet : CapturePacket → Result Stored PassedOver
stored_of_packet p = stored_by p.number p.frame.time (frame_datagram p.frame)

-- what a packet has is a segment without a header checksum (own)
abbrev pub has_unset : Result Stored PassedOver → Bool
has_unset (Err why) = false
has_unset (Ok s) = is_unset_segment s.bytes

-- a table that counts one more segment without a header checksum, if there is one (own)
abbrev pub with_unset : (more : Bool) → SessionTable → SessionTable
with_unset more t = record t { unset = if more then t.unset + 1 else t.unset }

-- what a packet has is counted, if it is a segment without a header checksum (own)
abbrev pub and_unset : Result Stored PassedOver → SessionTable → SessionTable
and_unset captured t = with_unset (has_unset captured) t

-- what is judged of a packet, in front of others (own)
abbrev pub stored_before : Result Stored PassedOver → List Stored → List Stored
stored_before (Ok s) others = s ∷ others
stored_before (Err why) others = others

-- what is judged of packets (own)
abbrev pub all_stored : List CapturePacket → List Stored
all_stored [] = []
all_stored (p ∷ ps) = stored_before (stored_of_packet p) (all_stored ps)

-- what packets have, as it was captured (own)
abbrev pub all_captured : List CapturePacket → List Stored
all_captured [] = []
all_captured (p ∷ ps) = stored_before (captured_of_packet p) (all_captured ps)

-- a packet of which this is judged, counted, and then others behind what was heard with it (own)
abbrev pub counted_by : Judging → Listening → SessionTable → Result Stored PassedOver →
    (Listening → SessionTable → SessionTable) → SessionTable
counted_by j l t (Err why) others = others l (and_counted (Err why) t)
counted_by j l t (Ok s) others = let h = listen j l s.time (reading s.bytes) in
    others h.listening (and_counted (seen_by s (reading s.bytes) h) t)

-- these packets, counted behind others (own)
abbrev pub sessions_from : Judging → Listening → SessionTable → List CapturePacket → SessionTable
sessions_from j l t [] = t
sessions_from j l t (p ∷ ps) =
    counted_by j l (and_unset (captured_of_packet p) t) (stored_of_packet p)
    (λ known now. sessions_from j known now ps)

-- a table that counts nothing (own)
abbrev pub no_sessions : SessionTable
no_sessions = record { sessions = 0; uses = []; passed = []; unset = 0 }

-- the sessions of these packets, judged so, behind handshakes with the given initial sequence
-- numbers (own)
unfoldable pub sessions_of : Judging → (given : List GivenIsns) → List CapturePacket → SessionTable
sessions_of j given packets = sessions_from j (listening_behind given) no_sessions packets
