-- What an arriving datagram does to an end, as one table of cases, each a guard and what follows
-- from it, in the order in which they are tried (RFC 9293, section 3.10.7, in a profile). Its top:
-- `arrive`.
use Rattle.std.specs.Prelude.{ℕ, ◌+◌, ◌-◌, ◌%◌, ◌==◌, nat_lt, Bool, true, false, not, ◌&&◌}
use Rattle.std.specs.Prelude.{◌||◌, List, length, Option, Some, None, Ok, Err, if◌then◌else◌}
use Rattle.book_base.specs.declared.address.Pair.{Pair}
use Rattle.book_segments.specs.Bytes.{ring}
use Rattle.book_segments.specs.Meant.{meant}
use Rattle.book_segments.specs.Received.{Piece, keep, first_missing, runs, most_runs, below_limit}
use Rattle.book_segments.specs.Sockets.{same_socket}
use Rattle.book_segments.specs.Segments.{Segment, Reading, Read, Bad as Unread, good, has, FIN, SYN}
use Rattle.book_segments.specs.Segments.{RST, ACK, segment_length}
use Rattle.book_keys.specs.Rows.{Row}
use Rattle.book_keys.specs.Coordination.{follow}
use Rattle.book_endpoint.specs.declared.arrival.Arrival.{Arrival}
use Rattle.book_endpoint.specs.declared.arrival.Arrival.TheVariants.{Bad, Foreign, Checksum}
use Rattle.book_endpoint.specs.declared.arrival.Arrival.TheVariants.{Closed as AtClosed, Refused}
use Rattle.book_endpoint.specs.declared.arrival.Arrival.TheVariants.{Unexpected, Window, Challenge}
use Rattle.book_endpoint.specs.declared.arrival.Arrival.TheVariants.{NoAck, BadAck, TooManyRuns}
use Rattle.book_endpoint.specs.declared.arrival.Arrival.TheVariants.{Reset, Taken}
use Rattle.book_endpoint.specs.declared.phase.Phase.{Phase}
use Rattle.book_endpoint.specs.declared.phase.Phase.TheVariants.{Listen, SynSent, SynReceived}
use Rattle.book_endpoint.specs.declared.phase.Phase.TheVariants.{Established, Closed}
use Rattle.book_endpoint.specs.Verdicts.{Finding, Judgement, Known, judge}
use Rattle.book_endpoint.specs.States.{EndState, window, is_closed, hears}
use Rattle.book_endpoint.specs.Emissions.{is_syn_received}
use Rattle.book_endpoint.specs.Hearing.{Moved, answered, owing, above, fits_window, finish, fin_of}
use Rattle.book_endpoint.specs.Hearing.{pass_fin, records_fin, acked, windowed, acked_fin}
use Rattle.book_endpoint.specs.Hearing.{told_by_syn}

-- The state after an arrival, the answer, and what passed the check (own).
pub record Arrived : Type 0 where
  pub state : EndState
  pub answer : Arrival
  pub passed : Option Finding

-- Nothing changes, and nothing passed (own).
abbrev pub unmoved : EndState → Arrival → Arrived
unmoved s answer = record { state = s; answer = answer; passed = None }

-- A segment that passed, with its answer (own).
abbrev pub passes : EndState → Finding → Moved → Arrived
passes s p moved = record { state = moved.state; answer = moved.answer; passed = Some p }

-- The state once an RNextKeyID is heard (RFC 5925, section 7.5).
abbrev pub heard : List Row → Pair → ℕ → EndState → ℕ → EndState
heard rows pair now s id = record s { current = follow s.current rows pair id now }

-- The number expected, once the peer's initial sequence number is known (own).
abbrev pub number_expected : EndState → Option ℕ → Option ℕ
number_expected s None = None
number_expected s (Some peer) = Some s.expected

-- What an end knows of the numbers of its connection (RFC 5925, sections 5.2 and 6.2).
abbrev pub numbers_known : EndState → Known
numbers_known s = record {
  own_isn = s.isn;
  peer_isn = s.peer_isn;
  expected = number_expected s s.peer_isn;
}

-- The verdict of an end on a segment at a time (RFC 5925, section 7.5).
abbrev pub judged_by : List Row → Pair → ℕ → EndState → Segment → Judgement
judged_by rows pair now s d = judge rows pair (numbers_known s) now d

-- The sockets are the pair's, seen from the other end (RFC 9293, section 3.10.7).
abbrev pub from_peer : Pair → Segment → Bool
from_peer pair d = same_socket d.source pair.remote && same_socket d.destination pair.local

-- A SYN without ACK, RST and FIN (own).
abbrev pub syn_alone : Segment → Bool
syn_alone d = has SYN d && not (has ACK d) && not (has RST d) && not (has FIN d)

-- A SYN with ACK, without RST and FIN (own).
abbrev pub syn_ack_alone : Segment → Bool
syn_ack_alone d = has SYN d && has ACK d && not (has RST d) && not (has FIN d)

-- A segment that passed the check, as it comes to an end (own).
pub record Admitted : Type 0 where
  pub segment : Segment
  pub number : ℕ  -- the number of its first byte
  pub before : EndState  -- the end before the RNextKeyID of the segment is heard
  pub after : EndState  -- the end once it is heard (RFC 5925, section 7.5)
  pub now : ℕ  -- when it comes, in seconds

-- What a segment acknowledges, near SND.UNA; nothing where that is below 0 (RFC 9293, section 3.4).
abbrev pub acknowledges : Admitted → Option ℕ
acknowledges i = meant i.segment.acknowledgement i.after.una

-- The segment is acceptable: it touches the window (RFC 9293, section 3.4).
abbrev pub is_acceptable : Admitted → Bool
is_acceptable i =
    fits_window i.number (segment_length i.segment) i.before.expected (window i.before)

-- The acknowledgement is of the own SYN, which was sent (RFC 9293, section 3.10.7.3).
abbrev pub acknowledges_syn : Admitted → Bool
acknowledges_syn i =
    nat_lt i.before.isn i.before.next
    && (i.segment.acknowledgement == (i.before.isn + 1) % ring)

-- The acknowledgement is of something that was sent: in SYN-RECEIVED above SND.UNA, in each phase
-- not above SND.NXT (RFC 9293, section 3.10.7.4, "check the ACK field").
abbrev pub acknowledges_sent : Admitted → Bool
acknowledges_sent i =
    (above (acknowledges i) i.after.una || not (is_syn_received i.after.phase))
    && not (above (acknowledges i) i.after.next)

-- The phase once the own SYN is acknowledged (RFC 9293, section 3.10.7.4).
abbrev pub past_handshake : Phase → Phase
past_handshake SynReceived = Established
past_handshake phase = phase

-- The end once the acknowledgement is taken: SYN-RECEIVED is left, SND.UNA moves, then the peer's
-- window is told, then the own FIN may be acknowledged (RFC 9293, section 3.10.7.4, "check the ACK
-- field").
abbrev pub acknowledged_state : Admitted → EndState
acknowledged_state i =
    let moved = record (acked i.after (acknowledges i)) { phase = past_handshake i.after.phase } in
    let told = windowed moved i.after.una i.segment i.number (acknowledges i) in
    acked_fin told (acknowledges i)

-- Text and FIN are heard by an end: the bytes in the window, and before a FIN that is recorded,
-- that aren't kept yet are kept, unless too many separate runs would arise; a FIN is recorded where
-- it is in the window, none is recorded yet, and no byte at its number or past it is kept; RCV.NXT
-- moves to the first byte that is missing, and past the FIN where it comes to it (RFC 9293, section
-- 3.10.7.4, "process the segment text" and "check the FIN bit"; the limit of runs, and which FIN is
-- recorded: own).
abbrev pub hear_text : Admitted → EndState → Moved
hear_text i s =
    let d = i.segment in
    let end = s.expected + window s in
    let text : Piece = record { number = i.number; bytes = d.payload } in
    let kept = keep s.received text (record { low = s.expected; high = below_limit s.fin end }) in
    let missing = first_missing kept s.expected (window s) in
    let fin_at = i.number + length d.payload in
    let fin = fin_of s.fin (records_fin s kept d fin_at) fin_at in
    let filled = record s { received = kept; fin = fin; ack_owed = true; expected = missing } in
    if nat_lt most_runs (runs kept false missing (end - missing))
    then answered (owing s) TooManyRuns
    else finish (pass_fin filled fin) i.now

-- There is text or FIN, in a phase that hears them (RFC 9293, section 3.10.7.4).
abbrev pub has_text : EndState → Segment → Bool
has_text s d = hears s.phase && (nat_lt 0 (length d.payload) || has FIN d)

-- In LISTEN: a SYN alone is heard, and all else is unexpected (RFC 9293, section 3.10.7.2).
abbrev pub listen_cases : Pair → Admitted → Moved
listen_cases pair i =
    let told = told_by_syn pair i.after i.segment i.number in
    if not (syn_alone i.segment) then answered i.before Unexpected
    else answered (record told { phase = SynReceived }) Taken

-- In SYN-SENT: a SYN with the ACK of the own SYN is heard, with another it is a bad one, and all
-- else is unexpected (RFC 9293, section 3.10.7.3).
abbrev pub syn_sent_cases : Pair → Admitted → Moved
syn_sent_cases pair i =
    let told = told_by_syn pair i.after i.segment i.number in
    let acknowledged = i.before.isn + 1 in
    if not (syn_ack_alone i.segment) then answered i.before Unexpected
    else if not (acknowledges_syn i) then answered i.before BadAck
    else answered (record told {
      phase = Established;
      una = acknowledged;
      wl2 = acknowledged;
      ack_owed = true;
    }) Taken

-- In all other phases, in this order: out of the window, a RST at RCV.NXT, a RST elsewhere, a SYN,
-- no ACK, a bad ACK, of which no ACK is owed in SYN-RECEIVED; then what is acknowledged is taken,
-- and text and FIN are heard (RFC 9293, section 3.10.7.4). The RNextKeyID of a segment that is out
-- of the window, and of a RST, isn't heard (own).
abbrev pub other_cases : Admitted → Moved
other_cases i =
    let d = i.segment in
    let taken = acknowledged_state i in
    if not (is_acceptable i)  -- RFC 9293, section 3.10.7.4, "check sequence number"
    then answered (if has RST d then i.before else owing i.before) Window
    else if has RST d && (i.number == i.before.expected)  -- RFC 5961, section 3.2
    then answered (record (i.before) { phase = Closed }) Reset
    else if has RST d then answered (owing i.before) Challenge  -- RFC 5961, section 3.2
    else if has SYN d then answered (owing i.after) Challenge  -- RFC 5961, section 4.2
    else if not (has ACK d) then answered i.after NoAck  -- RFC 9293, "check the ACK field"
    else if not (acknowledges_sent i)  -- RFC 9293, "check the ACK field"
    then answered (if is_syn_received i.after.phase then i.after else owing i.after) BadAck
    else if has_text taken d then hear_text i taken  -- RFC 9293, "process the segment text"
    else finish taken i.now  -- RFC 9293, "check the ACK field" alone

-- A segment that passed, by the phase of the end at its arrival (RFC 9293, sections 3.10.7.2 to
-- 3.10.7.4).
abbrev pub cases_in : Pair → Phase → Admitted → Moved
cases_in pair Listen i = listen_cases pair i
cases_in pair SynSent i = syn_sent_cases pair i
cases_in pair _ i = other_cases i

-- What the check says comes first: a refusal changes nothing, and what passes goes on (RFC 5925,
-- section 7.5).
abbrev pub checked : EndState → (Finding → Moved) → Judgement → Arrived
checked s onward (Err why) = unmoved s (Refused why)
checked s onward (Ok p) = passes s p (onward p)

-- An arrival, in this order: no datagram, other sockets, a wrong checksum, a closed end, what the
-- check says, and then the phase (RFC 9293, sections 3.1 and 3.10.7; RFC 5925, section 7.5; the
-- order: own).
unfoldable pub arrive : List Row → Pair → ℕ → EndState → Reading → Arrived
arrive rows pair now s (Unread fault) = unmoved s (Bad fault)  -- RFC 9293, section 3.1
arrive rows pair now s (Read d) =
    if not (from_peer pair d) then unmoved s Foreign  -- RFC 9293, section 3.10.7
    else if not (good d) then unmoved s Checksum  -- RFC 9293, section 3.1
    else if is_closed s.phase then unmoved s AtClosed  -- RFC 9293, section 3.10.7.1
    else checked s  -- RFC 5925, section 7.5
    (λ p. cases_in pair s.phase (record {
      segment = d;
      number = p.number;
      before = s;
      after = heard rows pair now s p.rnext_key_id;
      now = now;
    }))
    (judged_by rows pair now s d)
