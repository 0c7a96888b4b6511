-- An arrival as steps, each of which takes what the one before it found: the form over which the
-- proofs of ends and runs go.
use Rattle.std.specs.Prelude.{ℕ, ◌+◌, ◌-◌, ◌%◌, ◌==◌, nat_lt, Bool, true, false, not, ◌&&◌, ◌||◌, List, length, Option, Ok, Err, if◌then◌else◌}
use Rattle.book_base.specs.declared.address.Pair.{Pair}
use Rattle.book_segments.specs.Bytes.{ring}
use Rattle.book_segments.specs.Meant.{meant}
use Rattle.book_segments.specs.Received.{keep, first_missing, runs, most_runs, below_limit}
use Rattle.book_segments.specs.Segments.{Segment, Reading, Read, Bad as Unread, good, has, FIN, SYN, RST, ACK, segment_length}
use Rattle.book_keys.specs.Rows.{Row}
use Rattle.book_endpoint.specs.declared.arrival.Arrival.TheVariants.{Bad, Foreign, Checksum, Closed as AtClosed, Refused, Unexpected, Window, Challenge}
use Rattle.book_endpoint.specs.declared.arrival.Arrival.TheVariants.{NoAck, BadAck, TooManyRuns, Reset, Taken}
use Rattle.book_endpoint.specs.declared.phase.Phase.{Phase}
use Rattle.book_endpoint.specs.declared.phase.Phase.TheVariants.{Listen, SynSent, SynReceived, Established, Closed}
use Rattle.book_endpoint.specs.Verdicts.{Judgement}
use Rattle.book_endpoint.specs.States.{EndState, window, is_closed, hears}
use Rattle.book_endpoint.specs.Hearing.{Moved, answered, owing, above, fits_window, finish, fin_of, pass_fin, records_fin, acked, windowed, acked_fin, told_by_syn}
use Rattle.book_endpoint.specs.Arrivals.{Arrived, unmoved, passes, heard, judged_by, from_peer, syn_alone, syn_ack_alone}

-- The bytes are kept and a FIN is recorded, unless too many separate runs would arise; RCV.NXT
-- moves to the first missing number (RFC 9293, section 3.10.7.4; the limit of runs: own).
abbrev pub heard_runs : EndState → (ℕ → Option ℕ) → Segment → (number now : ℕ) → Bool → Moved
heard_runs s kept d n now true = answered (owing s) TooManyRuns
heard_runs s kept d n now false =
    let f = n + length d.payload in
    let t = record s {
      received = kept;
      fin = fin_of s.fin (records_fin s kept d f) f;
      ack_owed = true;
      expected = first_missing kept s.expected (window s);
    } in
    finish (pass_fin t t.fin) now

-- Payload and FIN, where they are heard: bytes in the window and before a recorded FIN that aren't
-- kept yet are kept (RFC 9293, section 3.10.7.4).
abbrev pub hear_data : EndState → Segment → (number now : ℕ) → Bool → Moved
hear_data s d n now false = finish s now
hear_data s d n now true =
    let high = s.expected + window s in
    let kept = keep s.received (record { number = n; bytes = d.payload })
    (record { low = s.expected; high = below_limit s.fin high }) in
    let at = first_missing kept s.expected (window s) in
    heard_runs s kept d n now (nat_lt most_runs (runs kept false at (high - at)))

-- Window, own FIN, and then payload and FIN where the phase hears them (RFC 9293, section
-- 3.10.7.4).
abbrev pub go_on : EndState → ℕ → Segment → (number now : ℕ) → Option ℕ → Moved
go_on s old_una d n now ack =
    let t = acked_fin (windowed s old_una d n ack) ack in
    hear_data t d n now (hears t.phase && (nat_lt 0 (length d.payload) || has FIN d))

-- The acknowledgement, by the phase (RFC 9293, section 3.10.7.4, "check the ACK field").
abbrev pub acknowledged : EndState → Segment → (number now : ℕ) → Option ℕ → Phase → Moved
acknowledged s d n now ack SynReceived =
    if above ack s.una && not (above ack s.next)
    then go_on (record (acked s ack) { phase = Established }) s.una d n now ack
    else answered s BadAck
acknowledged s d n now ack _ =
    if above ack s.next then answered (owing s) BadAck
    else go_on (acked s ack) s.una d n now ack

-- A RST resets at RCV.NXT alone (RFC 5961, section 3.2), also in SYN-RECEIVED after a passive open
-- (own).
abbrev pub reset : EndState → ℕ → Moved
reset s n =
    if n == s.expected then answered (record s { phase = Closed }) Reset
    else answered (owing s) Challenge

-- An acceptable segment: its RST, its SYN, its ACK, in this order (RFC 9293, section 3.10.7.4; RFC
-- 5961, sections 3.2 and 4.2). `heard` is the state once the RNextKeyID is heard; a RST leaves
-- `before`.
abbrev pub ordinary : (before heard : EndState) → Segment → (number now : ℕ) → Moved
ordinary before heard d n now =
    if has RST d then reset before n
    else (if has SYN d then answered (owing heard) Challenge
    else (if not (has ACK d) then answered heard NoAck
    else acknowledged heard d n now (meant d.acknowledgement heard.una) heard.phase))

-- In LISTEN a SYN alone is heard (RFC 9293, section 3.10.7.2); all else leaves `before`.
abbrev pub in_listen : Pair → (before heard : EndState) → Segment → ℕ → Moved
in_listen pair before heard d n =
    if syn_alone d then answered (record (told_by_syn pair heard d n) { phase = SynReceived }) Taken
    else answered before Unexpected

-- In SYN-SENT a SYN with the ACK of the own SYN is heard (RFC 9293, section 3.10.7.3); all else
-- leaves `before`.
abbrev pub in_syn_sent : Pair → (before heard : EndState) → Segment → ℕ → Moved
in_syn_sent pair before heard d n =
    if not (syn_ack_alone d) then answered before Unexpected
    else (if nat_lt before.isn before.next && (d.acknowledgement == (before.isn + 1) % ring)
    then answered (record (told_by_syn pair heard d n) {
      phase = Established;
      una = before.isn + 1;
      wl2 = before.isn + 1;
      ack_owed = true;
    }) Taken
    else answered before BadAck)

-- A segment that passed, by the phase (RFC 9293, sections 3.10.7.2 to 3.10.7.4): `before` is the
-- state at its arrival, `heard` that state once the RNextKeyID is heard. What isn't acceptable
-- leaves `before`, and an ACK is owed unless it is a RST.
abbrev pub after_check :
    Pair → (before heard : EndState) → Segment → (number now : ℕ) → Phase → Moved
after_check pair before heard d n now Listen = in_listen pair before heard d n
after_check pair before heard d n now SynSent = in_syn_sent pair before heard d n
after_check pair before heard d n now _ =
    if fits_window n (segment_length d) before.expected (window before)
    then ordinary before heard d n now
    else answered (if has RST d then before else owing before) Window

-- A segment with what the check says of it: a refusal changes nothing (RFC 5925, section 7.5).
abbrev pub arrive_judged : List Row → Pair → ℕ → EndState → Segment → Judgement → Arrived
arrive_judged rows pair now s d (Err why) = unmoved s (Refused why)
arrive_judged rows pair now s d (Ok p) =
    passes s p (after_check pair s (heard rows pair now s p.rnext_key_id) d p.number now s.phase)

-- A datagram: its fault, its sockets, its checksum, the end's phase, the verdict, in this order
-- (RFC 9293, sections 3.1 and 3.10.7; RFC 5925, section 7.5; the order: own).
abbrev pub arrive_read : List Row → Pair → ℕ → EndState → Reading → Arrived
arrive_read rows pair now s (Unread fault) = unmoved s (Bad fault)
arrive_read rows pair now s (Read d) =
    if not (from_peer pair d) then unmoved s Foreign
    else (if not (good d) then unmoved s Checksum
    else (if is_closed s.phase then unmoved s AtClosed
    else arrive_judged rows pair now s d (judged_by rows pair now s d)))

-- An arrival, step by step (RFC 9293, section 3.10.7).
unfoldable pub arrive_by_steps : List Row → Pair → ℕ → EndState → Reading → Arrived
arrive_by_steps rows pair now s r = arrive_read rows pair now s r
