-- An end that may speak knows its peer, so whoever has something to send makes a segment of it, or lacks a row.
use Rattle.std.proofs.Common.{◌≡◌, ℕ, ◌+◌, ◌-◌, ◌≤◌, ◌==◌, Bool, true, false, not, ◌&&◌, ◌||◌, nat_lt, nat_le, List, length, Option, Some, None, Ok, Err, refl, sym, ap, ◌∙◌, subst, if◌then◌else◌, arith}
use Rattle.std.specs.Prelude.{is_some, min, ◌%◌}
use Rattle.book_base.specs.declared.address.Pair.{Pair}
use Rattle.book_segments.specs.Bytes.{ring}
use Rattle.book_segments.specs.Meant.{meant}
use Rattle.book_segments.specs.Received.{below_limit, first_missing, keep, runs}
use Rattle.book_segments.specs.Segments.{Segment, Read, good, has, segment_length, ACK, FIN, RST, SYN}
use Rattle.book_segments.proofs.Fields.{and_tells, eqb_is, lt_is, lt_not}
use Rattle.book_macs.specs.Contexts.{context_of}
use Rattle.book_keys.specs.Coordination.{Sending, choose}
use Rattle.book_keys.specs.Rows.{Row}
use Rattle.book_endpoint.specs.declared.arrival.Arrival.TheVariants.{BadAck, Challenge, Checksum, Closed as AtClosed, Foreign, NoAck, Reset, Taken, Unexpected, Window}
use Rattle.book_endpoint.specs.declared.phase.Phase.{Phase}
use Rattle.book_endpoint.specs.declared.phase.Phase.TheVariants.{CloseWait, Closed, Closing, Established, FinWait1, FinWait2, LastAck, Listen, SynReceived, SynSent, TimeWait}
use Rattle.book_endpoint.specs.States.{EndState, abort, abort_resets, close, close_in, given_end, hears, is_closed, is_due, tick, tick_in, window}
use Rattle.book_endpoint.specs.Verdicts.{Judgement}
use Rattle.book_endpoint.specs.Arrivals.{Arrived, arrive, from_peer, heard, judged_by, syn_ack_alone, syn_alone, unmoved}
use Rattle.book_endpoint.specs.Hearing.{Moved, above, acked, acked_fin, after_own_fin, answered, fin_of, fits_window, told_by_syn, owing, pass_fin, past_fin, records_fin, rested, windowed}
use Rattle.endpoint_steps.specs.Arriving.{acknowledged, after_check, arrive_judged, arrive_read, go_on, hear_data, heard_runs, in_listen, in_syn_sent, ordinary, reset}
use Rattle.book_endpoint.specs.Emissions.{Draft, Emission, Quiet, NoKey, Emits, ack_draft, blank, data_draft, emit, fin_draft, fin_sent, fitting, is_silent, is_syn_received, is_syn_sent, most_bytes, resend, resends, rst_draft, seal_known, sealed, sends_data, sends_fin, syn_ack_draft, syn_draft, unsent, is_blocked, again_draft, fin_again_draft}
use Rattle.endpoint_steps.specs.Drafting.{emitted, keyed, to_emit, to_resend, unacknowledged}
use Rattle.endpoint_steps.proofs.Drafting.{emit_by_drafts, resend_by_drafts}
use Rattle.endpoint_steps.proofs.Arriving.{read_by_cases}
use Rattle.book_stack.specs.Watches.{is_heard}

-- who may speak knows the peer's initial sequence number, nothing is acknowledged that wasn't sent, and a segment has room for bytes
pub record SpeaksOf (phase : Phase) (peer : Option ℕ) (rst : Bool) (una next mss : ℕ) : Type 0 where
  pub known : is_silent phase ≡ false → is_some peer ≡ true
  pub resets : rst ≡ true → is_some peer ≡ true
  pub ahead : una ≤ next
  pub room : 88 ≤ mss

abbrev pub Speaks : EndState → Type 0
Speaks e = SpeaksOf e.phase e.peer_isn e.rst_owed e.una e.next e.mss

-- once the peer is known, all is
pub knowing : (phase : Phase) (peer : Option ℕ) (rst : Bool) (una next mss : ℕ) → is_some peer ≡ true → una ≤ next → 88 ≤ mss → SpeaksOf phase peer rst una next mss
knowing phase peer rst una next mss e le room = record { known = λ s. e; resets = λ r. e; ahead = le; room = room }

-- what is known of the numbers of an end
record Core : Type 0 where
  peer : Option ℕ
  una : ℕ
  next : ℕ
  mss : ℕ

abbrev core : EndState → Core
core e = record { peer = e.peer_isn; una = e.una; next = e.next; mss = e.mss }

-- ---- arrivals

-- what an arrival that passed leaves: it was heard, and the numbers are as they were
record MovedBy (before : EndState) (m : Moved) : Type 0 where
  heard : is_heard m.answer ≡ true
  same : core m.state ≡ core before

rested_peer : (s : EndState) (now : ℕ) (phase : Phase) (o : Option ℕ) → core (rested s now phase o) ≡ core s
rested_peer s now TimeWait None = refl
rested_peer s now _ _ = refl

pass_peer : (s : EndState) (o : Option ℕ) → core (pass_fin s o) ≡ core s
pass_peer s None = refl
pass_peer s (Some f) = at (f == s.expected)
  where
    at : (v : Bool) → (let t : EndState = if v then record s { expected = f + 1; phase = past_fin s.phase } else s in core t) ≡ core s
    at true = refl
    at false = refl

runs_moved : (s : EndState) (kept : ℕ → Option ℕ) (d : Segment) (n now : ℕ) (many : Bool) → MovedBy s (heard_runs s kept d n now many)
runs_moved s kept d n now true = record { heard = refl; same = refl }
runs_moved s kept d n now false =
    let f = n + length d.payload in
    let t = record s {
      received = kept;
      fin = fin_of s.fin (records_fin s kept d f) f;
      ack_owed = true;
      expected = first_missing kept s.expected (window s);
    } in
    let u = pass_fin t t.fin in record { heard = refl; same = rested_peer u now u.phase u.deadline ∙ pass_peer t t.fin }

data_moved : (s : EndState) (d : Segment) (n now : ℕ) (heard : Bool) → MovedBy s (hear_data s d n now heard)
data_moved s d n now false = record { heard = refl; same = rested_peer s now s.phase s.deadline }
data_moved s d n now true =
    let high = s.expected + window s in
    let kept = keep s.received (record { number = n; bytes = d.payload }) (record { low = s.expected; high = below_limit s.fin high }) in
    let at = first_missing kept s.expected (window s) in
    runs_moved s kept d n now (nat_lt 64 (runs kept false at (high - at)))

windowed_peer : (s : EndState) (una : ℕ) (d : Segment) (n : ℕ) (ack : Option ℕ) → core (windowed s una d n ack) ≡ core s
windowed_peer s una d n None = refl
windowed_peer s una d n (Some a) = at (nat_le una a && (nat_lt s.wl1 n || ((s.wl1 == n) && nat_le s.wl2 a)))
  where
    at : (v : Bool) → (let t : EndState = if v then record s { send_window = d.window; wl1 = n; wl2 = a } else s in core t) ≡ core s
    at true = refl
    at false = refl

acked_fin_peer : (s : EndState) (ack : Option ℕ) → core (acked_fin s ack) ≡ core s
acked_fin_peer s ack = at (above ack (s.isn + 1 + length s.given))
  where
    at : (v : Bool) → (let t : EndState = if v then record s { phase = after_own_fin s.phase } else s in core t) ≡ core s
    at true = refl
    at false = refl

on_moved : (s : EndState) (una : ℕ) (d : Segment) (n now : ℕ) (ack : Option ℕ) → MovedBy s (go_on s una d n now ack)
on_moved s una d n now ack =
    let w = windowed s una d n ack in
    let t = acked_fin w ack in
    let m = data_moved t d n now (hears t.phase && (nat_lt 0 (length d.payload) || has FIN d)) in
    record { heard = m.heard; same = m.same ∙ acked_fin_peer w ack ∙ windowed_peer s una d n ack }

-- the same, but that more may be acknowledged of what was sent
record MovedOn (before : EndState) (m : Moved) : Type 0 where
  heard : is_heard m.answer ≡ true
  peer : m.state.peer_isn ≡ before.peer_isn
  ahead : before.una ≤ before.next → m.state.una ≤ m.state.next
  mss : m.state.mss ≡ before.mss

pick_moved : (s : EndState) (v : Bool) (m n : Moved) → (v ≡ true → MovedOn s m) → (v ≡ false → MovedOn s n) → MovedOn s (if v then m else n)
pick_moved s true m n a b = a refl
pick_moved s false m n a b = b refl

-- what an acknowledgement of what was sent leaves
acked_numbers : (s : EndState) (ack : Option ℕ) → above ack s.next ≡ false → s.una ≤ s.next → (acked s ack).una ≤ (acked s ack).next
acked_numbers s None out le = le
acked_numbers s (Some a) out le = at (nat_lt s.una a)
  where
    at : (v : Bool) → (let t : EndState = if v then record s { una = a } else s in t.una) ≤ (let t : EndState = if v then record s { una = a } else s in t.next)
    at true = lt_not s.next a out
    at false = le

acked_peer : (s : EndState) (ack : Option ℕ) → (acked s ack).peer_isn ≡ s.peer_isn
acked_peer s None = refl
acked_peer s (Some a) = at (nat_lt s.una a)
  where
    at : (v : Bool) → (let t : EndState = if v then record s { una = a } else s in t.peer_isn) ≡ s.peer_isn
    at true = refl
    at false = refl

acked_mss : (s : EndState) (ack : Option ℕ) → (acked s ack).mss ≡ s.mss
acked_mss s None = refl
acked_mss s (Some a) = at (nat_lt s.una a)
  where
    at : (v : Bool) → (let t : EndState = if v then record s { una = a } else s in t.mss) ≡ s.mss
    at true = refl
    at false = refl

-- from a state whose numbers are those of another with more acknowledged
of_acked : (s t : EndState) (m : Moved) (ack : Option ℕ) → core t ≡ core (acked s ack) → above ack s.next ≡ false → MovedBy t m → MovedOn s m
of_acked s t m ack is out a =
    let same = a.same ∙ is in record {
      heard = a.heard;
      peer = ap (λ (c : Core). c.peer) same ∙ acked_peer s ack;
      ahead = λ le. subst (λ (c : Core). c.una ≤ c.next) (sym same) (acked_numbers s ack out le);
      mss = ap (λ (c : Core). c.mss) same ∙ acked_mss s ack;
    }

not_tells : (v : Bool) → not v ≡ true → v ≡ false
not_tells true e = absurd (cc)
not_tells false e = refl

acknowledged_moved : (s : EndState) (d : Segment) (n now : ℕ) (ack : Option ℕ) (phase : Phase) → MovedOn s (acknowledged s d n now ack phase)
acknowledged_moved s d n now ack SynReceived =
    let t = record (acked s ack) { phase = Established } in
    pick_moved s (above ack s.una && not (above ack s.next)) (go_on t s.una d n now ack) (answered s BadAck)
    (λ e. of_acked s t (go_on t s.una d n now ack) ack refl (not_tells (above ack s.next) (and_tells (above ack s.una) (not (above ack s.next)) e).1) (on_moved t s.una d n now ack))
    (λ e. record { heard = refl; peer = refl; ahead = λ le. le; mss = refl })
acknowledged_moved s d n now ack _ =
    pick_moved s (above ack s.next) (answered (owing s) BadAck) (go_on (acked s ack) s.una d n now ack) (λ e. record { heard = refl; peer = refl; ahead = λ le. le; mss = refl })
    (λ e. of_acked s (acked s ack) (go_on (acked s ack) s.una d n now ack) ack refl e (on_moved (acked s ack) s.una d n now ack))

stays_on : (s t : EndState) (answer : _) → is_heard answer ≡ true → core t ≡ core s → MovedOn s (answered t answer)
stays_on s t answer heard same = record {
  heard = heard;
  peer = ap (λ (c : Core). c.peer) same;
  ahead = λ le. subst (λ (c : Core). c.una ≤ c.next) (sym same) le;
  mss = ap (λ (c : Core). c.mss) same;
}

reset_moved : (s : EndState) (n : ℕ) → MovedOn s (reset s n)
reset_moved s n =
    pick_moved s (n == s.expected) (answered (record s { phase = Closed }) Reset) (answered (owing s) Challenge)
    (λ e. stays_on s (record s { phase = Closed }) Reset refl refl) (λ e. stays_on s (owing s) Challenge refl refl)

-- from another state with the same numbers
same_moved : (s t : EndState) (m : Moved) → core t ≡ core s → MovedOn t m → MovedOn s m
same_moved s t m is a = record {
  heard = a.heard;
  peer = a.peer ∙ ap (λ (c : Core). c.peer) is;
  ahead = λ le. a.ahead (subst (λ (c : Core). c.una ≤ c.next) (sym is) le);
  mss = a.mss ∙ ap (λ (c : Core). c.mss) is;
}

ordinary_moved : (before heard : EndState) (d : Segment) (n now : ℕ) → core heard ≡ core before → MovedOn before (ordinary before heard d n now)
ordinary_moved before heard d n now e =
    let ack = acknowledged heard d n now (meant d.acknowledgement heard.una) heard.phase in
    let told : Moved = if not (has ACK d) then answered heard NoAck else ack in
    let syn : Moved = if has SYN d then answered (owing heard) Challenge else told in
    pick_moved before (has RST d) (reset before n) syn (λ t. reset_moved before n) (λ t.
    pick_moved before (has SYN d) (answered (owing heard) Challenge) told (λ t. stays_on before (owing heard) Challenge refl e) (λ t.
    pick_moved before (not (has ACK d)) (answered heard NoAck) ack (λ t. stays_on before heard NoAck refl e) (λ t.
    same_moved before heard ack e (acknowledged_moved heard d n now (meant d.acknowledgement heard.una) heard.phase))))

-- what an arrival that passed leaves speaks too, and it was heard
record HeardWell (m : Moved) : Type 0 where
  heard : is_heard m.answer ≡ true
  speaks : Speaks m.state

pick_well : (v : Bool) (m n : Moved) → HeardWell m → HeardWell n → HeardWell (if v then m else n)
pick_well true m n a b = a
pick_well false m n a b = b

of_moved : (s : EndState) (m : Moved) → is_some s.peer_isn ≡ true → s.una ≤ s.next → 88 ≤ s.mss → MovedOn s m → HeardWell m
of_moved s m e le room a = record { heard = a.heard; speaks = knowing m.state.phase m.state.peer_isn m.state.rst_owed m.state.una m.state.next m.state.mss (ap is_some a.peer ∙ e) (a.ahead le) (let same = a.mss in omega (arith, same, room)) }

later_well : (before heard : EndState) (d : Segment) (n now : ℕ) → core heard ≡ core before → is_some before.peer_isn ≡ true → before.una ≤ before.next → 88 ≤ before.mss
    → HeardWell (if fits_window n (segment_length d) before.expected (window before) then ordinary before heard d n now else answered (if has RST d then before else owing before) Window)
later_well before heard d n now e known le room =
    let owed : EndState = if has RST d then before else owing before in
    let out = answered owed Window in
    of_moved before (if fits_window n (segment_length d) before.expected (window before) then ordinary before heard d n now else out) known le room
    (pick_moved before (fits_window n (segment_length d) before.expected (window before)) (ordinary before heard d n now) out (λ t. ordinary_moved before heard d n now e)
    (λ t. stays_on before owed Window refl (owing_core (has RST d))))
  where
    owing_core : (v : Bool) → (let t : EndState = if v then before else owing before in core t) ≡ core before
    owing_core true = refl
    owing_core false = refl

listen_well : (pair : Pair) (before heard : EndState) (d : Segment) (n : ℕ) → heard.una ≤ heard.next → Speaks before → HeardWell (in_listen pair before heard d n)
listen_well pair before heard d n ahead h =
    pick_well (syn_alone d) (answered (record (told_by_syn pair heard d n) { phase = SynReceived }) Taken) (answered before Unexpected)
    (record { heard = refl; speaks = record { known = λ s. refl; resets = λ r. refl; ahead = ahead; room = omega arith } }) (record { heard = refl; speaks = h })

sent_well : (pair : Pair) (before heard : EndState) (d : Segment) (n : ℕ) → heard.next ≡ before.next → Speaks before → HeardWell (in_syn_sent pair before heard d n)
sent_well pair before heard d n same h =
    let open_now = answered (record (told_by_syn pair heard d n) { phase = Established; una = before.isn + 1; wl2 = before.isn + 1; ack_owed = true }) Taken in
    let test = nat_lt before.isn before.next && (d.acknowledgement == (before.isn + 1) % ring) in
    pick_well (not (syn_ack_alone d)) (answered before Unexpected) (if test then open_now else answered before BadAck) (record { heard = refl; speaks = h })
    (by_test test refl)
  where
    numbers : (nat_lt before.isn before.next && (d.acknowledgement == (before.isn + 1) % ring)) ≡ true → before.isn + 1 ≤ heard.next
    numbers e =
        let less = lt_is before.isn before.next (and_tells (nat_lt before.isn before.next) (d.acknowledgement == (before.isn + 1) % ring) e).0 in omega (arith, less, same)

    by_test : (v : Bool) → (nat_lt before.isn before.next && (d.acknowledgement == (before.isn + 1) % ring)) ≡ v
        → HeardWell (if v then answered (record (told_by_syn pair heard d n) { phase = Established; una = before.isn + 1; wl2 = before.isn + 1; ack_owed = true }) Taken else answered before BadAck)
    by_test true e = record { heard = refl; speaks = record { known = λ s. refl; resets = λ r. refl; ahead = numbers e; room = omega arith } }
    by_test false e = record { heard = refl; speaks = h }

check_well : (pair : Pair) (before heard : EndState) (d : Segment) (n now : ℕ) (phase : Phase) → before.phase ≡ phase → is_closed phase ≡ false → core heard ≡ core before → Speaks before
    → HeardWell (after_check pair before heard d n now phase)
check_well pair before heard d n now Listen is live e h = listen_well pair before heard d n (subst (λ (c : Core). c.una ≤ c.next) (sym e) h.ahead) h
check_well pair before heard d n now SynSent is live e h = sent_well pair before heard d n (ap (λ (c : Core). c.next) e) h
check_well pair before heard d n now Closed is live e h = absurd (cc)
check_well pair before heard d n now SynReceived is live e h = later_well before heard d n now e (h.known (ap is_silent is)) h.ahead h.room
check_well pair before heard d n now Established is live e h = later_well before heard d n now e (h.known (ap is_silent is)) h.ahead h.room
check_well pair before heard d n now FinWait1 is live e h = later_well before heard d n now e (h.known (ap is_silent is)) h.ahead h.room
check_well pair before heard d n now FinWait2 is live e h = later_well before heard d n now e (h.known (ap is_silent is)) h.ahead h.room
check_well pair before heard d n now CloseWait is live e h = later_well before heard d n now e (h.known (ap is_silent is)) h.ahead h.room
check_well pair before heard d n now Closing is live e h = later_well before heard d n now e (h.known (ap is_silent is)) h.ahead h.room
check_well pair before heard d n now LastAck is live e h = later_well before heard d n now e (h.known (ap is_silent is)) h.ahead h.room
check_well pair before heard d n now TimeWait is live e h = later_well before heard d n now e (h.known (ap is_silent is)) h.ahead h.room

-- what an arrival leaves: an end that speaks, and the end itself where nothing was heard
pub record ArrivedWell (s : EndState) (a : Arrived) : Type 0 where
  pub unheard : is_heard a.answer ≡ false → a.state ≡ s
  pub speaks : Speaks a.state

judged_well : (rows : List Row) (pair : Pair) (now : ℕ) (s : EndState) (d : Segment) (j : Judgement) → is_closed s.phase ≡ false → Speaks s → ArrivedWell s (arrive_judged rows pair now s d j)
judged_well rows pair now s d (Err why) live h = record { unheard = λ e. refl; speaks = h }
judged_well rows pair now s d (Ok p) live h =
    let m = check_well pair s (heard rows pair now s p.rnext_key_id) d p.number now s.phase refl live refl h in
    let told = m.heard in record { unheard = λ e. absurd (cc); speaks = m.speaks }

read_well : (rows : List Row) (pair : Pair) (now : ℕ) (s : EndState) (d : Segment) → Speaks s → ArrivedWell s (arrive_read rows pair now s (Read d))
read_well rows pair now s d h =
    pick (not (from_peer pair d)) (unmoved s Foreign) _ (λ e. record { unheard = λ e. refl; speaks = h }) (λ e.
    pick (not (good d)) (unmoved s Checksum) _ (λ e. record { unheard = λ e. refl; speaks = h }) (λ e.
    pick (is_closed s.phase) (unmoved s AtClosed) (arrive_judged rows pair now s d (judged_by rows pair now s d)) (λ e. record { unheard = λ e. refl; speaks = h }) (λ live.
    judged_well rows pair now s d (judged_by rows pair now s d) live h)))
  where
    pick : (v : Bool) (a b : Arrived) → (v ≡ true → ArrivedWell s a) → (v ≡ false → ArrivedWell s b) → ArrivedWell s (if v then a else b)
    pick true a b f g = f refl
    pick false a b f g = g refl

pub arrive_well : (rows : List Row) (pair : Pair) (now : ℕ) (s : EndState) (d : Segment) → Speaks s → ArrivedWell s (arrive rows pair now s (Read d))
arrive_well rows pair now s d h = subst (λ (a : Arrived). ArrivedWell s a) (read_by_cases rows pair now s (Read d)) (read_well rows pair now s d h)

-- ---- the calls that make no segment

pub tick_speaks : (now : ℕ) (s : EndState) → Speaks s → Speaks (tick now s)
tick_speaks now s h = at s.phase
  where
    pick : (v : Bool) → Speaks (if v then record s { phase = Closed } else s)
    pick true = record { known = λ e. absurd (cc); resets = h.resets; ahead = h.ahead; room = h.room }
    pick false = h

    at : (phase : Phase) → Speaks (tick_in phase now s)
    at TimeWait = pick (is_due s.deadline now)
    at _ = h

pub close_speaks : (s : EndState) → Speaks s → Speaks (close s)
close_speaks s h = at s.phase
  where
    at : (phase : Phase) → Speaks (close_in phase s)
    at Listen = record { known = λ e. absurd (cc); resets = h.resets; ahead = h.ahead; room = h.room }
    at SynSent = record { known = λ e. absurd (cc); resets = h.resets; ahead = h.ahead; room = h.room }
    at Closed = h
    at _ = record { known = h.known; resets = h.resets; ahead = h.ahead; room = h.room }

aborts_known : (phase : Phase) (sent : Bool) → abort_resets phase sent ≡ true → is_silent phase ≡ false
aborts_known SynReceived sent e = refl
aborts_known Established sent e = refl
aborts_known FinWait1 sent e = refl
aborts_known FinWait2 sent e = refl
aborts_known CloseWait sent e = refl
aborts_known _ sent e = absurd (cc)

or_tells : (a b : Bool) (X : Type 0) → (a ≡ true → X) → (b ≡ true → X) → (a || b) ≡ true → X
or_tells true b X f g e = f refl
or_tells false b X f g e = g e

pub abort_speaks : (s : EndState) → Speaks s → Speaks (abort s)
abort_speaks s h = record {
  known = λ e. absurd (cc);
  resets = or_tells s.rst_owed (abort_resets s.phase (nat_lt s.isn s.next)) (is_some s.peer_isn ≡ true) h.resets (λ e. h.known (aborts_known s.phase (nat_lt s.isn s.next) e));
  ahead = h.ahead;
  room = h.room;
}

-- ---- what is made

-- the state after a draft speaks too
record DraftWell (s : EndState) (out : Draft) : Type 0 where
  peer : out.state.peer_isn ≡ s.peer_isn
  phase : is_silent out.state.phase ≡ false → is_silent s.phase ≡ false
  rst : out.state.rst_owed ≡ true → s.rst_owed ≡ true
  ahead : s.una ≤ s.next → out.state.una ≤ out.state.next
  mss : out.state.mss ≡ s.mss

draft_speaks : (s : EndState) (out : Draft) (current : Option ℕ) → Speaks s → DraftWell s out → Speaks (record (out.state) { current = current })
draft_speaks s out current h w = record { known = λ e. ap is_some w.peer ∙ h.known (w.phase e); resets = λ e. ap is_some w.peer ∙ h.resets (w.rst e); ahead = w.ahead h.ahead; room = (let same = w.mss in omega (arith, same, h.room)) }

abbrev MayDraft : EndState → Option Draft → Type 0
MayDraft s o = (out : Draft) → o ≡ Some out → DraftWell s out

may_none : (s : EndState) → MayDraft s None
may_none s out e = absurd (cc)

may_some : (s : EndState) (x : Draft) → DraftWell s x → MayDraft s (Some x)
may_some s x w out e = let same : x ≡ out = cc in subst (DraftWell s) same w

may_pick : (s : EndState) (v : Bool) (o p : Option Draft) → (v ≡ true → MayDraft s o) → MayDraft s p → MayDraft s (if v then o else p)
may_pick s true o p a b = a refl
may_pick s false o p a b = b

fin_silent : (phase : Phase) → is_silent (fin_sent phase) ≡ false → is_silent phase ≡ false
fin_silent Established e = refl
fin_silent CloseWait e = refl
fin_silent _ e = e

emit_may : (s : EndState) (most : ℕ) → Speaks s → MayDraft s (to_emit s most)
unfolding to_emit
emit_may s most h =
    may_pick s s.rst_owed _ _ (λ t. may_some s (rst_draft s) (record { peer = refl; phase = λ e. e; rst = λ e. absurd (cc); ahead = λ le. le; mss = refl }))
    (may_pick s (is_syn_sent s.phase && (s.next == s.isn)) _ _ (λ t. may_some s (syn_draft s (record s { next = s.isn + 1 })) (record { peer = refl; phase = λ e. e; rst = λ e. e; ahead = λ le. first_number (is_syn_sent s.phase) t le; mss = refl }))
    (may_pick s (is_syn_received s.phase && (s.next == s.isn)) _ _ (λ t. may_some s (syn_ack_draft s (record s { next = s.isn + 1 })) (record { peer = refl; phase = λ e. e; rst = λ e. e; ahead = λ le. first_number (is_syn_received s.phase) t le; mss = refl }))
    (may_pick s (sends_data s) _ _ (λ t. may_some s (data_draft s (fitting s most)) (record { peer = refl; phase = λ e. e; rst = λ e. e; ahead = λ le. omega (arith, le); mss = refl }))
    (may_pick s (sends_fin s) _ _ (λ t. may_some s (fin_draft s) (record { peer = refl; phase = fin_silent s.phase; rst = λ e. e; ahead = λ le. omega (arith, le); mss = refl }))
    (may_pick s (s.ack_owed && not (is_silent s.phase)) _ _ (λ t. may_some s (ack_draft s) (record { peer = refl; phase = λ e. e; rst = λ e. e; ahead = λ le. le; mss = refl })) (may_none s))))))
  where
    first_number : (v : Bool) → (v && (s.next == s.isn)) ≡ true → s.una ≤ s.next → s.una ≤ s.isn + 1
    first_number v t le = let same = eqb_is s.next s.isn (and_tells v (s.next == s.isn) t).1 in omega (arith, same, le)

resend_may : (s : EndState) (most : ℕ) → MayDraft s (to_resend s most)
unfolding to_resend
resend_may s most =
    may_pick s (is_syn_sent s.phase && nat_lt s.isn s.next) _ _ (λ t. may_some s (syn_draft s s) (record { peer = refl; phase = λ e. e; rst = λ e. e; ahead = λ le. le; mss = refl }))
    (may_pick s (is_syn_received s.phase && nat_lt s.isn s.next) _ _ (λ t. may_some s (syn_ack_draft s s) (record { peer = refl; phase = λ e. e; rst = λ e. e; ahead = λ le. le; mss = refl }))
    (may_pick s (resends s.phase && nat_lt s.una s.next) _ _ (λ t. may_some s (unacknowledged s most) (again (nat_lt s.una (given_end s))))
    (may_pick s (is_blocked s) _ _ (λ t. may_pick s (nat_lt 0 (unsent s)) _ _ (λ t. may_some s (data_draft s 1) (record { peer = refl; phase = λ e. e; rst = λ e. e; ahead = λ le. omega (arith, le); mss = refl }))
    (may_pick s s.closing _ _ (λ t. may_some s (fin_draft s) (record { peer = refl; phase = fin_silent s.phase; rst = λ e. e; ahead = λ le. omega (arith, le); mss = refl })) (may_none s))) (may_none s))))
  where
    again : (v : Bool) → DraftWell s (if v then again_draft s (min (s.next - s.una) most) else fin_again_draft s)
    again true = record { peer = refl; phase = λ e. e; rst = λ e. e; ahead = λ le. le; mss = refl }
    again false = record { peer = refl; phase = λ e. e; rst = λ e. e; ahead = λ le. le; mss = refl }

known_speaks : (pair : Pair) (s : EndState) (d : Draft) (sending : Sending) (o : Option (List ℕ)) (out : Emission) → Speaks s → DraftWell s d → seal_known pair s d sending o ≡ Emits out → Speaks out.state
known_speaks pair s d sending None out h w e = absurd (cc)
known_speaks pair s d sending (Some context) out h w e =
    let same : sealed pair s d sending context ≡ out = cc in subst (λ (x : Emission). Speaks x.state) same (draft_speaks s d (Some sending.number) h w)

keyed_speaks : (pair : Pair) (s : EndState) (sending : Sending) (o : Option Draft) (out : Emission) → Speaks s → MayDraft s o → keyed pair s sending o ≡ Emits out → Speaks out.state
keyed_speaks pair s sending None out h may e = absurd (cc)
keyed_speaks pair s sending (Some d) out h may e = known_speaks pair s d sending (context_of (blank pair s d sending) (Some s.isn) s.peer_isn) out h (may d refl) e

emitted_speaks : (pair : Pair) (s : EndState) (draft : ℕ → Option Draft) (o : Option Sending) (out : Emission) → Speaks s → ((most : ℕ) → MayDraft s (draft most)) → emitted pair s draft o ≡ Emits out → Speaks out.state
emitted_speaks pair s draft None out h may e = no_key (is_some (draft 0)) e
  where
    no_key : (v : Bool) → (if v then NoKey else Quiet) ≡ Emits out → Speaks out.state
    no_key true e = absurd (cc)
    no_key false e = absurd (cc)
emitted_speaks pair s draft (Some sending) out h may e = keyed_speaks pair s sending (draft (most_bytes pair s sending)) out h (may (most_bytes pair s sending)) e

pub emit_speaks : (rows : List Row) (pair : Pair) (now : ℕ) (s : EndState) (out : Emission) → Speaks s → emit rows pair now s ≡ Emits out → Speaks out.state
emit_speaks rows pair now s out h e = emitted_speaks pair s (to_emit s) (choose s.current rows pair now) out h (λ most. emit_may s most h) (sym (emit_by_drafts rows pair now s) ∙ e)

pub resend_speaks : (rows : List Row) (pair : Pair) (now : ℕ) (s : EndState) (out : Emission) → Speaks s → resend rows pair now s ≡ Emits out → Speaks out.state
resend_speaks rows pair now s out h e = emitted_speaks pair s (to_resend s) (choose s.current rows pair now) out h (resend_may s) (sym (resend_by_drafts rows pair now s) ∙ e)
