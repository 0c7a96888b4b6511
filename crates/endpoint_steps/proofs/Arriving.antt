-- The table of the cases of an arrival is its steps.
use Rattle.std.proofs.Common.{◌≡◌, ℕ, ◌+◌, ◌-◌, ◌%◌, ◌==◌, nat_lt, Bool, true, false, not, ◌&&◌, ◌||◌, List, length, Option, Some, None, Ok, Err, if◌then◌else◌, refl, sym, ap, ◌∙◌}
use Rattle.book_base.specs.declared.address.Pair.{Pair}
use Rattle.book_segments.specs.Meant.{meant}
use Rattle.book_segments.specs.Bytes.{ring}
use Rattle.book_segments.specs.Received.{keep, first_missing, runs, most_runs, below_limit}
use Rattle.book_segments.specs.Segments.{Segment, Reading, Read, Bad as Unread, good, has, SYN, RST, ACK, segment_length}
use Rattle.book_keys.specs.Rows.{Row}
use Rattle.book_endpoint.specs.declared.arrival.Arrival.TheVariants.{Window, BadAck, TooManyRuns, Unexpected}
use Rattle.book_endpoint.specs.declared.phase.Phase.{Phase}
use Rattle.book_endpoint.specs.declared.phase.Phase.TheVariants.{Listen, SynSent, SynReceived, Established, FinWait1, FinWait2, CloseWait, Closing, LastAck, TimeWait, Closed}
use Rattle.book_endpoint.specs.Verdicts.{Finding, Judgement}
use Rattle.book_endpoint.specs.States.{EndState, window, is_closed}
use Rattle.book_endpoint.specs.Emissions.{is_syn_received}
use Rattle.book_endpoint.specs.Hearing.{Moved, answered, owing, above, fits_window, acked, windowed, acked_fin, pass_fin, finish, fin_of, records_fin}
use Rattle.book_endpoint.specs.Arrivals.{Arrived, Admitted, passes, from_peer, heard, judged_by, syn_alone, syn_ack_alone, past_handshake, hear_text, has_text, other_cases, cases_in, checked, arrive}
use Rattle.endpoint_steps.specs.Arriving.{heard_runs, hear_data, go_on, acknowledged, ordinary, after_check, arrive_judged, arrive_read, arrive_by_steps}

-- ---- text and FIN

-- the text of such a segment, heard by an end
abbrev text : EndState → Segment → ℕ → ℕ → Moved
text s d n now = hear_text (record { segment = d; number = n; before = s; after = s; now = now }) s

runs_are : (s : EndState) (kept : ℕ → Option ℕ) (d : Segment) (n now : ℕ) (many : Bool)
    → heard_runs s kept d n now many
    ≡ (if many then answered (owing s) TooManyRuns
    else finish (pass_fin (record s {
      received = kept;
      fin = fin_of s.fin (records_fin s kept d (n + length d.payload)) (n + length d.payload);
      ack_owed = true;
      expected = first_missing kept s.expected (window s);
    }) (fin_of s.fin (records_fin s kept d (n + length d.payload)) (n + length d.payload))) now)
runs_are s kept d n now true = refl
runs_are s kept d n now false = refl

text_is : (s : EndState) (d : Segment) (n now : ℕ) (hears : Bool) → hear_data s d n now hears ≡ (if hears then text s d n now else finish s now)
text_is s d n now false = refl
text_is s d n now true =
    let high = s.expected + window s in
    let kept = keep s.received (record { number = n; bytes = d.payload }) (record { low = s.expected; high = below_limit s.fin high }) in
    let at = first_missing kept s.expected (window s) in
    runs_are s kept d n now (nat_lt most_runs (runs kept false at (high - at)))

-- ---- what is acknowledged

-- once the acknowledgement was looked at, in a phase
abbrev onward : EndState → Segment → ℕ → ℕ → Option ℕ → Phase → Moved
onward s d n now ack phase =
    let taken = acked_fin (windowed (record (acked s ack) { phase = past_handshake phase }) s.una d n ack) ack in
    if not ((above ack s.una || not (is_syn_received phase)) && not (above ack s.next))
    then answered (if is_syn_received phase then s else owing s) BadAck
    else if has_text taken d then text taken d n now
    else finish taken now

going_is : (t : EndState) (una : ℕ) (d : Segment) (n now : ℕ) (ack : Option ℕ)
    → go_on t una d n now ack ≡ (if has_text (acked_fin (windowed t una d n ack) ack) d then text (acked_fin (windowed t una d n ack) ack) d n now else finish (acked_fin (windowed t una d n ack) ack) now)
going_is t una d n now ack =
    let taken = acked_fin (windowed t una d n ack) ack in
    text_is taken d n now (has_text taken d)

acked_phase : (s : EndState) (ack : Option ℕ) → (acked s ack).phase ≡ s.phase
acked_phase s None = refl
acked_phase s (Some a) = by_bool (nat_lt s.una a)
  where
    by_bool : (b : Bool) → (if b then record s { una = a } else s).phase ≡ s.phase
    by_bool true = refl
    by_bool false = refl

received_is : (sent over : Bool) (s : EndState) (x y : Moved) → x ≡ y
    → (if sent && not over then x else answered s BadAck) ≡ (if not ((sent || false) && not over) then answered s BadAck else y)
received_is true true s x y e = refl
received_is true false s x y e = e
received_is false over s x y e = refl

elsewhere_is : (sent over : Bool) (s : EndState) (x y : Moved) → x ≡ y
    → (if over then answered (owing s) BadAck else x) ≡ (if not ((sent || true) && not over) then answered (owing s) BadAck else y)
elsewhere_is true true s x y e = refl
elsewhere_is true false s x y e = e
elsewhere_is false true s x y e = refl
elsewhere_is false false s x y e = e

module _ (s : EndState) (d : Segment) (n now : ℕ) (ack : Option ℕ) where
  -- the state with this phase goes on
  abbrev goes : EndState → Moved
  goes t = let taken = acked_fin (windowed t s.una d n ack) ack in if has_text taken d then text taken d n now else finish taken now

  -- the state that has this phase already goes on
  stays_in : (phase : Phase) → s.phase ≡ phase → go_on (acked s ack) s.una d n now ack ≡ goes (record (acked s ack) { phase = phase })
  stays_in phase e = going_is (acked s ack) s.una d n now ack ∙ ap (λ p. goes (record (acked s ack) { phase = p })) (acked_phase s ack ∙ e)

  elsewhere : (phase : Phase) → s.phase ≡ phase
      → (if above ack s.next then answered (owing s) BadAck else go_on (acked s ack) s.una d n now ack)
      ≡ (if not ((above ack s.una || true) && not (above ack s.next)) then answered (owing s) BadAck else goes (record (acked s ack) { phase = phase }))
  elsewhere phase e = elsewhere_is (above ack s.una) (above ack s.next) s _ _ (stays_in phase e)

  acknowledged_is : (phase : Phase) → s.phase ≡ phase → acknowledged s d n now ack phase ≡ onward s d n now ack phase
  acknowledged_is SynReceived e = received_is (above ack s.una) (above ack s.next) s _ _ (going_is (record (acked s ack) { phase = Established }) s.una d n now ack)
  acknowledged_is Listen e = elsewhere Listen e
  acknowledged_is SynSent e = elsewhere SynSent e
  acknowledged_is Established e = elsewhere Established e
  acknowledged_is FinWait1 e = elsewhere FinWait1 e
  acknowledged_is FinWait2 e = elsewhere FinWait2 e
  acknowledged_is CloseWait e = elsewhere CloseWait e
  acknowledged_is Closing e = elsewhere Closing e
  acknowledged_is LastAck e = elsewhere LastAck e
  acknowledged_is TimeWait e = elsewhere TimeWait e
  acknowledged_is Closed e = elsewhere Closed e

-- ---- the phases

-- a segment that passed, as it comes
abbrev admitted : EndState → EndState → Segment → Finding → ℕ → Admitted
admitted before after d p now = record { segment = d; number = p.number; before = before; after = after; now = now }

unless : (b : Bool) (x y : Moved) → (if b then x else y) ≡ (if not b then y else x)
unless true x y = refl
unless false x y = refl

ordered : (fits rst level syn ack : Bool) (out at off challenged without x y : Moved) → x ≡ y
    → (if fits then (if rst then (if level then at else off) else (if syn then challenged else (if not ack then without else x))) else out)
    ≡ (if not fits then out else if rst && level then at else if rst then off else if syn then challenged else if not ack then without else y)
ordered false rst level syn ack out at off challenged without x y e = refl
ordered true true true syn ack out at off challenged without x y e = refl
ordered true true false syn ack out at off challenged without x y e = refl
ordered true false level true ack out at off challenged without x y e = refl
ordered true false level false false out at off challenged without x y e = refl
ordered true false level false true out at off challenged without x y e = e

others_are : (before after : EndState) (d : Segment) (p : Finding) (now : ℕ)
    → (if fits_window p.number (segment_length d) before.expected (window before) then ordinary before after d p.number now else answered (if has RST d then before else owing before) Window)
    ≡ other_cases (admitted before after d p now)
others_are before after d p now =
    ordered (fits_window p.number (segment_length d) before.expected (window before)) (has RST d) (p.number == before.expected) (has SYN d) (has ACK d)
    _ _ _ _ _ _ _ (acknowledged_is after d p.number now (meant d.acknowledgement after.una) after.phase refl)

sent_is : (ours acks : Bool) (before : EndState) (x : Moved)
    → (if not ours then answered before Unexpected else (if acks then x else answered before BadAck)) ≡ (if not ours then answered before Unexpected else if not acks then answered before BadAck else x)
sent_is true true before x = refl
sent_is true false before x = refl
sent_is false acks before x = refl

phase_is : (pair : Pair) (before after : EndState) (d : Segment) (p : Finding) (now : ℕ) (phase : Phase)
    → after_check pair before after d p.number now phase ≡ cases_in pair phase (admitted before after d p now)
phase_is pair before after d p now Listen = unless (syn_alone d) _ _
phase_is pair before after d p now SynSent = sent_is (syn_ack_alone d) (nat_lt before.isn before.next && (d.acknowledgement == (before.isn + 1) % ring)) before _
phase_is pair before after d p now SynReceived = others_are before after d p now
phase_is pair before after d p now Established = others_are before after d p now
phase_is pair before after d p now FinWait1 = others_are before after d p now
phase_is pair before after d p now FinWait2 = others_are before after d p now
phase_is pair before after d p now CloseWait = others_are before after d p now
phase_is pair before after d p now Closing = others_are before after d p now
phase_is pair before after d p now LastAck = others_are before after d p now
phase_is pair before after d p now TimeWait = others_are before after d p now
phase_is pair before after d p now Closed = others_are before after d p now

judged_is : (rows : List Row) (pair : Pair) (now : ℕ) (s : EndState) (d : Segment) (j : Judgement)
    → arrive_judged rows pair now s d j ≡ checked s (λ p. cases_in pair s.phase (admitted s (heard rows pair now s p.rnext_key_id) d p now)) j
judged_is rows pair now s d (Err why) = refl
judged_is rows pair now s d (Ok p) = ap (passes s p) (phase_is pair s (heard rows pair now s p.rnext_key_id) d p now s.phase)

read_is : (foreign wrong closed : Bool) (a b c x y : Arrived) → x ≡ y
    → (if foreign then a else (if wrong then b else (if closed then c else x))) ≡ (if foreign then a else if wrong then b else if closed then c else y)
read_is true wrong closed a b c x y e = refl
read_is false true closed a b c x y e = refl
read_is false false true a b c x y e = refl
read_is false false false a b c x y e = e

-- what is read is an arrival
pub read_by_cases : (rows : List Row) (pair : Pair) (now : ℕ) (s : EndState) (r : Reading) → arrive_read rows pair now s r ≡ arrive rows pair now s r
unfolding arrive
read_by_cases rows pair now s (Unread fault) = refl
read_by_cases rows pair now s (Read d) =
    read_is (not (from_peer pair d)) (not (good d)) (is_closed s.phase) _ _ _ _ _ (judged_is rows pair now s d (judged_by rows pair now s d))

-- an arrival is what its steps say
pub by_steps : (rows : List Row) (pair : Pair) (now : ℕ) (s : EndState) (r : Reading) → arrive rows pair now s r ≡ arrive_by_steps rows pair now s r
unfolding arrive_by_steps
by_steps rows pair now s r = sym (read_by_cases rows pair now s r)
