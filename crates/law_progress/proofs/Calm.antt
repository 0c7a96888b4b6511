-- What holds of an end before and in SYN-RECEIVED: nothing but the SYN was sent, and nothing was heard but the peer's.
use Rattle.std.proofs.Common.{◌≡◌, ℕ, ◌+◌, ◌%◌, ◌≤◌, ◌==◌, min, Bool, true, false, not, ◌&&◌, nat_lt, List, [], ◌∷◌, length, replicate, Option, Some, None, ◌⊎◌, inl, inr, ◌-◌, if◌then◌else◌, refl, ap, subst, arith, Ok, Err, sym}
use Rattle.std.specs.Prelude.{⊤, is_some}
use Rattle.std.specs.List.{AllByRecursion}
use Rattle.book_base.specs.declared.address.Pair.{Pair}
use Rattle.book_base.specs.declared.end.End.{End}
use Rattle.book_base.specs.declared.end.End.TheVariants.{A, B}
use Rattle.book_segments.specs.Bytes.{ring}
use Rattle.book_segments.specs.Meant.{meant}
use Rattle.book_segments.specs.Received.{keep, first_missing, below_limit}
use Rattle.book_segments.specs.Segments.{Segment, Reading, Read, Bad as Unread, reading, good, has, segment_length, SYN, RST, ACK}
use Rattle.book_segments.proofs.Fields.{and_tells}
use Rattle.book_keys.specs.Rows.{Row}
use Rattle.book_keys.specs.Coordination.{Sending, follow, choose as choose_row}
use Rattle.book_keys.specs.Tables.{Adding, AddedAs, TooMany, OverlapsRow, adding, withdrawn}
use Rattle.book_macs.specs.Contexts.{context_of}
use Rattle.book_endpoint.specs.declared.phase.Phase.{Phase}
use Rattle.book_endpoint.specs.declared.phase.Phase.TheVariants.{Listen, SynSent, SynReceived, Established, FinWait1, FinWait2, CloseWait, Closing, LastAck, TimeWait, Closed}
use Rattle.book_endpoint.specs.declared.arrival.Arrival.TheVariants.{Foreign, Checksum, Closed as AtClosed, BadAck}
use Rattle.book_endpoint.specs.States.{EndState, first, window, is_closed, given_end, room, gives, give, close_in, abort, is_due, tick_in, connected, listening, started}
use Rattle.book_endpoint.specs.Verdicts.{Judgement}
use Rattle.book_endpoint.specs.Arrivals.{Arrived, syn_alone, syn_ack_alone, unmoved, judged_by, from_peer, arrive}
use Rattle.book_endpoint.specs.Hearing.{Moved, answered, owing, above, fits_window, rested, past_fin, pass_fin, fin_of, records_fin, after_own_fin, acked_fin, windowed, acked}
use Rattle.endpoint_steps.specs.Arriving.{heard_runs, hear_data, go_on, acknowledged, ordinary, after_check, arrive_judged, arrive_read}
use Rattle.book_endpoint.specs.Emissions.{Draft, Emitted, Quiet, NoKey, is_sending, is_silent, is_syn_sent, is_syn_received, fin_sent, unsent, rst_draft, syn_draft, syn_ack_draft, data_draft, again_draft, fin_draft, fin_again_draft, ack_draft, sends_data, sends_fin, fitting, resends, is_blocked, most_bytes, blank, seal_known}
use Rattle.endpoint_steps.specs.Drafting.{to_emit, unacknowledged, probe, to_resend, keyed, emitted}
use Rattle.endpoint_steps.proofs.Drafting.{emit_by_drafts, resend_by_drafts}
use Rattle.endpoint_steps.proofs.Arriving.{read_by_cases}
use Rattle.book_link.specs.declared.event.Fixing.{Fixing}
use Rattle.book_link.specs.Alterations.{has_place, altered}
use Rattle.book_link.specs.declared.event.Event.{Event}
use Rattle.book_link.specs.declared.event.Event.TheVariants.{At, Dump}
use Rattle.book_link.specs.declared.event.Action.TheVariants.{Clock, Connect, Listen as Await, Start, Give, Fill, Send, Resend, Deliver, Inject, Alter, Take, Close, Abort, AddRow, Withdraw}
use Rattle.book_link.specs.Outcomes.{Outcome, Idle, Nothing}
use Rattle.book_keys.specs.Tables.{row_of_new}
use Rattle.book_link.specs.Worlds.{Setup, pair_of, Session, Made, LinkSide, Happening, World, side, find, segment_named}
use Rattle.book_link.specs.Steps.{View, Act, Stepped, put, with_sessions, with_table, ticked, with_clock, begin, sent, send, send_again, come, given, acted, act_on, on_live, deliver, alter, add_row, withdraw, step, view_of}
use Rattle.law_link.proofs.Drafts.{sends_data_says, sends_fin_says}
use Rattle.law_link.proofs.Moves.{following}
use Rattle.law_link.proofs.Sessions.{both}
use Rattle.law_link.proofs.Tests.{choose}

-- ---- the facts

-- the phases before the own SYN is acknowledged
abbrev pub is_before : Phase → Bool
is_before Listen = true
is_before SynSent = true
is_before SynReceived = true
is_before _ = false

pub record CalmOf (phase : Phase) (isn una next x : ℕ) (peer : Option ℕ) (closing : Bool) : Type 0 where
  pub oldest : is_before phase ≡ true → una ≡ isn
  pub soon : is_before phase ≡ true → next ≤ isn + 1
  pub at : is_syn_received phase ≡ true → x ≡ first peer
  pub unclosed : is_syn_sent phase ≡ true → closing ≡ false

abbrev pub Calm : EndState → Type 0
Calm s = CalmOf s.phase s.isn s.una s.next s.expected s.peer_isn s.closing

abbrev pub AllCalm : List Session → Type 0
AllCalm sessions = AllByRecursion (λ (s : Session). Calm s.state) sessions

abbrev pub AllCalms : World → Type 0
AllCalms w = (e : End) → AllCalm (side w e).sessions

-- ---- past the handshake there is nothing to say

received_before : (phase : Phase) → is_syn_received phase ≡ true → is_before phase ≡ true
received_before SynReceived e = refl
received_before _ e = absurd (cc)

sent_before : (phase : Phase) → is_syn_sent phase ≡ true → is_before phase ≡ true
sent_before SynSent e = refl
sent_before _ e = absurd (cc)

never : (b : Bool) → b ≡ false → b ≡ true → ⊥
never b e f = cc

past_calm : (s : EndState) → is_before s.phase ≡ false → Calm s
past_calm s past = record {
  oldest = λ e. absurd (never (is_before s.phase) past e);
  soon = λ e. absurd (never (is_before s.phase) past e);
  at = λ e. absurd (never (is_before s.phase) past (received_before s.phase e));
  unclosed = λ e. absurd (never (is_before s.phase) past (sent_before s.phase e));
}

sending_past : (phase : Phase) → is_sending phase ≡ true → is_before phase ≡ false
sending_past Listen e = absurd (cc)
sending_past SynSent e = absurd (cc)
sending_past SynReceived e = absurd (cc)
sending_past _ e = refl

own_past : (phase : Phase) → is_before phase ≡ false → is_before (after_own_fin phase) ≡ false
own_past FinWait1 e = refl
own_past Closing e = refl
own_past LastAck e = refl
own_past Listen e = absurd (cc)
own_past SynSent e = absurd (cc)
own_past SynReceived e = absurd (cc)
own_past Established e = refl
own_past FinWait2 e = refl
own_past CloseWait e = refl
own_past TimeWait e = refl
own_past Closed e = refl

passed_past : (phase : Phase) → is_before phase ≡ false → is_before (past_fin phase) ≡ false
passed_past Listen e = absurd (cc)
passed_past SynSent e = absurd (cc)
passed_past SynReceived e = absurd (cc)
passed_past Established e = refl
passed_past FinWait1 e = refl
passed_past FinWait2 e = refl
passed_past CloseWait e = refl
passed_past Closing e = refl
passed_past LastAck e = refl
passed_past TimeWait e = refl
passed_past Closed e = refl

fin_past : (phase : Phase) → is_sending phase ≡ true → is_before (fin_sent phase) ≡ false
fin_past Established e = refl
fin_past CloseWait e = refl
fin_past Listen e = absurd (cc)
fin_past SynSent e = absurd (cc)
fin_past SynReceived e = absurd (cc)
fin_past FinWait1 e = absurd (cc)
fin_past FinWait2 e = absurd (cc)
fin_past Closing e = absurd (cc)
fin_past LastAck e = absurd (cc)
fin_past TimeWait e = absurd (cc)
fin_past Closed e = absurd (cc)

-- ---- a segment that is made

abbrev MayCalm : Option Draft → Type 0
MayCalm None = ⊤
MayCalm (Some out) = Calm out.state

data_calm : (s : EndState) (count : ℕ) → is_sending s.phase ≡ true → Calm (data_draft s count).state
data_calm s count on = past_calm (data_draft s count).state (sending_past s.phase on)

fin_calm : (s : EndState) → is_sending s.phase ≡ true → Calm (fin_draft s).state
fin_calm s on = past_calm (fin_draft s).state (fin_past s.phase on)

emit_calm : (s : EndState) (most : ℕ) → Calm s → MayCalm (to_emit s most)
unfolding to_emit
emit_calm s most h =
    let P = MayCalm in
    choose P s.rst_owed (Some (rst_draft s)) _ (λ t. h) (λ e1.
    choose P (is_syn_sent s.phase && (s.next == s.isn)) (Some (syn_draft s (record s { next = s.isn + 1 }))) _ (λ t. record { oldest = h.oldest; soon = λ e. omega arith; at = h.at; unclosed = h.unclosed }) (λ e2.
    choose P (is_syn_received s.phase && (s.next == s.isn)) (Some (syn_ack_draft s (record s { next = s.isn + 1 }))) _ (λ t. record { oldest = h.oldest; soon = λ e. omega arith; at = h.at; unclosed = h.unclosed }) (λ e3.
    choose P (sends_data s) (Some (data_draft s (fitting s most))) _ (λ t. data_calm s (fitting s most) (sends_data_says s t).0) (λ e4.
    choose P (sends_fin s) (Some (fin_draft s)) _ (λ t. fin_calm s (sends_fin_says s t).0) (λ e5.
    choose P (s.ack_owed && not (is_silent s.phase)) (Some (ack_draft s)) None (λ t. h) (λ t. tt))))))

resend_calm : (s : EndState) (most : ℕ) → Calm s → MayCalm (to_resend s most)
unfolding to_resend
resend_calm s most h =
    let P = MayCalm in
    choose P (is_syn_sent s.phase && nat_lt s.isn s.next) (Some (syn_draft s s)) _ (λ t. h) (λ e1.
    choose P (is_syn_received s.phase && nat_lt s.isn s.next) (Some (syn_ack_draft s s)) _ (λ t. h) (λ e2.
    choose P (resends s.phase && nat_lt s.una s.next) (Some (unacknowledged s most)) _
    (λ t. choose (λ (d : Draft). Calm d.state) (nat_lt s.una (given_end s)) (again_draft s (min (s.next - s.una) most)) (fin_again_draft s) (λ g. h) (λ g. h)) (λ e3.
    choose P (is_blocked s) (probe s) None
    (λ t. let on = (and_tells (is_sending s.phase) (s.una == s.next) (and_tells (is_sending s.phase && (s.una == s.next)) (s.send_window == 0) t).0).0 in
    choose P (nat_lt 0 (unsent s)) (Some (data_draft s 1)) _ (λ g. data_calm s 1 on) (λ g. choose P s.closing (Some (fin_draft s)) None (λ c. fin_calm s on) (λ c. tt)))
    (λ t. tt))))

module _ (v : View) (pair : Pair) (s : EndState) (without : Outcome) (h : Calm s) where
  sealed_calm : (out : Draft) (sending : Sending) (o : Option (List ℕ)) → Calm out.state → Calm (sent v s without (seal_known pair s out sending o)).state
  sealed_calm out sending None f = h
  sealed_calm out sending (Some c) f = f

  keyed_calm : (sending : Sending) (o : Option Draft) → MayCalm o → Calm (sent v s without (keyed pair s sending o)).state
  keyed_calm sending None f = h
  keyed_calm sending (Some out) f = sealed_calm out sending (context_of (blank pair s out sending) (Some s.isn) s.peer_isn) f

  emitted_calm : (draft : ℕ → Option Draft) (o : Option Sending) → ((most : ℕ) → MayCalm (draft most)) → Calm (sent v s without (emitted pair s draft o)).state
  emitted_calm draft None f = choose (λ (x : Emitted). Calm (sent v s without x).state) (is_some (draft 0)) NoKey Quiet (λ t. h) (λ t. h)
  emitted_calm draft (Some sending) f = keyed_calm sending (draft (most_bytes pair s sending)) (f (most_bytes pair s sending))

send_calm : (setup : Setup) (e : End) (w : World) (s : EndState) → Calm s → Calm (send (view_of setup w e) s).state
send_calm setup e w s h =
    subst (λ (x : Emitted). Calm (sent (view_of setup w e) s Idle x).state) (sym (emit_by_drafts (side w e).rows (pair_of setup e) (side w e).clock s))
    (emitted_calm (view_of setup w e) (pair_of setup e) s Idle h (to_emit s) (choose_row s.current (side w e).rows (pair_of setup e) (side w e).clock) (λ most. emit_calm s most h))

again_calm : (setup : Setup) (e : End) (w : World) (s : EndState) → Calm s → Calm (send_again (view_of setup w e) s).state
again_calm setup e w s h =
    subst (λ (x : Emitted). Calm (sent (view_of setup w e) s Nothing x).state) (sym (resend_by_drafts (side w e).rows (pair_of setup e) (side w e).clock s))
    (emitted_calm (view_of setup w e) (pair_of setup e) s Nothing h (to_resend s) (choose_row s.current (side w e).rows (pair_of setup e) (side w e).clock) (λ most. resend_calm s most h))

-- ---- the calls

closed_calm : (s : EndState) → Calm (record s { phase = Closed })
closed_calm s = past_calm (record s { phase = Closed }) refl

given_calm : (piece : List ℕ) (s : EndState) → Calm s → Calm (given piece s).state
given_calm piece s h =
    let P : Act → Type 0 = λ a. Calm a.state in
    choose P (not (gives s)) _ _ (λ t. h) (λ t. choose P (nat_lt (room s) (length piece)) _ _ (λ full. h) (λ fits. let goal : Calm (give piece s) = h in goal))

close_calm : (s : EndState) (phase : Phase) → s.phase ≡ phase → Calm s → Calm (close_in phase s)
close_calm s Listen is h = closed_calm s
close_calm s SynSent is h = closed_calm s
close_calm s Closed is h = h
close_calm s SynReceived is h = record { oldest = h.oldest; soon = h.soon; at = h.at; unclosed = λ e. let off = ap is_syn_sent is in absurd (cc) }
close_calm s _ is h = past_calm (record s { closing = true }) (ap is_before is)

tick_calm : (s : EndState) (now : ℕ) (phase : Phase) → Calm s → Calm (tick_in phase now s)
tick_calm s now TimeWait h = choose Calm (is_due s.deadline now) (record s { phase = Closed }) s (λ t. closed_calm s) (λ t. h)
tick_calm s now _ h = h

-- ---- an arrival

abbrev Past : EndState → Type 0
Past s = is_before s.phase ≡ false

rested_past : (s : EndState) (now : ℕ) (phase : Phase) (o : Option ℕ) → Past s → Past (rested s now phase o)
rested_past s now TimeWait None h = h
rested_past s now _ _ h = h

pass_past : (s : EndState) (o : Option ℕ) → Past s → Past (pass_fin s o)
pass_past s None h = h
pass_past s (Some f) h = choose Past (f == s.expected) (record s { expected = f + 1; phase = past_fin s.phase }) s (λ e. passed_past s.phase h) (λ e. h)

heard_past : (s : EndState) (m : ℕ → Option ℕ) (d : Segment) (n now : ℕ) (b : Bool) → Past s → Past (heard_runs s m d n now b).state
heard_past s m d n now true h = h
heard_past s m d n now false h =
    let f = n + length d.payload in
    let t : EndState = record s { received = m; fin = fin_of s.fin (records_fin s m d f) f; ack_owed = true; expected = first_missing m s.expected (window s) } in
    let u = pass_fin t t.fin in
    rested_past u now u.phase u.deadline (pass_past t t.fin h)

hear_past : (s : EndState) (d : Segment) (n now : ℕ) (b : Bool) → Past s → Past (hear_data s d n now b).state
hear_past s d n now false h = rested_past s now s.phase s.deadline h
hear_past s d n now true h = heard_past s (keep s.received (record { number = n; bytes = d.payload }) (record { low = s.expected; high = below_limit s.fin (s.expected + window s) })) d n now _ h

windowed_past : (s : EndState) (old : ℕ) (d : Segment) (n : ℕ) (a : Option ℕ) → Past s → Past (windowed s old d n a)
windowed_past s old d n None h = h
windowed_past s old d n (Some a) h = choose Past _ (record s { send_window = d.window; wl1 = n; wl2 = a }) s (λ e. h) (λ e. h)

fin_acked_past : (s : EndState) (a : Option ℕ) → Past s → Past (acked_fin s a)
fin_acked_past s a h = choose Past (above a (s.isn + 1 + length s.given)) (record s { phase = after_own_fin s.phase }) s (λ e. own_past s.phase h) (λ e. h)

acked_past : (s : EndState) (a : Option ℕ) → Past s → Past (acked s a)
acked_past s None h = h
acked_past s (Some a) h = choose Past (nat_lt s.una a) (record s { una = a }) s (λ e. h) (λ e. h)

go_on_past : (s : EndState) (old : ℕ) (d : Segment) (n now : ℕ) (a : Option ℕ) → Past s → Past (go_on s old d n now a).state
go_on_past s old d n now a h = let t = acked_fin (windowed s old d n a) a in hear_past t d n now _ (fin_acked_past (windowed s old d n a) a (windowed_past s old d n a h))

pick_moved : (b : Bool) (t u : Moved) → Calm t.state → Calm u.state → Calm (if b then t else u).state
pick_moved true t u f g = f
pick_moved false t u f g = g

acknowledged_calm : (s : EndState) (d : Segment) (n now : ℕ) (a : Option ℕ) (phase : Phase) → s.phase ≡ phase → is_before phase ≡ false ⊎ (phase ≡ SynReceived) → Calm s → Calm (acknowledged s d n now a phase).state
acknowledged_calm s d n now a SynReceived is which h =
    let t : EndState = record (acked s a) { phase = Established } in
    pick_moved (above a s.una && not (above a s.next)) (go_on t s.una d n now a) (answered s BadAck) (past_calm (go_on t s.una d n now a).state (go_on_past t s.una d n now a refl)) h
acknowledged_calm s d n now a Listen is (inl e) h = absurd (cc)
acknowledged_calm s d n now a Listen is (inr e) h = absurd (cc)
acknowledged_calm s d n now a SynSent is (inl e) h = absurd (cc)
acknowledged_calm s d n now a SynSent is (inr e) h = absurd (cc)
acknowledged_calm s d n now a _ is which h =
    pick_moved (above a s.next) (answered (owing s) BadAck) (go_on (acked s a) s.una d n now a) h
    (past_calm (go_on (acked s a) s.una d n now a).state (go_on_past (acked s a) s.una d n now a (acked_past s a (ap is_before is))))

ordinary_calm : (s : EndState) (c : Option ℕ) (d : Segment) (n now : ℕ) → is_before s.phase ≡ false ⊎ (s.phase ≡ SynReceived) → Calm s → Calm (ordinary s (following c s) d n now).state
ordinary_calm s c d n now which h =
    pick_moved (has RST d) _ _ (pick_moved (n == s.expected) _ _ (closed_calm s) h)
    (pick_moved (has SYN d) _ _ h (pick_moved (not (has ACK d)) _ _ h (acknowledged_calm (following c s) d n now (meant d.acknowledgement s.una) s.phase refl which h)))

check_calm : (pair : Pair) (s : EndState) (c : Option ℕ) (d : Segment) (n now : ℕ) (phase : Phase) → s.phase ≡ phase → Calm s → Calm (after_check pair s (following c s) d n now phase).state
check_calm pair s c d n now Listen is h =
    pick_moved (syn_alone d) _ _ (record { oldest = λ e. h.oldest (ap is_before is); soon = λ e. h.soon (ap is_before is); at = λ e. refl; unclosed = λ e. absurd (cc) }) h
check_calm pair s c d n now SynSent is h =
    pick_moved (not (syn_ack_alone d)) _ _ h
    (pick_moved (nat_lt s.isn s.next && (d.acknowledgement == (s.isn + 1) % ring)) _ _ (record { oldest = λ e. absurd (cc); soon = λ e. absurd (cc); at = λ e. absurd (cc); unclosed = λ e. absurd (cc) }) h)
check_calm pair s c d n now SynReceived is h =
    pick_moved (fits_window n (segment_length d) s.expected (window s)) _ _ (ordinary_calm s c d n now (inr is) h) (choose Calm (has RST d) s (owing s) (λ e. h) (λ e. h))
check_calm pair s c d n now _ is h =
    pick_moved (fits_window n (segment_length d) s.expected (window s)) _ _ (ordinary_calm s c d n now (inl (ap is_before is)) h) (choose Calm (has RST d) s (owing s) (λ e. h) (λ e. h))

judged_calm : (rows : List Row) (pair : Pair) (now : ℕ) (s : EndState) (d : Segment) (j : Judgement) → Calm s → Calm (arrive_judged rows pair now s d j).state
judged_calm rows pair now s d (Err why) h = h
judged_calm rows pair now s d (Ok p) h = check_calm pair s (follow s.current rows pair p.rnext_key_id now) d p.number now s.phase refl h

read_calm : (rows : List Row) (pair : Pair) (now : ℕ) (s : EndState) (r : Reading) → Calm s → Calm (arrive_read rows pair now s r).state
read_calm rows pair now s (Unread fault) h = h
read_calm rows pair now s (Read d) h =
    let P : Arrived → Type 0 = λ a. Calm a.state in
    choose P (not (from_peer pair d)) (unmoved s Foreign) _ (λ t. h) (λ t.
    choose P (not (good d)) (unmoved s Checksum) _ (λ t. h) (λ t.
    choose P (is_closed s.phase) (unmoved s AtClosed) (arrive_judged rows pair now s d (judged_by rows pair now s d)) (λ t. h) (λ t. judged_calm rows pair now s d (judged_by rows pair now s d) h)))

come_calm : (setup : Setup) (e : End) (w : World) (bytes : List ℕ) (s : EndState) → Calm s → Calm (come bytes (view_of setup w e) s).state
come_calm setup e w bytes s h = subst (λ (a : Arrived). Calm a.state) (read_by_cases (side w e).rows (pair_of setup e) (side w e).clock s (reading bytes)) (read_calm (side w e).rows (pair_of setup e) (side w e).clock s (reading bytes) h)

-- ---- the sides

put_calm : (w : World) (e : End) (now : LinkSide) (happened : Option Happening) → AllCalm now.sessions → AllCalms w → AllCalms (put w e now happened)
put_calm w A now happened new h = both (λ (f : End). AllCalm (side (put w A now happened) f).sessions) new (h B)
put_calm w B now happened new h = both (λ (f : End). AllCalm (side (put w B now happened) f).sessions) (h A) new

act_calm : (w : World) (e : End) (sessions : List Session) (call : EndState → Act) → (side w e).sessions ≡ sessions → ((s : EndState) → Calm s → Calm (call s).state) → AllCalms w → AllCalms (act_on w e sessions call).world
act_calm w e [] call is keeps h = h
act_calm w e (s ∷ rest) call is keeps h =
    let calm : AllCalm (s ∷ rest) = subst AllCalm is (h e) in
    put_calm w e (record { clock = (side w e).clock; rows = (side w e).rows; sessions = acted s (call s.state) ∷ rest }) (call s.state).happened (keeps s.state calm.0, calm.1) h

module _ (setup : Setup) where
  ticked_calm : (now : ℕ) (sessions : List Session) → AllCalm sessions → AllCalm (ticked now sessions)
  ticked_calm now [] h = h
  ticked_calm now (s ∷ rest) h = (tick_calm s.state now s.state.phase h.0, h.1)

  begin_calm : (w : World) (e : End) (s : EndState) (o : Option Session) → Calm s → AllCalms w → AllCalms (begin w e s o).world
  begin_calm w e s (Some used) new h = h
  begin_calm w e s None new h = put_calm w e (with_sessions (side w e) (record { state = s; end_shown = false } ∷ (side w e).sessions)) None (new, h e) h

  arrival_calm : (w : World) (e : End) (bytes : List ℕ) → AllCalms w → AllCalms (on_live w e (come bytes (view_of setup w e))).world
  arrival_calm w e bytes h = act_calm w e (side w e).sessions (come bytes (view_of setup w e)) refl (λ s calm. come_calm setup e w bytes s calm) h

  deliver_calm : (w : World) (e : End) (o : Option Made) → AllCalms w → AllCalms (deliver setup w e o).world
  deliver_calm w e None h = h
  deliver_calm w e (Some m) h = arrival_calm w e m.bytes h

  alter_calm : (w : World) (e : End) (place mask : ℕ) (fixing : Fixing) (o : Option Made) → AllCalms w → AllCalms (alter setup w e (record { place = place; mask = mask; fixing = fixing }) o).world
  alter_calm w e place mask fixing None h = h
  alter_calm w e place mask fixing (Some m) h =
      choose (λ (x : Stepped). AllCalms x.world) (has_place m.bytes place) _ _ (λ t. arrival_calm w e (altered m.bytes (record { place = place; mask = mask; fixing = fixing })) h) (λ t. h)

  add_calm : (w : World) (e : End) (o : Adding) → AllCalms w → AllCalms (add_row w e o).world
  add_calm w e (AddedAs n rows) h = put_calm w e (with_table (side w e) rows) None (h e) h
  add_calm w e TooMany h = h
  add_calm w e (OverlapsRow n) h = h

  withdraw_calm : (w : World) (e : End) (o : Option (List Row)) → AllCalms w → AllCalms (withdraw w e o).world
  withdraw_calm w e None h = h
  withdraw_calm w e (Some rows) h = put_calm w e (with_table (side w e) rows) None (h e) h

  pub calm_step : (w : World) (event : Event) → AllCalms w → AllCalms (step setup w event).world
  calm_step w (At e (Clock seconds)) h = put_calm w e (with_clock (side w e) seconds) None (ticked_calm seconds (side w e).sessions (h e)) h
  calm_step w (At e (Connect isn)) h = begin_calm w e (connected (pair_of setup e) isn) (find (side w e).sessions isn) (record { oldest = λ g. refl; soon = λ g. omega arith; at = λ g. absurd (cc); unclosed = λ g. refl }) h
  calm_step w (At e (Await isn)) h = begin_calm w e (listening (pair_of setup e) isn) (find (side w e).sessions isn) (record { oldest = λ g. refl; soon = λ g. omega arith; at = λ g. absurd (cc); unclosed = λ g. absurd (cc) }) h
  calm_step w (At e (Start isn peer)) h = begin_calm w e (started (pair_of setup e) isn peer) (find (side w e).sessions isn) (past_calm (started (pair_of setup e) isn peer) refl) h
  calm_step w (At e (Give piece)) h = act_calm w e (side w e).sessions _ refl (λ s c. given_calm piece s c) h
  calm_step w (At e (Fill count byte)) h = act_calm w e (side w e).sessions _ refl (λ s c. given_calm (replicate count byte) s c) h
  calm_step w (At e Send) h = act_calm w e (side w e).sessions _ refl (λ s c. send_calm setup e w s c) h
  calm_step w (At e Resend) h = act_calm w e (side w e).sessions _ refl (λ s c. again_calm setup e w s c) h
  calm_step w (At e (Deliver name)) h = deliver_calm w e (segment_named name w.history) h
  calm_step w (At e (Inject bytes)) h = arrival_calm w e bytes h
  calm_step w (At e (Alter name place mask fixing)) h = alter_calm w e place mask fixing (segment_named name w.history) h
  calm_step w (At e (Take count)) h = act_calm w e (side w e).sessions _ refl (λ s c. c) h
  calm_step w (At e Close) h = act_calm w e (side w e).sessions _ refl (λ s c. close_calm s s.phase refl c) h
  calm_step w (At e Abort) h = act_calm w e (side w e).sessions _ refl (λ s c. past_calm (abort s) refl) h
  calm_step w (At e (AddRow row)) h = add_calm w e (adding (side w e).rows (row_of_new row)) h
  calm_step w (At e (Withdraw n)) h = withdraw_calm w e (withdrawn (side w e).rows n) h
  calm_step w (Dump name) h = h
