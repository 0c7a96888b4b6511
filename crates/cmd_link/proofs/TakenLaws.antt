-- What an event does to the bytes that sessions delivered.
use Rattle.std.proofs.Common.{◌≡◌, ◌⊎◌, inl, inr, ℕ, ◌+◌, ◌-◌, ◌%◌, ◌==◌, Bool, true, false, not, ◌&&◌, ◌||◌, List, [], ◌∷◌, ◌++◌, length, replicate, Option, Some, None, if◌then◌else◌, refl, sym, ap, ◌∙◌, nat_lt, nat_le, Ok, Err, subst}
use Rattle.std.specs.Prelude.{⊤, is_some}
use Rattle.book_base.specs.declared.address.Pair.{Pair}
use Rattle.book_base.specs.declared.end.End.{End}
use Rattle.book_base.specs.declared.end.End.TheVariants.{A, B}
use Rattle.book_segments.specs.Meant.{meant}
use Rattle.book_segments.specs.Received.{keep, first_missing, runs, below_limit}
use Rattle.book_segments.specs.Segments.{Segment, Reading, Read, Bad as Unread, reading, good, has, segment_length, FIN, SYN, RST, ACK}
use Rattle.book_macs.specs.Contexts.{context_of}
use Rattle.book_keys.specs.Coordination.{Sending, choose as choose_row}
use Rattle.book_keys.specs.Rows.{Row}
use Rattle.book_keys.specs.Tables.{Adding, AddedAs, TooMany, OverlapsRow, adding, withdrawn}
use Rattle.book_endpoint.specs.declared.phase.Phase.{Phase}
use Rattle.book_endpoint.specs.declared.phase.Phase.TheVariants.{Listen, SynSent, SynReceived, Established, TimeWait, Closed}
use Rattle.book_endpoint.specs.declared.arrival.Arrival.TheVariants.{Foreign, Checksum, Closed as AtClosed, Unexpected, Window, Challenge, NoAck, BadAck}
use Rattle.book_endpoint.specs.States.{EndState, window, room, gives, give, taking, take_out, at_end, is_closed, hears, close_in, close, abort, is_due, tick_in, connected, listening, started}
use Rattle.book_endpoint.specs.Verdicts.{Judgement}
use Rattle.book_endpoint.specs.Arrivals.{Arrived, syn_alone, syn_ack_alone, unmoved, heard, judged_by, from_peer, arrive}
use Rattle.book_endpoint.specs.Hearing.{Moved, answered, owing, above, fits_window, rested, finish, pass_fin, fin_of, records_fin, acked_fin, windowed, acked}
use Rattle.endpoint_steps.specs.Arriving.{heard_runs, hear_data, go_on, acknowledged, reset, ordinary, in_listen, in_syn_sent, after_check, arrive_judged, arrive_read}
use Rattle.book_endpoint.specs.Emissions.{Draft, Emitted, Quiet, NoKey, Emits, is_silent, is_syn_sent, is_syn_received, unsent, rst_draft, syn_draft, syn_ack_draft, data_draft, fin_draft, fin_again_draft, ack_draft, sends_data, sends_fin, fitting, resends, is_blocked, most_bytes, blank, seal_known}
use Rattle.endpoint_steps.specs.Drafting.{to_emit, unacknowledged, probe, to_resend, keyed, emitted}
use Rattle.endpoint_steps.proofs.Drafting.{emit_by_drafts, resend_by_drafts}
use Rattle.book_segments.specs.Bytes.{ring}
use Rattle.book_endpoint.specs.States.{given_end}
use Rattle.endpoint_steps.proofs.Arriving.{read_by_cases}
use Rattle.book_link.specs.declared.event.Fixing.{Fixing}
use Rattle.book_link.specs.Alterations.{has_place, altered}
use Rattle.book_link.specs.declared.event.Event.{Event}
use Rattle.book_link.specs.declared.event.Event.TheVariants.{At, Dump}
use Rattle.book_link.specs.declared.event.Action.TheVariants.{Clock, Connect, Listen as Await, Start, Give, Fill, Send, Resend, Deliver, Inject, Alter, Take, Close, Abort, AddRow, Withdraw}
use Rattle.book_link.specs.Outcomes.{Outcome, Done, Took, IsnUsed, NoSession, Full, HasClosed, Idle, Nothing}
use Rattle.book_keys.specs.Tables.{row_of_new}
use Rattle.book_link.specs.Worlds.{Setup, pair_of, Session, LinkSide, Made, Happening, World, other, side, find, segment_named}
use Rattle.book_link.specs.Steps.{View, Stepped, Act, put, with_sessions, with_table, acted, act_on, on_live, quietly, ticked, with_clock, begin, given, sent, send, send_again, come, took, deliver, alter, add_row, withdraw, step, view_of}
use Rattle.law_link.proofs.Tests.{choose}
use Rattle.cmd_link.specs.Streams.{streams_of, streams}

-- ---- the calls of a session

-- the state of a call has delivered what the session had
abbrev Same : EndState → Act → Type 0
Same s act = act.state.taken ≡ s.taken

given_same : (piece : List ℕ) (s : EndState) → Same s (given piece s)
given_same piece s =
    choose (Same s) (not (gives s)) (quietly s HasClosed) _ (λ t. refl)
    (λ t. choose (Same s) (nat_lt (room s) (length piece)) (quietly s Full) (quietly (give piece s) Done) (λ u. refl) (λ u. refl))

close_same : (s : EndState) (phase : Phase) → (close_in phase s).taken ≡ s.taken
close_same s Listen = refl
close_same s SynSent = refl
close_same s Closed = refl
close_same s _ = refl

tick_same : (s : EndState) (now : ℕ) (phase : Phase) → (tick_in phase now s).taken ≡ s.taken
tick_same s now TimeWait =
    choose (λ (t : EndState). t.taken ≡ s.taken) (is_due s.deadline now) (record s { phase = Closed }) s (λ t. refl) (λ t. refl)
tick_same s now _ = refl

-- ---- segments that are made

abbrev DraftSame : EndState → Option Draft → Type 0
DraftSame s None = ⊤
DraftSame s (Some out) = out.state.taken ≡ s.taken

abbrev EmittedSame : EndState → Emitted → Type 0
EmittedSame s Quiet = ⊤
EmittedSame s NoKey = ⊤
EmittedSame s (Emits x) = x.state.taken ≡ s.taken

to_emit_same : (s : EndState) (most : ℕ) → DraftSame s (to_emit s most)
unfolding to_emit
to_emit_same s most =
    let P : Option Draft → Type 0 = DraftSame s in
    choose P s.rst_owed (Some (rst_draft s)) _ (λ t. refl) (λ t.
    choose P (is_syn_sent s.phase && (s.next == s.isn)) (Some (syn_draft s (record s { next = s.isn + 1 }))) _ (λ t. refl) (λ t.
    choose P (is_syn_received s.phase && (s.next == s.isn)) (Some (syn_ack_draft s (record s { next = s.isn + 1 }))) _ (λ t. refl) (λ t.
    choose P (sends_data s) (Some (data_draft s (fitting s most))) _ (λ t. refl) (λ t.
    choose P (sends_fin s) (Some (fin_draft s)) _ (λ t. refl) (λ t.
    choose P (s.ack_owed && not (is_silent s.phase)) (Some (ack_draft s)) None (λ t. refl) (λ t. tt))))))

again_same : (s : EndState) (most : ℕ) → (unacknowledged s most).state.taken ≡ s.taken
again_same s most =
    choose (λ (d : Draft). d.state.taken ≡ s.taken) (nat_lt s.una (given_end s)) _ (fin_again_draft s) (λ t. refl) (λ t. refl)

probe_same : (s : EndState) → DraftSame s (probe s)
probe_same s =
    choose (DraftSame s) (nat_lt 0 (unsent s)) (Some (data_draft s 1)) _ (λ t. refl)
    (λ t. choose (DraftSame s) s.closing (Some (fin_draft s)) None (λ u. refl) (λ u. tt))

to_resend_same : (s : EndState) (most : ℕ) → DraftSame s (to_resend s most)
unfolding to_resend
to_resend_same s most =
    let P : Option Draft → Type 0 = DraftSame s in
    choose P (is_syn_sent s.phase && nat_lt s.isn s.next) (Some (syn_draft s s)) _ (λ t. refl) (λ t.
    choose P (is_syn_received s.phase && nat_lt s.isn s.next) (Some (syn_ack_draft s s)) _ (λ t. refl) (λ t.
    choose P (resends s.phase && nat_lt s.una s.next) (Some (unacknowledged s most)) _ (λ t. again_same s most) (λ t.
    choose P (is_blocked s) (probe s) None (λ t. probe_same s) (λ t. tt))))

known_same : (pair : Pair) (s : EndState) (out : Draft) (sending : Sending) (o : Option (List ℕ)) → out.state.taken ≡ s.taken → EmittedSame s (seal_known pair s out sending o)
known_same pair s out sending None h = tt
known_same pair s out sending (Some c) h = h

keyed_same : (pair : Pair) (s : EndState) (sending : Sending) (o : Option Draft) → DraftSame s o → EmittedSame s (keyed pair s sending o)
keyed_same pair s sending None h = tt
keyed_same pair s sending (Some out) h = known_same pair s out sending (context_of (blank pair s out sending) (Some s.isn) s.peer_isn) h

emitted_same : (pair : Pair) (s : EndState) (draft : ℕ → Option Draft) (o : Option Sending) → ((most : ℕ) → DraftSame s (draft most)) → EmittedSame s (emitted pair s draft o)
emitted_same pair s draft None h = choose (EmittedSame s) (is_some (draft 0)) NoKey Quiet (λ t. tt) (λ t. tt)
emitted_same pair s draft (Some sending) h = let most = most_bytes pair s sending in keyed_same pair s sending (draft most) (h most)

sent_same : (v : View) (s : EndState) (without : Outcome) (x : Emitted) → EmittedSame s x → Same s (sent v s without x)
sent_same v s without Quiet h = refl
sent_same v s without NoKey h = refl
sent_same v s without (Emits x) h = h

send_same : (setup : Setup) (e : End) (w : World) (s : EndState) → Same s (send (view_of setup w e) s)
send_same setup e w s =
    let pair = pair_of setup e in
    let o = choose_row s.current (side w e).rows pair (side w e).clock in
    subst (λ (x : Emitted). Same s (sent (view_of setup w e) s Idle x)) (sym (emit_by_drafts (side w e).rows (pair_of setup e) (side w e).clock s))
    (sent_same (view_of setup w e) s Idle (emitted pair s (to_emit s) o) (emitted_same pair s (to_emit s) o (λ most. to_emit_same s most)))

send_again_same : (setup : Setup) (e : End) (w : World) (s : EndState) → Same s (send_again (view_of setup w e) s)
send_again_same setup e w s =
    let pair = pair_of setup e in
    let o = choose_row s.current (side w e).rows pair (side w e).clock in
    subst (λ (x : Emitted). Same s (sent (view_of setup w e) s Nothing x)) (sym (resend_by_drafts (side w e).rows (pair_of setup e) (side w e).clock s))
    (sent_same (view_of setup w e) s Nothing (emitted pair s (to_resend s) o) (emitted_same pair s (to_resend s) o (λ most. to_resend_same s most)))

-- ---- arrivals

abbrev StateSame : EndState → EndState → Type 0
StateSame s t = t.taken ≡ s.taken

abbrev MovedSame : EndState → Moved → Type 0
MovedSame s m = m.state.taken ≡ s.taken

rested_same : (s : EndState) (now : ℕ) (phase : Phase) (o : Option ℕ) → StateSame s (rested s now phase o)
rested_same s now TimeWait None = refl
rested_same s now TimeWait (Some d) = refl
rested_same s now _ o = refl

pass_fin_same : (s : EndState) (o : Option ℕ) → StateSame s (pass_fin s o)
pass_fin_same s None = refl
pass_fin_same s (Some f) = choose (StateSame s) (f == s.expected) _ s (λ t. refl) (λ t. refl)

finish_same : (s : EndState) (now : ℕ) → MovedSame s (finish s now)
finish_same s now = rested_same s now s.phase s.deadline

heard_runs_same : (s : EndState) (m : ℕ → Option ℕ) (d : Segment) (n now : ℕ) (b : Bool) → MovedSame s (heard_runs s m d n now b)
heard_runs_same s m d n now true = refl
heard_runs_same s m d n now false =
    let f = n + length d.payload in
    let t : EndState = record s { received = m; fin = fin_of s.fin (records_fin s m d f) f; ack_owed = true; expected = first_missing m s.expected (window s) } in
    finish_same (pass_fin t t.fin) now ∙ pass_fin_same t t.fin

hear_data_same : (s : EndState) (d : Segment) (n now : ℕ) (b : Bool) → MovedSame s (hear_data s d n now b)
hear_data_same s d n now false = finish_same s now
hear_data_same s d n now true =
    let high = s.expected + window s in
    let m = keep s.received (record { number = n; bytes = d.payload }) (record { low = s.expected; high = below_limit s.fin high }) in
    let at = first_missing m s.expected (window s) in
    heard_runs_same s m d n now (nat_lt 64 (runs m false at (high - at)))

acked_fin_same : (s : EndState) (a : Option ℕ) → StateSame s (acked_fin s a)
acked_fin_same s a = choose (StateSame s) (above a (s.isn + 1 + length s.given)) _ s (λ t. refl) (λ t. refl)

windowed_same : (s : EndState) (old_una : ℕ) (d : Segment) (n : ℕ) (a : Option ℕ) → StateSame s (windowed s old_una d n a)
windowed_same s old_una d n None = refl
windowed_same s old_una d n (Some a) =
    choose (StateSame s) (nat_le old_una a && (nat_lt s.wl1 n || ((s.wl1 == n) && nat_le s.wl2 a))) _ s (λ t. refl) (λ t. refl)

acked_same : (s : EndState) (a : Option ℕ) → StateSame s (acked s a)
acked_same s None = refl
acked_same s (Some a) = choose (StateSame s) (nat_lt s.una a) _ s (λ t. refl) (λ t. refl)

go_on_same : (s : EndState) (old_una : ℕ) (d : Segment) (n now : ℕ) (a : Option ℕ) → MovedSame s (go_on s old_una d n now a)
go_on_same s old_una d n now a =
    let u = windowed s old_una d n a in
    let t = acked_fin u a in
    hear_data_same t d n now (hears t.phase && (nat_lt 0 (length d.payload) || has FIN d)) ∙ acked_fin_same u a ∙ windowed_same s old_una d n a

acknowledged_same : (s : EndState) (d : Segment) (n now : ℕ) (a : Option ℕ) (phase : Phase) → MovedSame s (acknowledged s d n now a phase)
acknowledged_same s d n now a SynReceived =
    let u : EndState = record (acked s a) { phase = Established } in
    choose (MovedSame s) (above a s.una && not (above a s.next)) _ (answered s BadAck) (λ t. go_on_same u s.una d n now a ∙ acked_same s a) (λ t. refl)
acknowledged_same s d n now a _ =
    choose (MovedSame s) (above a s.next) (answered (owing s) BadAck) _ (λ t. refl) (λ t. go_on_same (acked s a) s.una d n now a ∙ acked_same s a)

reset_same : (s : EndState) (n : ℕ) → MovedSame s (reset s n)
reset_same s n = choose (MovedSame s) (n == s.expected) _ (answered (owing s) Challenge) (λ t. refl) (λ t. refl)

ordinary_same : (s f : EndState) (d : Segment) (n now : ℕ) → StateSame s f → MovedSame s (ordinary s f d n now)
ordinary_same s f d n now h =
    choose (MovedSame s) (has RST d) (reset s n) _ (λ t. reset_same s n) (λ t.
    choose (MovedSame s) (has SYN d) (answered (owing f) Challenge) _ (λ u. h) (λ u.
    choose (MovedSame s) (not (has ACK d)) (answered f NoAck) _ (λ v. h)
    (λ v. acknowledged_same f d n now (meant d.acknowledgement f.una) f.phase ∙ h)))

in_listen_same : (pair : Pair) (s f : EndState) (d : Segment) (n : ℕ) → StateSame s f → MovedSame s (in_listen pair s f d n)
in_listen_same pair s f d n h = choose (MovedSame s) (syn_alone d) _ (answered s Unexpected) (λ t. h) (λ t. refl)

in_syn_sent_same : (pair : Pair) (s f : EndState) (d : Segment) (n : ℕ) → StateSame s f → MovedSame s (in_syn_sent pair s f d n)
in_syn_sent_same pair s f d n h =
    choose (MovedSame s) (not (syn_ack_alone d)) (answered s Unexpected) _ (λ t. refl)
    (λ t. choose (MovedSame s) (nat_lt s.isn s.next && (d.acknowledgement == (s.isn + 1) % ring)) _ (answered s BadAck) (λ u. h) (λ u. refl))

owing_same : (s : EndState) (b : Bool) → MovedSame s (answered (if b then s else owing s) Window)
owing_same s true = refl
owing_same s false = refl

after_check_same : (pair : Pair) (s f : EndState) (d : Segment) (n now : ℕ) (phase : Phase) → StateSame s f → MovedSame s (after_check pair s f d n now phase)
after_check_same pair s f d n now Listen h = in_listen_same pair s f d n h
after_check_same pair s f d n now SynSent h = in_syn_sent_same pair s f d n h
after_check_same pair s f d n now _ h =
    choose (MovedSame s) (fits_window n (segment_length d) s.expected (window s)) (ordinary s f d n now) _ (λ t. ordinary_same s f d n now h)
    (λ t. owing_same s (has RST d))

abbrev ArrivedSame : EndState → Arrived → Type 0
ArrivedSame s r = r.state.taken ≡ s.taken

judged_same : (rows : List Row) (pair : Pair) (now : ℕ) (s : EndState) (d : Segment) (v : Judgement) → ArrivedSame s (arrive_judged rows pair now s d v)
judged_same rows pair now s d (Err why) = refl
judged_same rows pair now s d (Ok p) = after_check_same pair s (heard rows pair now s p.rnext_key_id) d p.number now s.phase refl

read_same : (rows : List Row) (pair : Pair) (now : ℕ) (s : EndState) (r : Reading) → ArrivedSame s (arrive_read rows pair now s r)
read_same rows pair now s (Unread fault) = refl
read_same rows pair now s (Read d) =
    choose (ArrivedSame s) (not (from_peer pair d)) (unmoved s Foreign) _ (λ t. refl) (λ t.
    choose (ArrivedSame s) (not (good d)) (unmoved s Checksum) _ (λ u. refl) (λ u.
    choose (ArrivedSame s) (is_closed s.phase) (unmoved s AtClosed) _ (λ v. refl) (λ v. judged_same rows pair now s d (judged_by rows pair now s d))))

come_same : (setup : Setup) (e : End) (w : World) (bytes : List ℕ) (s : EndState) → Same s (come bytes (view_of setup w e) s)
come_same setup e w bytes s = subst (λ (a : Arrived). ArrivedSame s a) (read_by_cases (side w e).rows (pair_of setup e) (side w e).clock s (reading bytes)) (read_same (side w e).rows (pair_of setup e) (side w e).clock s (reading bytes))

-- ---- the ends

-- after the step all sessions have delivered what they had
abbrev pub AllSame : World → World → Type 0
AllSame w v = (f : End) → streams v f ≡ streams w f

put_same : (w : World) (e : End) (now : LinkSide) (happened : Option Happening) → streams_of now.sessions ≡ streams w e → AllSame w (put w e now happened)
put_same w A now happened h A = h
put_same w A now happened h B = refl
put_same w B now happened h A = refl
put_same w B now happened h B = h

act_same : (w : World) (e : End) (sessions : List Session) (call : EndState → Act) → (side w e).sessions ≡ sessions → ((s : EndState) → Same s (call s))
    → AllSame w (act_on w e sessions call).world
act_same w e [] call is h = λ f. refl
act_same w e (s ∷ rest) call is h =
    let act = call s.state in
    put_same w e (with_sessions (side w e) (acted s act ∷ rest)) act.happened (ap (λ (t : List ℕ). t ∷ streams_of rest) (h s.state) ∙ ap streams_of (sym is))

live_same : (w : World) (e : End) (call : EndState → Act) → ((s : EndState) → Same s (call s)) → AllSame w (on_live w e call).world
live_same w e call h = act_same w e (side w e).sessions call refl h

ticked_same : (now : ℕ) (sessions : List Session) → streams_of (ticked now sessions) ≡ streams_of sessions
ticked_same now [] = refl
ticked_same now (s ∷ rest) = ap (λ (t : List ℕ). t ∷ streams_of rest) (tick_same s.state now s.state.phase)

deliver_same : (setup : Setup) (e : End) (w : World) (o : Option Made) → AllSame w (deliver setup w e o).world
deliver_same setup e w None = λ f. refl
deliver_same setup e w (Some m) = live_same w e (come m.bytes (view_of setup w e)) (λ s. come_same setup e w m.bytes s)

alter_same : (setup : Setup) (e : End) (w : World) (place mask : ℕ) (fixing : Fixing) (o : Option Made) → AllSame w (alter setup w e (record { place = place; mask = mask; fixing = fixing }) o).world
alter_same setup e w place mask fixing None = λ f. refl
alter_same setup e w place mask fixing (Some m) =
    let bytes = altered m.bytes (record { place = place; mask = mask; fixing = fixing }) in
    choose (λ (x : Stepped). AllSame w x.world) (has_place m.bytes place) (on_live w e (come bytes (view_of setup w e))) _
    (λ t. live_same w e (come bytes (view_of setup w e)) (λ s. come_same setup e w bytes s)) (λ t. λ f. refl)

add_row_same : (w : World) (e : End) (a : Adding) → AllSame w (add_row w e a).world
add_row_same w e (AddedAs number rows) = put_same w e (with_table (side w e) rows) None refl
add_row_same w e TooMany = λ f. refl
add_row_same w e (OverlapsRow number) = λ f. refl

withdraw_same : (w : World) (e : End) (o : Option (List Row)) → AllSame w (withdraw w e o).world
withdraw_same w e None = λ f. refl
withdraw_same w e (Some rows) = put_same w e (with_table (side w e) rows) None refl

-- ---- an event by which bytes are taken, or a session begins

-- a session of an end began, which has delivered nothing, or the number was used and none did
pub record Begins (e : End) (w : World) (after : Stepped) : Type 0 where
  pub either : (after.outcome ≡ Done) ⊎ (after.outcome ≡ IsnUsed)
  pub new : after.outcome ≡ Done → streams after.world e ≡ [] ∷ streams w e
  pub used : after.outcome ≡ IsnUsed → streams after.world e ≡ streams w e
  pub others : streams after.world (other e) ≡ streams w (other e)

put_at : (w : World) (e : End) (now : LinkSide) (happened : Option Happening) → side (put w e now happened) e ≡ now
put_at w A now happened = refl
put_at w B now happened = refl

put_other : (w : World) (e : End) (now : LinkSide) (happened : Option Happening) → side (put w e now happened) (other e) ≡ side w (other e)
put_other w A now happened = refl
put_other w B now happened = refl

begin_streams : (w : World) (e : End) (s : EndState) (o : Option Session) → s.taken ≡ [] → Begins e w (begin w e s o)
begin_streams w e s (Some used) h = record { either = inr refl; new = λ is. absurd (cc); used = λ is. refl; others = refl }
begin_streams w e s None h =
    let now : LinkSide = with_sessions (side w e) (record { state = s; end_shown = false } ∷ (side w e).sessions) in
    record {
      either = inl refl;
      new = λ is. ap (λ (d : LinkSide). streams_of d.sessions) (put_at w e now None) ∙ ap (λ (t : List ℕ). t ∷ streams w e) h;
      used = λ is. absurd (cc);
      others = ap (λ (d : LinkSide). streams_of d.sessions) (put_other w e now None);
    }

-- the live session of an end delivered these bytes
pub record Delivers (e : End) (w : World) (bytes : List ℕ) (v : World) : Type 0 where
  pub old : List ℕ
  pub older : List (List ℕ)
  pub before : streams w e ≡ old ∷ older
  pub after : streams v e ≡ (old ++ bytes) ∷ older

-- the live session of an end delivered the bytes that it took, or there is none
pub record Takes (e : End) (w : World) (after : Stepped) : Type 0 where
  pub either : (after.outcome ≡ NoSession) ⊎ ((bytes : List ℕ) × (shown : Bool) × (after.outcome ≡ Took bytes shown))
  pub none : after.outcome ≡ NoSession → streams after.world e ≡ streams w e
  pub some : (bytes : List ℕ) (shown : Bool) → after.outcome ≡ Took bytes shown → Delivers e w bytes after.world
  pub others : streams after.world (other e) ≡ streams w (other e)

abbrev taken_or : List ℕ → Outcome → List ℕ
taken_or bytes (Took other shown) = other
taken_or bytes _ = bytes

take_streams : (w : World) (e : End) (count : ℕ) (sessions : List Session) → (side w e).sessions ≡ sessions → Takes e w (act_on w e sessions (took count))
take_streams w e count [] is = record { either = inl refl; none = λ h. refl; some = λ bytes shown h. absurd (cc); others = refl }
take_streams w e count (s ∷ rest) is =
    let act = took count s.state in
    let now : LinkSide = with_sessions (side w e) (acted s act ∷ rest) in
    record {
      either = inr (taking count s.state, at_end (take_out count s.state), refl);
      none = λ h. absurd (cc);
      some = λ bytes shown h.
          let same : taking count s.state ≡ bytes = ap (taken_or []) h in
          record {
            old = s.state.taken;
            older = streams_of rest;
            before = ap streams_of is;
            after = ap (λ (d : LinkSide). streams_of d.sessions) (put_at w e now act.happened)
                ∙ ap (λ (t : List ℕ). (s.state.taken ++ t) ∷ streams_of rest) same;
          };
      others = ap (λ (d : LinkSide). streams_of d.sessions) (put_other w e now act.happened);
    }

-- ---- any event

-- what an event does to what the sessions delivered
abbrev pub Changes : Event → World → Stepped → Type 0
Changes (At e (Connect isn)) w after = Begins e w after
Changes (At e (Await isn)) w after = Begins e w after
Changes (At e (Start isn peer)) w after = Begins e w after
Changes (At e (Take count)) w after = Takes e w after
Changes _ w after = AllSame w after.world

pub changes : (setup : Setup) (w : World) (event : Event) → Changes event w (step setup w event)
changes setup w (At e (Clock seconds)) = put_same w e (with_clock (side w e) seconds) None (ticked_same seconds (side w e).sessions)
changes setup w (At e (Connect isn)) = begin_streams w e (connected (pair_of setup e) isn) (find (side w e).sessions isn) refl
changes setup w (At e (Await isn)) = begin_streams w e (listening (pair_of setup e) isn) (find (side w e).sessions isn) refl
changes setup w (At e (Start isn peer)) = begin_streams w e (started (pair_of setup e) isn peer) (find (side w e).sessions isn) refl
changes setup w (At e (Give piece)) = live_same w e (given piece) (λ s. given_same piece s)
changes setup w (At e (Fill count byte)) = live_same w e (given (replicate count byte)) (λ s. given_same (replicate count byte) s)
changes setup w (At e Send) = live_same w e (send (view_of setup w e)) (λ s. send_same setup e w s)
changes setup w (At e Resend) = live_same w e (send_again (view_of setup w e)) (λ s. send_again_same setup e w s)
changes setup w (At e (Deliver name)) = deliver_same setup e w (segment_named name w.history)
changes setup w (At e (Inject bytes)) = live_same w e (come bytes (view_of setup w e)) (λ s. come_same setup e w bytes s)
changes setup w (At e (Alter name place mask fixing)) = alter_same setup e w place mask fixing (segment_named name w.history)
changes setup w (At e (Take count)) = take_streams w e count (side w e).sessions refl
changes setup w (At e Close) = live_same w e (λ s. quietly (close s) Done) (λ s. close_same s s.phase)
changes setup w (At e Abort) = live_same w e (λ s. quietly (abort s) Done) (λ s. refl)
changes setup w (At e (AddRow row)) = add_row_same w e (adding (side w e).rows (row_of_new row))
changes setup w (At e (Withdraw number)) = withdraw_same w e (withdrawn (side w e).rows number)
changes setup w (Dump name) = λ f. refl
