-- Each step keeps what holds of one state.
use Rattle.std.proofs.Common.{◌≡◌, ℕ, ◌+◌, ◌-◌, ◌%◌, ◌<◌, ◌≤◌, ◌==◌, min, Bool, true, false, not, ◌&&◌, ◌||◌, nat_lt, List, [], ◌∷◌, length, Option, Some, None, ◌⊎◌, inl, inr, if◌then◌else◌, refl, ap, subst, arith, length-append, Ok, Err, sym}
use Rattle.std.specs.Prelude.{⊤, is_some}
use Rattle.std.proofs.lemmas.Bool.Decides.{nat_tests}
use Rattle.book_base.specs.declared.address.Address.{Address}
use Rattle.book_base.specs.declared.address.Address.TheVariants.{V4, V6}
use Rattle.book_base.specs.declared.address.Pair.{Pair}
use Rattle.book_base.specs.declared.end.End.{End}
use Rattle.book_base.specs.declared.end.End.TheVariants.{A, B}
use Rattle.book_segments.specs.Bytes.{ring}
use Rattle.book_segments.specs.Meant.{meant}
use Rattle.book_segments.specs.Received.{keep, first_missing, runs, below_limit}
use Rattle.book_segments.specs.Segments.{Segment, Reading, Read, Bad as Unread, reading, good, has, segment_length, FIN, SYN, RST, ACK}
use Rattle.book_segments.proofs.Fields.{and_tells, eqb_is, lt_is, lt_not, some_is}
use Rattle.book_keys.specs.Rows.{Row}
use Rattle.book_keys.specs.Coordination.{Sending, follow, choose as choose_row}
use Rattle.book_macs.specs.Contexts.{context_of}
use Rattle.book_endpoint.specs.declared.phase.Phase.{Phase}
use Rattle.book_endpoint.specs.declared.phase.Phase.TheVariants.{Listen, SynSent, SynReceived, Established, FinWait1, FinWait2, CloseWait, Closing, LastAck, TimeWait, Closed}
use Rattle.book_endpoint.specs.declared.arrival.Arrival.TheVariants.{Foreign, Checksum, Closed as AtClosed}
use Rattle.book_endpoint.specs.States.{EndState, window, hears, passed_fin, is_closed, given_end, room, gives, give, close_in, abort, is_due, tick_in, beginning, started, own_mss, default_mss}
use Rattle.book_endpoint.specs.Verdicts.{Judgement}
use Rattle.book_endpoint.specs.Arrivals.{Arrived, syn_alone, syn_ack_alone, unmoved, judged_by, from_peer, arrive}
use Rattle.book_endpoint.specs.Hearing.{Moved, owing, above, in_range, fits_window, rested, finish, past_fin, pass_fin, fin_of, after_own_fin, acked_fin, windowed, acked, peer_mss}
use Rattle.endpoint_steps.specs.Arriving.{heard_runs, hear_data, go_on, acknowledged, ordinary, after_check, arrive_judged, arrive_read}
use Rattle.book_endpoint.specs.Emissions.{Draft, Emitted, Quiet, NoKey, is_sending, is_silent, is_syn_sent, is_syn_received, unsent, fin_sent, rst_draft, syn_draft, syn_ack_draft, data_draft, again_draft, fin_draft, fin_again_draft, ack_draft, sends_data, sends_fin, fitting, resends, is_blocked, most_bytes, blank, seal_known}
use Rattle.endpoint_steps.specs.Drafting.{to_emit, unacknowledged, probe, to_resend, keyed, emitted}
use Rattle.endpoint_steps.proofs.Drafting.{emit_by_drafts, resend_by_drafts}
use Rattle.endpoint_steps.proofs.Arriving.{read_by_cases}
use Rattle.book_link.specs.Outcomes.{Outcome, Idle, Nothing}
use Rattle.book_link.specs.Worlds.{Setup, pair_of, Session, LinkSide, Happening, World, side}
use Rattle.book_link.specs.Steps.{View, Act, put, sent, send, send_again, come, given, acted, act_on, view_of}
use Rattle.law_link.proofs.Tests.{choose}
use Rattle.book_base.proofs.TestLaws.{not_true}
use Rattle.book_base.proofs.TestLaws.{not_false}
use Rattle.law_link.proofs.Phases.{waits, fin_made, own_ok, past_ok, hears_speaks}
use Rattle.law_link.proofs.Sound.{Sound}
use Rattle.law_link.proofs.Stream.{Stream, room_of, kept, edge, not_some, fm_high, fm_stop}
use Rattle.law_link.proofs.Drafts.{sends_data_says, sends_fin_says}
use Rattle.law_progress.proofs.Making.{is_past, is_settled}
use Rattle.law_link.proofs.Whole.{Whole, heard, fin_whole, pass_whole, record_says, acked_whole, windowed_whole, acked_fin_whole, established_any}
use Rattle.law_link.proofs.Moves.{following, acked_phase}
use Rattle.law_link.proofs.Invariant.{AllSound, AllWhole, Inv}
use Rattle.law_link.proofs.Sessions.{both}
use Rattle.law_progress.proofs.Runs.{HasFewRuns, runs_edge, few_later, few_none}
use Rattle.law_progress.proofs.Facts.{Fit, AllFit, AllFits}

-- ---- phases

-- a change of phase that keeps what is said of it
record PhaseFit (old new : Phase) : Type 0 where
  shut : is_closed old ≡ true → is_closed new ≡ true
  waiting : waits new ≡ true → waits old ≡ true
  mute : is_syn_received new ≡ true → is_syn_received old ≡ true
  hearing : hears new ≡ true → hears old ≡ true
  past : is_past new ≡ true → is_past old ≡ true
  gone : fin_made new ≡ true → fin_made old ≡ true
  settled : is_settled new ≡ true → is_settled old ≡ true

fit_phase : (s : EndState) (new : Phase) → PhaseFit s.phase new → Fit s → Fit (record s { phase = new })
fit_phase s new p h = record {
  room = h.room;
  mss = h.mss;
  runs = h.runs;
  rst = λ e. p.shut (h.rst e);
  start = λ e. h.start (p.waiting e);
  mute = λ e. h.mute (p.mute e);
  hearing = λ e. h.hearing (p.hearing e);
  past = λ e. h.past (p.past e);
  gone = λ e. h.gone (p.gone e);
  settled = λ e. h.settled (p.settled e);
}

to_closed : (phase : Phase) → PhaseFit phase Closed
to_closed phase = record { shut = λ e. refl; waiting = λ e. absurd (cc); mute = λ e. absurd (cc); hearing = λ e. absurd (cc); past = λ e. absurd (cc); gone = λ e. absurd (cc); settled = λ e. absurd (cc) }

-- the own FIN acknowledged: settled comes anew
own_past : (phase : Phase) → is_past (after_own_fin phase) ≡ true → is_past phase ≡ true
own_past Closed e = absurd (cc)
own_past LastAck e = refl
own_past FinWait1 e = absurd (cc)
own_past Closing e = refl
own_past Listen e = absurd (cc)
own_past SynSent e = absurd (cc)
own_past SynReceived e = absurd (cc)
own_past Established e = absurd (cc)
own_past FinWait2 e = absurd (cc)
own_past CloseWait e = refl
own_past TimeWait e = refl

own_hears : (phase : Phase) → hears (after_own_fin phase) ≡ true → hears phase ≡ true
own_hears Closed e = absurd (cc)
own_hears LastAck e = absurd (cc)
own_hears FinWait1 e = refl
own_hears Closing e = absurd (cc)
own_hears Listen e = absurd (cc)
own_hears SynSent e = absurd (cc)
own_hears SynReceived e = absurd (cc)
own_hears Established e = refl
own_hears FinWait2 e = refl
own_hears CloseWait e = absurd (cc)
own_hears TimeWait e = absurd (cc)

own_mute : (phase : Phase) → is_syn_received (after_own_fin phase) ≡ true → is_syn_received phase ≡ true
own_mute Closed e = absurd (cc)
own_mute LastAck e = absurd (cc)
own_mute FinWait1 e = absurd (cc)
own_mute Closing e = absurd (cc)
own_mute Listen e = absurd (cc)
own_mute SynSent e = absurd (cc)
own_mute SynReceived e = refl
own_mute Established e = absurd (cc)
own_mute FinWait2 e = absurd (cc)
own_mute CloseWait e = absurd (cc)
own_mute TimeWait e = absurd (cc)

-- the peer's FIN passed: no phase hears then
past_deaf : (phase : Phase) → hears (past_fin phase) ≡ true → ⊥
past_deaf Closed e = absurd (cc)
past_deaf LastAck e = absurd (cc)
past_deaf FinWait1 e = absurd (cc)
past_deaf Closing e = absurd (cc)
past_deaf Listen e = absurd (cc)
past_deaf SynSent e = absurd (cc)
past_deaf SynReceived e = absurd (cc)
past_deaf Established e = absurd (cc)
past_deaf FinWait2 e = absurd (cc)
past_deaf CloseWait e = absurd (cc)
past_deaf TimeWait e = absurd (cc)

past_settled : (phase : Phase) → is_settled (past_fin phase) ≡ true → is_settled phase ≡ true
past_settled Closed e = absurd (cc)
past_settled LastAck e = absurd (cc)
past_settled FinWait1 e = absurd (cc)
past_settled Closing e = absurd (cc)
past_settled Listen e = absurd (cc)
past_settled SynSent e = absurd (cc)
past_settled SynReceived e = absurd (cc)
past_settled Established e = absurd (cc)
past_settled FinWait2 e = refl
past_settled CloseWait e = absurd (cc)
past_settled TimeWait e = refl

past_mute : (phase : Phase) → is_syn_received (past_fin phase) ≡ true → is_syn_received phase ≡ true
past_mute Closed e = absurd (cc)
past_mute LastAck e = absurd (cc)
past_mute FinWait1 e = absurd (cc)
past_mute Closing e = absurd (cc)
past_mute Listen e = absurd (cc)
past_mute SynSent e = absurd (cc)
past_mute SynReceived e = refl
past_mute Established e = absurd (cc)
past_mute FinWait2 e = absurd (cc)
past_mute CloseWait e = absurd (cc)
past_mute TimeWait e = absurd (cc)

-- the own FIN sent, from a phase that sends
record SendsFin (phase : Phase) : Type 0 where
  shut : is_closed phase ≡ true → is_closed (fin_sent phase) ≡ true
  waiting : waits (fin_sent phase) ≡ true → ⊥
  mute : is_syn_received (fin_sent phase) ≡ true → ⊥
  hearing : hears (fin_sent phase) ≡ true → hears phase ≡ true
  past : is_past (fin_sent phase) ≡ true → is_past phase ≡ true
  settled : is_settled (fin_sent phase) ≡ true → ⊥

sends_fin_fits : (phase : Phase) → is_sending phase ≡ true → SendsFin phase
sends_fin_fits Listen o = absurd (cc)
sends_fin_fits SynSent o = absurd (cc)
sends_fin_fits SynReceived o = absurd (cc)
sends_fin_fits Closed o = absurd (cc)
sends_fin_fits FinWait1 o = absurd (cc)
sends_fin_fits Closing o = absurd (cc)
sends_fin_fits LastAck o = absurd (cc)
sends_fin_fits FinWait2 o = absurd (cc)
sends_fin_fits TimeWait o = absurd (cc)
sends_fin_fits Established o = record { shut = λ e. absurd (cc); waiting = λ e. absurd (cc); mute = λ e. absurd (cc); hearing = λ e. refl; past = λ e. absurd (cc); settled = λ e. absurd (cc) }
sends_fin_fits CloseWait o = record { shut = λ e. absurd (cc); waiting = λ e. absurd (cc); mute = λ e. absurd (cc); hearing = λ e. absurd (cc); past = λ e. refl; settled = λ e. absurd (cc) }

-- a later next number, in a phase where nothing is settled
unsettled : (phase : Phase) → (is_sending phase ≡ true) ⊎ ((is_syn_sent phase ≡ true) ⊎ (is_syn_received phase ≡ true)) → is_settled phase ≡ true → ⊥
unsettled FinWait2 (inl x) e = absurd (cc)
unsettled FinWait2 (inr (inl x)) e = absurd (cc)
unsettled FinWait2 (inr (inr x)) e = absurd (cc)
unsettled TimeWait (inl x) e = absurd (cc)
unsettled TimeWait (inr (inl x)) e = absurd (cc)
unsettled TimeWait (inr (inr x)) e = absurd (cc)
unsettled Listen x e = absurd (cc)
unsettled SynSent x e = absurd (cc)
unsettled SynReceived x e = absurd (cc)
unsettled Established x e = absurd (cc)
unsettled FinWait1 x e = absurd (cc)
unsettled CloseWait x e = absurd (cc)
unsettled Closing x e = absurd (cc)
unsettled LastAck x e = absurd (cc)
unsettled Closed x e = absurd (cc)

next_fit : (s : EndState) (next : ℕ) → s.next ≤ next → (is_sending s.phase ≡ true) ⊎ ((is_syn_sent s.phase ≡ true) ⊎ (is_syn_received s.phase ≡ true)) → Fit s → Fit (record s { next = next })
next_fit s next more may h = record {
  room = h.room;
  mss = h.mss;
  runs = h.runs;
  rst = h.rst;
  start = h.start;
  mute = h.mute;
  hearing = h.hearing;
  past = h.past;
  gone = λ e. let low = h.gone e in omega arith;
  settled = λ e. absurd (unsettled s.phase may e);
}

own_shut : (phase : Phase) → is_closed phase ≡ true → is_closed (after_own_fin phase) ≡ true
own_shut Closed e = refl
own_shut LastAck e = refl
own_shut FinWait1 e = absurd (cc)
own_shut Closing e = absurd (cc)
own_shut Listen e = absurd (cc)
own_shut SynSent e = absurd (cc)
own_shut SynReceived e = absurd (cc)
own_shut Established e = absurd (cc)
own_shut FinWait2 e = absurd (cc)
own_shut CloseWait e = absurd (cc)
own_shut TimeWait e = absurd (cc)

past_shut : (phase : Phase) → is_closed phase ≡ true → is_closed (past_fin phase) ≡ true
past_shut Closed e = refl
past_shut LastAck e = absurd (cc)
past_shut FinWait1 e = absurd (cc)
past_shut Closing e = absurd (cc)
past_shut Listen e = absurd (cc)
past_shut SynSent e = absurd (cc)
past_shut SynReceived e = absurd (cc)
past_shut Established e = absurd (cc)
past_shut FinWait2 e = absurd (cc)
past_shut CloseWait e = absurd (cc)
past_shut TimeWait e = absurd (cc)

-- ---- a segment that is made

abbrev MayFit : Option Draft → Type 0
MayFit None = ⊤
MayFit (Some out) = Fit out.state

fin_fit : (s : EndState) → is_sending s.phase ≡ true → given_end s ≤ s.next → Fit s → Fit (fin_draft s).state
fin_fit s on all h =
    let p = sends_fin_fits s.phase on in
    record {
      room = h.room;
      mss = h.mss;
      runs = h.runs;
      rst = λ e. p.shut (h.rst e);
      start = λ e. absurd (p.waiting e);
      mute = λ e. absurd (p.mute e);
      hearing = λ e. h.hearing (p.hearing e);
      past = λ e. h.past (p.past e);
      gone = λ e. omega arith;
      settled = λ e. absurd (p.settled e);
    }

emit_fit : (s : EndState) (most : ℕ) → Fit s → MayFit (to_emit s most)
unfolding to_emit
emit_fit s most h =
    let P = MayFit in
    choose P s.rst_owed (Some (rst_draft s)) _ (λ t. record { room = h.room; mss = h.mss; runs = h.runs; rst = λ e. absurd (cc); start = h.start; mute = h.mute; hearing = h.hearing; past = h.past; gone = h.gone; settled = h.settled }) (λ e1.
    choose P (is_syn_sent s.phase && (s.next == s.isn)) (Some (syn_draft s (record s { next = s.isn + 1 }))) _
    (λ t. let says = and_tells (is_syn_sent s.phase) (s.next == s.isn) t in let at = eqb_is s.next s.isn says.1 in next_fit s (s.isn + 1) (omega arith) (inr (inl says.0)) h) (λ e2.
    choose P (is_syn_received s.phase && (s.next == s.isn)) (Some (syn_ack_draft s (record s { next = s.isn + 1 }))) _
    (λ t. let says = and_tells (is_syn_received s.phase) (s.next == s.isn) t in let at = eqb_is s.next s.isn says.1 in next_fit s (s.isn + 1) (omega arith) (inr (inr says.0)) h) (λ e3.
    choose P (sends_data s) (Some (data_draft s (fitting s most))) _ (λ t. next_fit s (s.next + fitting s most) (omega arith) (inl (sends_data_says s t).0) h) (λ e4.
    choose P (sends_fin s) (Some (fin_draft s)) _ (λ t. let says = sends_fin_says s t in let none = says.2 in fin_fit s says.0 (omega arith) h) (λ e5.
    choose P (s.ack_owed && not (is_silent s.phase)) (Some (ack_draft s)) None (λ t. h) (λ t. tt))))))

resend_fit : (s : EndState) (most : ℕ) → Fit s → MayFit (to_resend s most)
unfolding to_resend
resend_fit s most h =
    let P = MayFit in
    choose P (is_syn_sent s.phase && nat_lt s.isn s.next) (Some (syn_draft s s)) _ (λ t. h) (λ e1.
    choose P (is_syn_received s.phase && nat_lt s.isn s.next) (Some (syn_ack_draft s s)) _ (λ t. h) (λ e2.
    choose P (resends s.phase && nat_lt s.una s.next) (Some (unacknowledged s most)) _
    (λ t. choose (λ (d : Draft). Fit d.state) (nat_lt s.una (given_end s)) (again_draft s (min (s.next - s.una) most)) (fin_again_draft s) (λ g. h) (λ g. h)) (λ e3.
    choose P (is_blocked s) (probe s) None
    (λ t. let on = (and_tells (is_sending s.phase) (s.una == s.next) (and_tells (is_sending s.phase && (s.una == s.next)) (s.send_window == 0) t).0).0 in
    choose P (nat_lt 0 (unsent s)) (Some (data_draft s 1)) _ (λ g. next_fit s (s.next + 1) (omega arith) (inl on) h)
    (λ g. let none = lt_not 0 (unsent s) g in choose P s.closing (Some (fin_draft s)) None (λ c. fin_fit s on (omega arith) h) (λ c. tt)))
    (λ t. tt))))

module _ (v : View) (pair : Pair) (s : EndState) (without : Outcome) (h : Fit s) where
  sealed_fit : (out : Draft) (sending : Sending) (o : Option (List ℕ)) → Fit out.state → Fit (sent v s without (seal_known pair s out sending o)).state
  sealed_fit out sending None f = h
  sealed_fit out sending (Some c) f = f

  keyed_fit : (sending : Sending) (o : Option Draft) → MayFit o → Fit (sent v s without (keyed pair s sending o)).state
  keyed_fit sending None f = h
  keyed_fit sending (Some out) f = sealed_fit out sending (context_of (blank pair s out sending) (Some s.isn) s.peer_isn) f

  emitted_fit : (draft : ℕ → Option Draft) (o : Option Sending) → ((most : ℕ) → MayFit (draft most)) → Fit (sent v s without (emitted pair s draft o)).state
  emitted_fit draft None f = choose (λ (x : Emitted). Fit (sent v s without x).state) (is_some (draft 0)) NoKey Quiet (λ t. h) (λ t. h)
  emitted_fit draft (Some sending) f = keyed_fit sending (draft (most_bytes pair s sending)) (f (most_bytes pair s sending))

pub send_fit : (setup : Setup) (e : End) (w : World) (s : EndState) → Fit s → Fit (send (view_of setup w e) s).state
send_fit setup e w s h =
    subst (λ (x : Emitted). Fit (sent (view_of setup w e) s Idle x).state) (sym (emit_by_drafts (side w e).rows (pair_of setup e) (side w e).clock s))
    (emitted_fit (view_of setup w e) (pair_of setup e) s Idle h (to_emit s) (choose_row s.current (side w e).rows (pair_of setup e) (side w e).clock) (λ most. emit_fit s most h))

pub again_fit : (setup : Setup) (e : End) (w : World) (s : EndState) → Fit s → Fit (send_again (view_of setup w e) s).state
again_fit setup e w s h =
    subst (λ (x : Emitted). Fit (sent (view_of setup w e) s Nothing x).state) (sym (resend_by_drafts (side w e).rows (pair_of setup e) (side w e).clock s))
    (emitted_fit (view_of setup w e) (pair_of setup e) s Nothing h (to_resend s) (choose_row s.current (side w e).rows (pair_of setup e) (side w e).clock) (λ most. resend_fit s most h))

-- ---- the calls

pub given_fit : (piece : List ℕ) (s : EndState) → Sound s → Fit s → Fit (given piece s).state
given_fit piece s sound h =
    let P : Act → Type 0 = λ a. Fit a.state in
    choose P (not (gives s)) _ _ (λ t. h) (λ t.
    choose P (nat_lt (room s) (length piece)) _ _ (λ full. h) (λ fits.
    let low = lt_not (room s) (length piece) fits in
    let longer = length-append s.given piece in
    let old = h.room in
    let unclosed = not_true s.closing (and_tells (not s.closing) (not (is_closed s.phase)) (not_false (gives s) t)).0 in
    let goal : Fit (give piece s) = record { room = omega arith; mss = h.mss; runs = h.runs; rst = h.rst; start = h.start; mute = h.mute; hearing = h.hearing; past = h.past; gone = λ e. let on = sound.closed e in absurd (cc); settled = h.settled } in goal))

pub close_fit : (s : EndState) (phase : Phase) → Fit s → Fit (close_in phase s)
close_fit s Listen h = fit_phase s Closed (to_closed s.phase) h
close_fit s SynSent h = fit_phase s Closed (to_closed s.phase) h
close_fit s Closed h = h
close_fit s _ h = h

pub abort_fit : (s : EndState) → Fit s → Fit (abort s)
abort_fit s h = record { room = h.room; mss = h.mss; runs = h.runs; rst = λ e. refl; start = λ e. absurd (cc); mute = λ e. absurd (cc); hearing = λ e. absurd (cc); past = λ e. absurd (cc); gone = λ e. absurd (cc); settled = λ e. absurd (cc) }

pub tick_fit : (s : EndState) (now : ℕ) (phase : Phase) → Fit s → Fit (tick_in phase now s)
tick_fit s now TimeWait h = choose Fit (is_due s.deadline now) (record s { phase = Closed }) s (λ t. fit_phase s Closed (to_closed s.phase) h) (λ t. h)
tick_fit s now _ h = h

-- ---- an arrival

rested_fit : (s : EndState) (now : ℕ) (phase : Phase) (o : Option ℕ) → Fit s → Fit (rested s now phase o)
rested_fit s now TimeWait None h = h
rested_fit s now _ _ h = h

finish_fit : (s : EndState) (now : ℕ) → Fit s → Fit (finish s now).state
finish_fit s now h = rested_fit s now s.phase s.deadline h

-- few runs are left where the test says so
few_heard : (o : Option ℕ) (taken : List ℕ) (m : ℕ → Option ℕ) (fin : Option ℕ) (x n : ℕ) (payload : List ℕ) → (q : ℕ) × (o ≡ Some q) → Stream o taken m fin x
    → let new = keep m (record { number = n; bytes = payload }) (record { low = x; high = below_limit fin (x + room_of o taken fin x) }) in
    let y = first_missing new x (room_of o taken fin x) in
    nat_lt 64 (runs new false y (x + room_of o taken fin x - y)) ≡ false → HasFewRuns new y
few_heard None taken m fin x n payload known h test = absurd (cc)
few_heard (Some q) taken m fin x n payload known h test =
    let k = kept q taken m fin x n payload h in
    let new = keep m (record { number = n; bytes = payload }) (record { low = x; high = below_limit fin (x + room_of (Some q) taken fin x) }) in
    let w = room_of (Some q) taken fin x in
    let y = first_missing new x w in
    let high = fm_high new x w in
    let low = lt_not 64 (runs new false y (x + w - y)) test in
    let far = edge fin (q + 1 + length taken) x h.begun in
    let none : (j : ℕ) → y + (x + w - y) ≤ j → new j ≡ None = λ j at. not_some (new j) (λ b is. let top = k.high j b is in absurd (omega arith)) in
    λ i. let less = runs_edge new false y (x + w - y) i none in omega arith

passed_now : (o : Option ℕ) (f x : ℕ) → o ≡ Some f → f < x → passed_fin o x ≡ true
passed_now None f x e more = absurd (cc)
passed_now (Some g) f x e more = let same = some_is g f e in grind (arith, nat_tests)

unpassed_now : (o : Option ℕ) (x : ℕ) → ((f : ℕ) → o ≡ Some f → x ≤ f) → passed_fin o x ≡ false
unpassed_now None x h = refl
unpassed_now (Some f) x h = let low = h f refl in grind (arith, nat_tests)

unpassed_low : (o : Option ℕ) (x f : ℕ) → passed_fin o x ≡ false → o ≡ Some f → x ≤ f
unpassed_low None x f e is = absurd (cc)
unpassed_low (Some g) x f e is = let same = some_is g f is in let low = lt_not g x e in omega arith

pass_fit_if : (t : EndState) (f : ℕ) (b : Bool) → t.fin ≡ Some f → (f == t.expected) ≡ b → Fit t → Whole (if b then record t { expected = f + 1; phase = past_fin t.phase } else t) → Fit (if b then record t { expected = f + 1; phase = past_fin t.phase } else t)
pass_fit_if t f true fin is h whole =
    let at = eqb_is f t.expected is in
    let passed = passed_now t.fin f (f + 1) fin (omega arith) in
    record {
      room = h.room;
      mss = h.mss;
      runs = few_later t.received t.expected (f + 1) h.runs (omega arith) whole.missing;
      rst = λ e. past_shut t.phase (h.rst e);
      start = λ e. h.start ((past_ok t.phase).waiting e);
      mute = λ e. h.mute (past_mute t.phase e);
      hearing = λ e. absurd (past_deaf t.phase e);
      past = λ e. passed;
      gone = λ e. h.gone ((past_ok t.phase).made e);
      settled = λ e. h.settled (past_settled t.phase e);
    }
pass_fit_if t f false fin is h whole = h

pass_fit : (t : EndState) (o : Option ℕ) → t.fin ≡ o → Fit t → Whole (pass_fin t o) → Fit (pass_fin t o)
pass_fit t None fin h whole = h
pass_fit t (Some f) fin h whole = pass_fit_if t f (f == t.expected) fin refl h whole

-- a FIN that is recorded isn't below the number expected
fin_low : (o : Option ℕ) (b : Bool) (g x f : ℕ) → ((k : ℕ) → o ≡ Some k → x ≤ k) → (b ≡ true → x ≤ g) → fin_of o b g ≡ Some f → x ≤ f
fin_low (Some k) b g x f old new e = let same = some_is k f e in let low = old k refl in omega arith
fin_low None true g x f old new e = let same = some_is g f e in let low = new refl in omega arith
fin_low None false g x f old new e = absurd (cc)

heard_fit : (s : EndState) (d : Segment) (n now : ℕ) (b : Bool) → hears s.phase ≡ true → (q : ℕ) × (s.peer_isn ≡ Some q) → Whole s → Fit s
    → let m = keep s.received (record { number = n; bytes = d.payload }) (record { low = s.expected; high = below_limit s.fin (s.expected + window s) }) in
    let y = first_missing m s.expected (window s) in
    nat_lt 64 (runs m false y (s.expected + window s - y)) ≡ b → Fit (heard_runs s m d n now b).state
heard_fit s d n now true on known whole h test = h
heard_fit s d n now false on known whole h test =
    let m = keep s.received (record { number = n; bytes = d.payload }) (record { low = s.expected; high = below_limit s.fin (s.expected + window s) }) in
    let f = n + length d.payload in
    let records = has FIN d && in_range f s.expected (s.expected + window s) && (runs m false f (s.expected + window s - f) == 0) in
    let t : EndState = record s { received = m; fin = fin_of s.fin records f; ack_owed = true; expected = first_missing m s.expected (window s) } in
    let r = heard s.peer_isn s.taken s.received s.fin s.expected n d.payload known whole.stream in
    let says : records ≡ true → (s.expected ≤ f) × (f < s.expected + window s) × (runs m false f (s.expected + window s - f) ≡ 0) =
    λ e. record_says (has FIN d) (runs m false f (s.expected + window s - f) == 0) f s.expected (s.expected + window s) (runs m false f (s.expected + window s - f)) e refl in
    let g = fin_whole s.peer_isn s.taken m s.fin s.expected (first_missing m s.expected (window s)) f records known whole.stream.begun refl says r.0 in
    let passed = pass_whole t t.fin refl g r.1 whole.ends in
    let few = few_heard s.peer_isn s.taken s.received s.fin s.expected n d.payload known whole.stream test in
    let old : (k : ℕ) → s.fin ≡ Some k → s.expected ≤ k = λ k is. unpassed_low s.fin s.expected k (h.hearing on) is in
    let unpassed : passed_fin t.fin t.expected ≡ false =
    unpassed_now t.fin t.expected (λ k is. fm_stop m s.expected (window s) k (fin_low s.fin records f s.expected k old (λ e. (says e).0) is) (g.fin_none k k is (omega arith))) in
    let fit : Fit t = record {
      room = h.room;
      mss = h.mss;
      runs = few;
      rst = h.rst;
      start = h.start;
      mute = λ e. absurd (hears_unmute s.phase on e);
      hearing = λ e. unpassed;
      past = λ e. absurd (hears_unpast s.phase on e);
      gone = h.gone;
      settled = h.settled;
    } in
    finish_fit (pass_fin t t.fin) now (pass_fit t t.fin refl fit passed)
  where
    hears_unmute : (phase : Phase) → hears phase ≡ true → is_syn_received phase ≡ true → ⊥
    hears_unmute SynReceived a b = absurd (cc)
    hears_unmute Listen a b = absurd (cc)
    hears_unmute SynSent a b = absurd (cc)
    hears_unmute Established a b = absurd (cc)
    hears_unmute FinWait1 a b = absurd (cc)
    hears_unmute FinWait2 a b = absurd (cc)
    hears_unmute CloseWait a b = absurd (cc)
    hears_unmute Closing a b = absurd (cc)
    hears_unmute LastAck a b = absurd (cc)
    hears_unmute TimeWait a b = absurd (cc)
    hears_unmute Closed a b = absurd (cc)

    hears_unpast : (phase : Phase) → hears phase ≡ true → is_past phase ≡ true → ⊥
    hears_unpast SynReceived a b = absurd (cc)
    hears_unpast Listen a b = absurd (cc)
    hears_unpast SynSent a b = absurd (cc)
    hears_unpast Established a b = absurd (cc)
    hears_unpast FinWait1 a b = absurd (cc)
    hears_unpast FinWait2 a b = absurd (cc)
    hears_unpast CloseWait a b = absurd (cc)
    hears_unpast Closing a b = absurd (cc)
    hears_unpast LastAck a b = absurd (cc)
    hears_unpast TimeWait a b = absurd (cc)
    hears_unpast Closed a b = absurd (cc)

hear_fit : (s : EndState) (d : Segment) (n now : ℕ) (b : Bool) → (b ≡ true → hears s.phase ≡ true) → (b ≡ true → (q : ℕ) × (s.peer_isn ≡ Some q)) → Whole s → Fit s → Fit (hear_data s d n now b).state
hear_fit s d n now false on known whole h = finish_fit s now h
hear_fit s d n now true on known whole h = heard_fit s d n now _ (on refl) (known refl) whole h refl

windowed_fit : (s : EndState) (old : ℕ) (d : Segment) (k : ℕ) (a : Option ℕ) → Fit s → Fit (windowed s old d k a)
windowed_fit s old d k None h = h
windowed_fit s old d k (Some a) h = choose Fit _ (record s { send_window = d.window; wl1 = k; wl2 = a }) s (λ e. h) (λ e. h)

-- the next number is at most the one after the FIN
abbrev High : EndState → Type 0
High s = s.next ≤ s.isn + 2 + length s.given

-- the acknowledgement was taken
abbrev Reaches : EndState → Option ℕ → Type 0
Reaches s None = ⊤
Reaches s (Some a) = a ≤ s.una

own_fin_fit : (s : EndState) → s.next ≤ s.una → Fit s → Fit (record s { phase = after_own_fin s.phase })
own_fin_fit s all h = record {
  room = h.room;
  mss = h.mss;
  runs = h.runs;
  rst = λ e. own_shut s.phase (h.rst e);
  start = λ e. h.start ((own_ok s.phase).waiting e);
  mute = λ e. h.mute (own_mute s.phase e);
  hearing = λ e. h.hearing (own_hears s.phase e);
  past = λ e. h.past (own_past s.phase e);
  gone = λ e. h.gone ((own_ok s.phase).made e);
  settled = λ e. all;
}

fin_acked_fit : (s : EndState) (a : Option ℕ) → High s → Reaches s a → Fit s → Fit (acked_fin s a)
fin_acked_fit s None high told h = choose Fit (above None (s.isn + 1 + length s.given)) (record s { phase = after_own_fin s.phase }) s (λ e. absurd (cc)) (λ e. h)
fin_acked_fit s (Some a) high told h =
    choose Fit (nat_lt (s.isn + 1 + length s.given) a) (record s { phase = after_own_fin s.phase }) s
    (λ e. let more = lt_is (s.isn + 1 + length s.given) a e in own_fin_fit s (omega arith) h) (λ e. h)

windowed_high : (s : EndState) (old : ℕ) (d : Segment) (k : ℕ) (a : Option ℕ) → High s → High (windowed s old d k a)
windowed_high s old d k None h = h
windowed_high s old d k (Some a) h = choose High _ (record s { send_window = d.window; wl1 = k; wl2 = a }) s (λ e. h) (λ e. h)

windowed_reaches : (s : EndState) (old : ℕ) (d : Segment) (k : ℕ) (a : Option ℕ) → Reaches s a → Reaches (windowed s old d k a) a
windowed_reaches s old d k None h = tt
windowed_reaches s old d k (Some a) h = choose (λ (t : EndState). a ≤ t.una) _ (record s { send_window = d.window; wl1 = k; wl2 = a }) s (λ e. h) (λ e. h)

acked_high : (s : EndState) (o : Option ℕ) → High s → High (acked s o)
acked_high s None h = h
acked_high s (Some a) h = choose High (nat_lt s.una a) (record s { una = a }) s (λ e. h) (λ e. h)

acked_reaches : (s : EndState) (o : Option ℕ) → Reaches (acked s o) o
acked_reaches s None = tt
acked_reaches s (Some a) = choose (λ (t : EndState). a ≤ t.una) (nat_lt s.una a) (record s { una = a }) s (λ e. omega arith) (λ e. lt_not s.una a e)

go_on_fit : (s : EndState) (old : ℕ) (d : Segment) (n now : ℕ) (a : Option ℕ) → High s → Reaches s a → Whole s → Fit s → Fit (go_on s old d n now a).state
go_on_fit s old d n now a high told whole h =
    let w = windowed s old d n a in
    let t = acked_fin w a in
    let done = acked_fin_whole w a (windowed_whole s old d n a whole) in
    let on : (hears t.phase && (nat_lt 0 (length d.payload) || has FIN d)) ≡ true → hears t.phase ≡ true = λ e. (and_tells (hears t.phase) (nat_lt 0 (length d.payload) || has FIN d) e).0 in
    hear_fit t d n now _ on (λ e. done.ends.known (hears_speaks t.phase (on e))) done
    (fin_acked_fit w a (windowed_high s old d n a high) (windowed_reaches s old d n a told) (windowed_fit s old d n a h))

acked_fit : (s : EndState) (o : Option ℕ) → waits s.phase ≡ false → Fit s → Fit (acked s o)
acked_fit s None told h = h
acked_fit s (Some a) told h =
    choose Fit (nat_lt s.una a) (record s { una = a }) s
    (λ e. let up = lt_is s.una a e in let old = h.room in
    record { room = omega arith; mss = h.mss; runs = h.runs; rst = h.rst; start = λ g. absurd (cc); mute = h.mute; hearing = h.hearing; past = h.past; gone = h.gone; settled = λ g. let low = h.settled g in omega arith }) (λ e. h)

established_fit : (s : EndState) → s.phase ≡ SynReceived → Fit s → Fit (record s { phase = Established })
established_fit s is h =
    let none = h.mute (ap is_syn_received is) in
    record {
      room = h.room;
      mss = h.mss;
      runs = h.runs;
      rst = λ e. let shut = h.rst e in let on = ap is_closed is in absurd (cc);
      start = λ e. absurd (cc);
      mute = λ e. absurd (cc);
      hearing = λ e. ap (λ (o : Option ℕ). passed_fin o s.expected) none;
      past = λ e. absurd (cc);
      gone = λ e. absurd (cc);
      settled = λ e. absurd (cc);
    }

pick_moved : (b : Bool) (t u : Moved) → (b ≡ true → Fit t.state) → (b ≡ false → Fit u.state) → Fit (if b then t else u).state
pick_moved true t u f g = f refl
pick_moved false t u f g = g refl

acknowledged_fit : (s : EndState) (d : Segment) (n now : ℕ) (a : Option ℕ) (phase : Phase) → s.phase ≡ phase → waits s.phase ≡ false → High s → Whole s → Fit s → Fit (acknowledged s d n now a phase).state
acknowledged_fit s d n now a SynReceived is told high whole h =
    pick_moved (above a s.una && not (above a s.next)) _ _
    (λ e.
    let t = and_tells (above a s.una) (not (above a s.next)) e in
    go_on_fit (record (acked s a) { phase = Established }) s.una d n now a (acked_high s a high) (acked_reaches s a) (established_any s a t.0 (not_true (above a s.next) t.1) is whole)
    (established_fit (acked s a) (acked_phase s a SynReceived is) (acked_fit s a told h)))
    (λ e. h)
acknowledged_fit s d n now a _ is told high whole h =
    pick_moved (above a s.next) _ _ (λ e. h) (λ e. go_on_fit (acked s a) s.una d n now a (acked_high s a high) (acked_reaches s a) (acked_whole s a e whole) (acked_fit s a told h))

ordinary_fit : (s : EndState) (c : Option ℕ) (d : Segment) (n now : ℕ) → waits s.phase ≡ false → High s → Whole s → Fit s → Fit (ordinary s (following c s) d n now).state
ordinary_fit s c d n now told high whole h =
    pick_moved (has RST d) _ _
    (λ e. pick_moved (n == s.expected) _ _ (λ e. fit_phase s Closed (to_closed s.phase) h) (λ e. h))
    (λ e. pick_moved (has SYN d) _ _ (λ e. h)
    (λ e. pick_moved (not (has ACK d)) _ _ (λ e. h) (λ e. acknowledged_fit (following c s) d n now (meant d.acknowledgement s.una) s.phase refl told high whole h)))

unowed : (s : EndState) (phase : Phase) → s.phase ≡ phase → is_closed phase ≡ false → Fit s → s.rst_owed ≡ true → ⊥
unowed s phase is awake h e = let shut = h.rst e in let same = ap is_closed is in absurd (cc)

peer_low : (pair : Pair) (d : Segment) → 88 ≤ peer_mss pair d
peer_low pair d = omega arith

check_fit : (pair : Pair) (s : EndState) (c : Option ℕ) (d : Segment) (n now : ℕ) (phase : Phase) → s.phase ≡ phase → Sound s → Whole s → Fit s → Fit (after_check pair s (following c s) d n now phase).state
check_fit pair s c d n now Listen is sound whole h =
    pick_moved (syn_alone d) _ _
    (λ e.
    let bare = whole.stream.unknown (sound.unknown (ap waits is)) in
    let none = bare.2 in
    let room = h.room in
    let low = peer_low pair d in
    record { room = room; mss = low; runs = few_none s.received (n + 1) none; rst = λ owed. absurd (unowed s Listen is refl h owed); start = λ g. absurd (cc); mute = λ g. bare.1; hearing = λ g. absurd (cc); past = λ g. absurd (cc); gone = λ g. absurd (cc); settled = λ g. absurd (cc) })
    (λ e. h)
check_fit pair s c d n now SynSent is sound whole h =
    pick_moved (not (syn_ack_alone d)) _ _ (λ e. h)
    (λ e. pick_moved (nat_lt s.isn s.next && (d.acknowledgement == (s.isn + 1) % ring)) _ _
    (λ g.
    let bare = whole.stream.unknown (sound.unknown (ap waits is)) in
    let none = bare.2 in
    let room = h.room in
    let start = h.start (ap waits is) in
    let low = peer_low pair d in
    record { room = omega arith; mss = low; runs = few_none s.received (n + 1) none; rst = λ owed. absurd (unowed s SynSent is refl h owed); start = λ g. absurd (cc); mute = λ g. absurd (cc); hearing = λ g. ap (λ (o : Option ℕ). passed_fin o (n + 1)) bare.1; past = λ g. absurd (cc); gone = λ g. absurd (cc); settled = λ g. absurd (cc) })
    (λ g. h))
check_fit pair s c d n now _ is sound whole h =
    pick_moved (fits_window n (segment_length d) s.expected (window s)) _ _ (λ e. ordinary_fit s c d n now (ap waits is) sound.next_high whole h) (λ e. choose Fit (has RST d) s (owing s) (λ e. h) (λ e. h))

judged_fit : (rows : List Row) (pair : Pair) (now : ℕ) (s : EndState) (d : Segment) (j : Judgement) → Sound s → Whole s → Fit s → Fit (arrive_judged rows pair now s d j).state
judged_fit rows pair now s d (Err why) sound whole h = h
judged_fit rows pair now s d (Ok p) sound whole h = check_fit pair s (follow s.current rows pair p.rnext_key_id now) d p.number now s.phase refl sound whole h

read_fit : (rows : List Row) (pair : Pair) (now : ℕ) (s : EndState) (r : Reading) → Sound s → Whole s → Fit s → Fit (arrive_read rows pair now s r).state
read_fit rows pair now s (Unread fault) sound whole h = h
read_fit rows pair now s (Read d) sound whole h =
    let P : Arrived → Type 0 = λ a. Fit a.state in
    choose P (not (from_peer pair d)) (unmoved s Foreign) _ (λ t. h) (λ t.
    choose P (not (good d)) (unmoved s Checksum) _ (λ t. h) (λ t.
    choose P (is_closed s.phase) (unmoved s AtClosed) (arrive_judged rows pair now s d (judged_by rows pair now s d)) (λ t. h) (λ t. judged_fit rows pair now s d (judged_by rows pair now s d) sound whole h)))

pub come_fit : (setup : Setup) (e : End) (w : World) (bytes : List ℕ) (s : EndState) → Sound s → Whole s → Fit s → Fit (come bytes (view_of setup w e) s).state
come_fit setup e w bytes s sound whole h =
    subst (λ (a : Arrived). Fit a.state) (read_by_cases (side w e).rows (pair_of setup e) (side w e).clock s (reading bytes)) (read_fit (side w e).rows (pair_of setup e) (side w e).clock s (reading bytes) sound whole h)

-- ---- a session begins

default_low : (a : Address) → 88 ≤ default_mss a
default_low (V4 bytes) = omega arith
default_low (V6 bytes) = omega arith

own_fits : (a : Address) → 88 ≤ own_mss a
own_fits (V4 bytes) = omega arith
own_fits (V6 bytes) = omega arith

pub beginning_fit : (pair : Pair) (phase : Phase) (isn : ℕ) → waits phase ≡ true → Fit (beginning pair phase isn)
beginning_fit pair phase isn waiting =
    let low = default_low pair.local.address in
    record { room = omega arith; mss = low; runs = few_none (λ p. None) 0 (λ j. refl); rst = λ e. absurd (cc); start = λ e. omega arith; mute = λ e. refl; hearing = λ e. refl; past = λ e. absurd (unpast phase waiting e); gone = λ e. absurd (unmade phase waiting e); settled = λ e. omega arith }
  where
    unpast : (phase : Phase) → waits phase ≡ true → is_past phase ≡ true → ⊥
    unpast Listen a b = absurd (cc)
    unpast SynSent a b = absurd (cc)
    unpast _ a b = absurd (cc)

    unmade : (phase : Phase) → waits phase ≡ true → fin_made phase ≡ true → ⊥
    unmade Listen a b = absurd (cc)
    unmade SynSent a b = absurd (cc)
    unmade _ a b = absurd (cc)

pub started_fit : (pair : Pair) (isn peer : ℕ) → Fit (started pair isn peer)
started_fit pair isn peer =
    let low = own_fits pair.local.address in
    record { room = omega arith; mss = low; runs = few_none (λ p. None) (peer + 1) (λ j. refl); rst = λ e. absurd (cc); start = λ e. absurd (cc); mute = λ e. refl; hearing = λ e. refl; past = λ e. absurd (cc); gone = λ e. absurd (cc); settled = λ e. absurd (cc) }

-- ---- the sides

pub put_fit : (w : World) (e : End) (now : LinkSide) (happened : Option Happening) → AllFit now.sessions → AllFits w → AllFits (put w e now happened)
put_fit w A now happened new h = both (λ (f : End). AllFit (side (put w A now happened) f).sessions) new (h B)
put_fit w B now happened new h = both (λ (f : End). AllFit (side (put w B now happened) f).sessions) (h A) new

pub act_fit : (setup : Setup) (w : World) (e : End) (sessions : List Session) (call : EndState → Act) → (side w e).sessions ≡ sessions → Inv setup w → ((s : EndState) → Sound s → Whole s → Fit s → Fit (call s).state) → AllFits w
    → AllFits (act_on w e sessions call).world
act_fit setup w e [] call is inv keeps h = h
act_fit setup w e (s ∷ rest) call is inv keeps h =
    let sound : AllSound (s ∷ rest) = subst AllSound is (inv.sound e) in
    let whole : AllWhole (s ∷ rest) = subst AllWhole is (inv.whole e) in
    let fit : AllFit (s ∷ rest) = subst AllFit is (h e) in
    put_fit w e (record { clock = (side w e).clock; rows = (side w e).rows; sessions = acted s (call s.state) ∷ rest }) (call s.state).happened (keeps s.state sound.0 whole.0 fit.0, fit.1) h
