-- Who has nothing to send, and what is known of its timer then.
use Rattle.std.proofs.Common.{◌≡◌, ℕ, ◌+◌, ◌≤◌, ◌==◌, Bool, true, false, not, ◌&&◌, nat_lt, List, Option, Some, None, refl, sym, ap, ◌∙◌, ◌⊎◌, inl, inr, subst, if◌then◌else◌}
use Rattle.std.specs.Prelude.{is_some}
use Rattle.book_base.specs.declared.address.Pair.{Pair}
use Rattle.book_segments.specs.Segments.{Segment, has, ACK, SYN}
use Rattle.book_segments.proofs.Fields.{and_tells}
use Rattle.book_macs.specs.Contexts.{context, context_known, context_of}
use Rattle.book_keys.specs.Coordination.{Sending, choose}
use Rattle.book_keys.specs.Rows.{Row}
use Rattle.book_endpoint.specs.declared.phase.Phase.{Phase}
use Rattle.book_endpoint.specs.declared.phase.Phase.TheVariants.{CloseWait, Closed, Established, SynReceived, TimeWait}
use Rattle.book_endpoint.specs.States.{EndState, is_due, tick, tick_in}
use Rattle.book_endpoint.specs.Emissions.{Due, Rst, Syn, SynAck, Data, Fin, Ack, due_next, draft_next, made_if_due, Draft, Quiet, NoKey, ack_draft, blank, data_draft, emit, fin_draft, fitting, is_sending, is_silent, is_syn_received, is_syn_sent, most_bytes, rst_draft, seal_known, sends_data, sends_fin, syn_ack_draft, syn_draft, unsent, window_end}
use Rattle.endpoint_steps.specs.Drafting.{emitted, keyed, to_emit}
use Rattle.endpoint_steps.proofs.Drafting.{drafted_if, emit_by_drafts, to_emit_is}
use Rattle.book_stack.specs.Watches.{ConnectionWatch, at_rest, awaits, is_time_wait, running}
use Rattle.law_stack.specs.Resting.{Settled, has_nothing}
use Rattle.law_stack.proofs.Resending.{again_awaits}
use Rattle.law_stack.proofs.Speaking.{Speaks}

-- ---- the clock

rst_none : (e : EndState) → has_nothing e ≡ true → e.rst_owed ≡ false
unfolding due_next
rst_none e h = at e.rst_owed h
  where
    rest : Option Due
    rest = if is_syn_sent e.phase && (e.next == e.isn) then Some Syn
        else (if is_syn_received e.phase && (e.next == e.isn) then Some SynAck
        else (if sends_data e then Some Data
        else (if sends_fin e then Some Fin
        else (if e.ack_owed && not (is_silent e.phase) then Some Ack
        else None))))

    at : (v : Bool) → not (is_some (if v then Some Rst else rest)) ≡ true → v ≡ false
    at true h = absurd (cc)
    at false h = refl

closed_nothing : (e : EndState) → e.rst_owed ≡ false → has_nothing (record e { phase = Closed }) ≡ true
unfolding due_next
closed_nothing e h = rw h (at e.ack_owed Ack)
  where
    at : (v : Bool) (x : Due) → not (is_some (if v && false then Some x else None)) ≡ true
    at true x = refl
    at false x = refl

-- the clock gives nobody something to send
pub tick_settled : (now : ℕ) (e : EndState) (w : ConnectionWatch) → e.una ≤ e.next → Settled e w → Settled (tick now e) w
tick_settled now e w le h = at e.phase
  where
    pick : (v : Bool) → Settled (if v then record e { phase = Closed } else e) w
    pick true =
        let none = closed_nothing e (rst_none e h.nothing) in
        record { nothing = none; again = again_awaits (record e { phase = Closed }) none le; runs = λ a. absurd (cc); stops = λ a t c. absurd (cc) }
    pick false = h

    at : (phase : Phase) → Settled (tick_in phase now e) w
    at TimeWait = pick (is_due e.deadline now)
    at _ = h

-- ---- the context of what is to be sent

-- a SYN alone, or the peer is known
abbrev Tells : EndState → ℕ → Type 0
Tells e flags = (flags ≡ SYN) ⊎ (is_some e.peer_isn ≡ true)

abbrev MayTell : EndState → Option Draft → Type 0
MayTell e o = (out : Draft) → o ≡ Some out → Tells e out.flags

some_tells : (e : EndState) (x : Draft) → Tells e x.flags → MayTell e (Some x)
some_tells e x t out s = let same : x ≡ out = cc in subst (λ (d : Draft). Tells e d.flags) same t

pick_tells : (e : EndState) (v : Bool) (o p : Option Draft) → (v ≡ true → MayTell e o) → MayTell e p → MayTell e (if v then o else p)
pick_tells e true o p a b = a refl
pick_tells e false o p a b = b

sending_speaks : (phase : Phase) → is_sending phase ≡ true → is_silent phase ≡ false
sending_speaks Established e = refl
sending_speaks CloseWait e = refl
sending_speaks _ e = absurd (cc)

received_speaks : (phase : Phase) → is_syn_received phase ≡ true → is_silent phase ≡ false
received_speaks SynReceived e = refl
received_speaks _ e = absurd (cc)

not_tells : (v : Bool) → not v ≡ true → v ≡ false
not_tells true e = absurd (cc)
not_tells false e = refl

emit_tells : (e : EndState) (most : ℕ) → Speaks e → MayTell e (to_emit e most)
unfolding to_emit
emit_tells e most h =
    pick_tells e e.rst_owed _ _ (λ t. some_tells e (rst_draft e) (inr (h.resets t)))
    (pick_tells e (is_syn_sent e.phase && (e.next == e.isn)) _ _ (λ t. some_tells e (syn_draft e (record e { next = e.isn + 1 })) (inl refl))
    (pick_tells e (is_syn_received e.phase && (e.next == e.isn)) _ _ (λ t. some_tells e (syn_ack_draft e (record e { next = e.isn + 1 })) (inr (h.known (received_speaks e.phase (and_tells (is_syn_received e.phase) (e.next == e.isn) t).0))))
    (pick_tells e (sends_data e) _ _ (λ t. some_tells e (data_draft e (fitting e most)) (inr (h.known (sending_speaks e.phase (first_of_three (is_sending e.phase) (nat_lt 0 (unsent e)) (nat_lt e.next (window_end e)) t)))))
    (pick_tells e (sends_fin e) _ _ (λ t. some_tells e (fin_draft e) (inr (h.known (sending_speaks e.phase (first_of_four (is_sending e.phase) e.closing (unsent e == 0) (nat_lt e.next (window_end e)) t)))))
    (pick_tells e (e.ack_owed && not (is_silent e.phase)) _ _ (λ t. some_tells e (ack_draft e) (inr (h.known (not_tells (is_silent e.phase) (and_tells e.ack_owed (not (is_silent e.phase)) t).1)))) none)))))
  where
    none : MayTell e None
    none out s = absurd (cc)

    first_of_three : (a b c : Bool) → (a && b && c) ≡ true → a ≡ true
    first_of_three true b c t = refl
    first_of_three false b c t = t

    first_of_four : (a b c d : Bool) → (a && b && c && d) ≡ true → a ≡ true
    first_of_four true b c d t = refl
    first_of_four false b c d t = t

known_there : (d : Segment) (own : ℕ) (o : Option ℕ) → is_some o ≡ true → context_known d.source d.destination own o ≡ None → ⊥
known_there d own None e n = absurd (cc)
known_there d own (Some q) e n = absurd (cc)

later_there : (d : Segment) (own : ℕ) (o : Option ℕ) (syn ack : Bool) → is_some o ≡ true
    → (if syn then (if ack then context_known d.source d.destination d.sequence o else Some (context d.source d.destination d.sequence 0)) else context_known d.source d.destination own o) ≡ None → ⊥
later_there d own o true true e n = known_there d d.sequence o e n
later_there d own o true false e n = absurd (cc)
later_there d own o false ack e n = known_there d own o e n

alone_there : (d : Segment) (own : ℕ) (o : Option ℕ) (syn ack : Bool) → syn ≡ true → ack ≡ false
    → (if syn then (if ack then context_known d.source d.destination d.sequence o else Some (context d.source d.destination d.sequence 0)) else context_known d.source d.destination own o) ≡ None → ⊥
alone_there d own o true false s a n = absurd (cc)
alone_there d own o true true s a n = absurd (cc)
alone_there d own o false ack s a n = absurd (cc)

context_there : (d : Segment) (own : ℕ) (o : Option ℕ) → (d.flags ≡ SYN) ⊎ (is_some o ≡ true) → context_of d (Some own) o ≡ None → ⊥
unfolding context_of
context_there d own o (inl alone) n = alone_there d own o (has SYN d) (has ACK d) (rw alone refl) (rw alone refl) n
context_there d own o (inr known) n = later_there d own o (has SYN d) (has ACK d) known n

-- ---- nothing is made exactly where there is nothing to send

sealed_loud : (pair : Pair) (e : EndState) (out : Draft) (sending : Sending) (o : Option (List ℕ)) → (o ≡ None → ⊥) → seal_known pair e out sending o ≡ Quiet → ⊥
sealed_loud pair e out sending None there is = there refl
sealed_loud pair e out sending (Some c) there is = absurd (cc)

keyed_quiet : (pair : Pair) (e : EndState) (sending : Sending) (o : Option Draft) → MayTell e o → keyed pair e sending o ≡ Quiet → is_some o ≡ false
keyed_quiet pair e sending None tells is = refl
keyed_quiet pair e sending (Some out) tells is =
    absurd (sealed_loud pair e out sending (context_of (blank pair e out sending) (Some e.isn) e.peer_isn) (context_there (blank pair e out sending) e.isn e.peer_isn (tells out refl)) is)

emit_same : (e : EndState) (most : ℕ) → is_some (to_emit e most) ≡ is_some (to_emit e 0)
unfolding to_emit
emit_same e most =
    pick e.rst_owed _ _ _ _ refl (pick (is_syn_sent e.phase && (e.next == e.isn)) _ _ _ _ refl (pick (is_syn_received e.phase && (e.next == e.isn)) _ _ _ _ refl
    (pick (sends_data e) (Some (data_draft e (fitting e most))) (Some (data_draft e (fitting e 0))) _ _ refl refl)))
  where
    pick : (v : Bool) (o p q r : Option Draft) → is_some o ≡ is_some p → is_some q ≡ is_some r → is_some (if v then o else q) ≡ is_some (if v then p else r)
    pick true o p q r a b = a
    pick false o p q r a b = b

not_true : (v : Bool) → v ≡ false → not v ≡ true
not_true v e = rw e refl

emitted_quiet : (pair : Pair) (e : EndState) (draft : ℕ → Option Draft) (o : Option Sending) → ((most : ℕ) → is_some (draft most) ≡ is_some (draft 0)) → ((most : ℕ) → MayTell e (draft most))
    → emitted pair e draft o ≡ Quiet → not (is_some (draft 0)) ≡ true
emitted_quiet pair e draft None same tells is = at (is_some (draft 0)) is
  where
    at : (v : Bool) → (if v then NoKey else Quiet) ≡ Quiet → not v ≡ true
    at true is = absurd (cc)
    at false is = refl
emitted_quiet pair e draft (Some sending) same tells is =
    let most = most_bytes pair e sending in
    not_true (is_some (draft 0)) (sym (same most) ∙ keyed_quiet pair e sending (draft most) (tells most) is)

-- there is a draft exactly where something is due
some_due : (e : EndState) → is_some (to_emit e 0) ≡ is_some (due_next e)
some_due e = ap is_some (to_emit_is e 0) ∙ at (due_next e)
  where
    at : (o : Option Due) → is_some (drafted_if (draft_next e) o 0) ≡ is_some o
    at None = refl
    at (Some due) = refl

pub quiet_has_nothing : (rows : List Row) (pair : Pair) (now : ℕ) (e : EndState) → Speaks e → emit rows pair now e ≡ Quiet → has_nothing e ≡ true
quiet_has_nothing rows pair now e h is =
    ap not (sym (some_due e)) ∙ emitted_quiet pair e (to_emit e) (choose e.current rows pair now) (emit_same e) (λ most. emit_tells e most h) (sym (emit_by_drafts rows pair now e) ∙ is)

none_made : (pair : Pair) (e : EndState) (due : Option Due) (row : Option Sending) → is_some due ≡ false → made_if_due pair e (draft_next e) due row ≡ Quiet
none_made pair e None row none = refl
none_made pair e (Some due) row none = absurd (cc)

pub nothing_is_quiet : (rows : List Row) (pair : Pair) (now : ℕ) (e : EndState) → has_nothing e ≡ true → emit rows pair now e ≡ Quiet
unfolding emit
nothing_is_quiet rows pair now e h = none_made pair e (due_next e) (choose e.current rows pair now) (not_tells (is_some (due_next e)) h)

-- ---- the timer of an end at rest

running_runs : (now : ℕ) (w : ConnectionWatch) (o : Option ℕ) → w.deadline ≡ o → is_some (running now w o).deadline ≡ true
running_runs now w None e = refl
running_runs now w (Some d) e = ap is_some e

rest_runs : (now : ℕ) (phase : Phase) (waits : Bool) (w : ConnectionWatch) → waits ≡ true → is_some (at_rest now phase waits w).deadline ≡ true
rest_runs now phase true w e = running_runs now w w.deadline refl
rest_runs now phase false w e = absurd (cc)

rest_stops : (now : ℕ) (phase : Phase) (waits : Bool) (w : ConnectionWatch) → waits ≡ false → is_time_wait phase ≡ false → (at_rest now phase waits w).deadline ≡ None
rest_stops now phase true w e t = absurd (cc)
rest_stops now phase false w e t = rw t refl

pub rest_settled : (now : ℕ) (e : EndState) (w : ConnectionWatch) → has_nothing e ≡ true → e.una ≤ e.next → Settled e (at_rest now e.phase (awaits e) w)
rest_settled now e w h le = record {
  nothing = h;
  again = again_awaits e h le;
  runs = λ a. rest_runs now e.phase (awaits e) w a;
  stops = λ a t c. rest_stops now e.phase (awaits e) w a t;
}
