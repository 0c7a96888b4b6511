-- Each call leaves a stack tidy.
use Rattle.std.proofs.Common.{◌≡◌, ℕ, ◌<◌, ◌≤◌, Bool, true, false, not, nat_lt, nat_le, List, [], ◌∷◌, ◌++◌, length, Option, Some, None, Result, Ok, Err, refl, sym, ap, ◌∙◌, subst, if◌then◌else◌, arith}
use Rattle.std.proofs.lemmas.Bool.Decides.{nat_tests}
use Rattle.std.specs.Prelude.{is_some}
use Rattle.book_base.specs.declared.address.Address.{Address}
use Rattle.book_base.specs.declared.address.Address.TheVariants.{V4, V6}
use Rattle.book_base.specs.declared.address.Pair.{Pair}
use Rattle.book_segments.specs.Segments.{Segment, Reading, Read, Bad as Unread, reading}
use Rattle.book_keys.specs.Rows.{Row}
use Rattle.book_keys.specs.Tables.{Adding, AddedAs, adding, row_of_new, withdrawn}
use Rattle.book_endpoint.specs.States.{EndState, default_mss, own_mss, abort, close, connected, give, gives, listening, room, started}
use Rattle.book_endpoint.specs.Arrivals.{Arrived, arrive}
use Rattle.book_endpoint.specs.Emissions.{Emitted, Quiet, NoKey, Emits, emit, is_silent, resend}
use Rattle.book_endpoint.specs.Verdicts.{Judgement}
use Rattle.book_cmd_node.specs.declared.node.Act.{Act}
use Rattle.book_cmd_node.specs.declared.node.Act.TheVariants as act
use Rattle.book_cmd_node.specs.declared.node.NodeEvent.TheVariants as event
use Rattle.book_cmd_node.specs.NodeRuns.{DatagramAnswered, Called, Performed, NoRoom, ConnectionClosing, NothingToSend, InUse, NodeFull, NodeOutcome, NodeStep, NothingToResend, Transmitted, NoUsableKey, called, held_end, made_called, most_ends, new_end, node_step, on_held, on_pair, same_pair, stays, take_called, without_end}
use Rattle.book_segments.specs.Segments.{pair_reached}
use Rattle.book_stack.specs.Alarms.{without_alarm, without_pair}
use Rattle.book_stack.specs.Calls.{Call, At, Input, Output, Add, Withdraw, Incoming, Did, Told, added, asked_for, asking, at_other, at_pair, begun, call, bytes_received, heard_end, heard_pair, kept, met, plain_step, stepped, unasked, withdrew}
use Rattle.book_stack.specs.Runs.{stack_after}
use Rattle.book_stack.specs.Stacks.{StackState, asking_judged, asks, empty_stack, touched, watched}
use Rattle.book_stack.specs.Turns.{called_at, change_by, clocked}
use Rattle.book_stack.specs.Watches.{ConnectionWatch, arrived, is_heard, new_connection_watch}
use Rattle.law_node.proofs.Held.{held, end_pushed_same, end_with_same}
use Rattle.law_stack.proofs.Called.{call_steps}
use Rattle.law_stack.proofs.Speaking.{Speaks, abort_speaks, arrive_well, close_speaks, emit_speaks, resend_speaks}
use Rattle.law_stack.proofs.Tidy.{Tidy, ends_with, queue_with, settles_same, tidy_begun, tidy_dropped}
use Rattle.law_stack.proofs.TidyTurns.{alarms_tidy, called_tidy, clocked_tidy, output_tidy, touched_tidy, watched_tidy}

-- the end of a pair was called, and stayed as it was
same_tidy : (p : Pair) (e : EndState) (o : NodeOutcome) (s : StackState) → held_end p s.node.ends ≡ Some e → Tidy s → Tidy (called_at p (called e o) s)
same_tidy p e o s was h = record {
  ends = ends_with s.most p e e s.node.ends was (h.ends.speaks p e was) h.ends;
  queue = queue_with p e e s.line s.node.ends was h.queue;
  settles = settles_same p e s.node.ends s.line s.watches was h.settles;
}

-- the end of a pair was called, and stands in line now
moved_tidy : (p : Pair) (e : EndState) (c : Called) (s : StackState) → held_end p s.node.ends ≡ Some e → Speaks c.state → Tidy s → Tidy (touched p (called_at p c s))
moved_tidy p e c s was x h = touched_tidy p (called_at p c s) (ap is_some (end_with_same p c.state e s.node.ends was)) (called_tidy p e c s was x h)

-- ---- a call at a pair that is held

-- what is kept after an act on an end that is held
abbrev kept_after : Pair → Act → EndState → StackState → StackState
kept_after p a e s = let step = on_held s.rows s.node p e a in kept p a step.outcome (stepped s step)

given_tidy : (p : Pair) (piece : List ℕ) (e : EndState) (s : StackState) → held_end p s.node.ends ≡ Some e → Tidy s → Tidy (kept_after p (act.Give piece) e s)
given_tidy p piece e s was h = by_closed (gives e)
  where
    known : Speaks (give piece e)
    known = let x = h.ends.speaks p e was in record { known = x.known; resets = x.resets; ahead = x.ahead; room = x.room }

    of : Called → StackState
    of c = kept p (act.Give piece) c.outcome (called_at p c s)

    by_full : (v : Bool) → Tidy (of (if v then called e NoRoom else called (give piece e) Performed))
    by_full true = same_tidy p e NoRoom s was h
    by_full false = moved_tidy p e (called (give piece e) Performed) s was known h

    by_closed : (v : Bool) → Tidy (of (if not v then called e ConnectionClosing else (if nat_lt (room e) (length piece) then called e NoRoom else called (give piece e) Performed)))
    by_closed false = same_tidy p e ConnectionClosing s was h
    by_closed true = by_full (nat_lt (room e) (length piece))

made_tidy : (p : Pair) (e : EndState) (no_segment : NodeOutcome) (m : Emitted) (s : StackState) → ((out : _) → m ≡ Emits out → Speaks out.state) → held_end p s.node.ends ≡ Some e → Tidy s
    → Tidy (touched p (called_at p (made_called e no_segment m) s))
made_tidy p e no_segment Quiet s x was h = moved_tidy p e (called e no_segment) s was (h.ends.speaks p e was) h
made_tidy p e no_segment NoKey s x was h = moved_tidy p e (called e NoUsableKey) s was (h.ends.speaks p e was) h
made_tidy p e no_segment (Emits out) s x was h = moved_tidy p e (called out.state (Transmitted out)) s was (x out refl) h

-- an answer that is no refusal
no_refusal : (p : Pair) (e : EndState) (no_segment : NodeOutcome) (m : Emitted) (s : StackState) → ((t : StackState) → kept p act.Send no_segment t ≡ touched p t)
    → kept p act.Send (made_called e no_segment m).outcome (called_at p (made_called e no_segment m) s) ≡ touched p (called_at p (made_called e no_segment m) s)
no_refusal p e no_segment Quiet s t = t (called_at p (called e no_segment) s)
no_refusal p e no_segment NoKey s t = refl
no_refusal p e no_segment (Emits out) s t = refl

-- the same of what is sent again
no_refusal_again : (p : Pair) (e : EndState) (m : Emitted) (s : StackState)
    → kept p act.Resend (made_called e NothingToResend m).outcome (called_at p (made_called e NothingToResend m) s) ≡ touched p (called_at p (made_called e NothingToResend m) s)
no_refusal_again p e Quiet s = refl
no_refusal_again p e NoKey s = refl
no_refusal_again p e (Emits out) s = refl

held_tidy : (p : Pair) (a : Act) (e : EndState) (s : StackState) → held_end p s.node.ends ≡ Some e → Tidy s → Tidy (kept_after p a e s)
held_tidy p (act.Open isn) e s was h = same_tidy p e InUse s was h
held_tidy p (act.Listen isn) e s was h = same_tidy p e InUse s was h
held_tidy p (act.Start isn peer) e s was h = same_tidy p e InUse s was h
held_tidy p (act.Give piece) e s was h = given_tidy p piece e s was h
held_tidy p (act.Take count) e s was h = let x = h.ends.speaks p e was in moved_tidy p e (take_called count e) s was (record { known = x.known; resets = x.resets; ahead = x.ahead; room = x.room }) h
held_tidy p act.Send e s was h =
    let m = emit s.rows p s.node.clock e in
    subst Tidy (sym (no_refusal p e NothingToSend m s (λ t. refl))) (made_tidy p e NothingToSend m s (λ out is. emit_speaks s.rows p s.node.clock e out (h.ends.speaks p e was) is) was h)
held_tidy p act.Resend e s was h =
    let m = resend s.rows p s.node.clock e in
    subst Tidy (sym (no_refusal_again p e m s)) (made_tidy p e NothingToResend m s (λ out is. resend_speaks s.rows p s.node.clock e out (h.ends.speaks p e was) is) was h)
held_tidy p act.Close e s was h = moved_tidy p e (called (close e) Performed) s was (close_speaks e (h.ends.speaks p e was)) h
held_tidy p act.Abort e s was h = moved_tidy p e (called (abort e) Performed) s was (abort_speaks e (h.ends.speaks p e was)) h
held_tidy p act.Remove e s was h =
    let ws : Pair → ConnectionWatch = λ q. if same_pair p q then new_connection_watch else s.watches q in
    let t = record s { node = record { clock = s.node.clock; ends = without_end p s.node.ends }; watches = ws; line = without_pair p s.line } in
    alarms_tidy (without_alarm p s.alarms) t (tidy_dropped p s ws (ap is_some was) (λ q other. rw other refl) h)

-- ---- a call at a pair that isn't held

begun_tidy : (p : Pair) (a : Act) (e : EndState) (s : StackState) → s.most ≤ most_ends → node_step most_ends s.rows s.node (event.On p a) ≡ new_end most_ends s.node p e → Speaks e → held_end p s.node.ends ≡ None → Tidy s
    → Tidy (begun p a s).stack
begun_tidy p a e s fits is x none h = at (nat_le s.most (length s.node.ends)) refl
  where
    room_for : nat_le s.most (length s.node.ends) ≡ false → length s.node.ends < s.most
    room_for less = grind (arith, nat_tests, less)

    new_is : length s.node.ends < s.most → new_end most_ends s.node p e ≡ stays (record { clock = s.node.clock; ends = s.node.ends ++ held p e ∷ [] }) Performed
    new_is few = let less : nat_le most_ends (length s.node.ends) ≡ false = grind (arith, nat_tests, few, fits) in rw less refl

    at : (v : Bool) → nat_le s.most (length s.node.ends) ≡ v
        → Tidy (let d : Did = if v then unasked s (Told NodeFull) else (let step = plain_step s (event.On p a) in asking (touched p (stepped s step)) (event.On p a) step.outcome) in d.stack)
    at true less = h
    at false less =
        let few = room_for less in
        let t = record s { node = record { clock = s.node.clock; ends = s.node.ends ++ held p e ∷ [] } } in
        let tidy : Tidy (touched p t) = touched_tidy p t (ap is_some (end_pushed_same p e s.node.ends none)) (tidy_begun p e s none few x h) in
        subst (λ (step : NodeStep). Tidy (touched p (stepped s step))) (sym (is ∙ new_is few)) tidy

default_room : (a : Address) → 88 ≤ default_mss a
default_room (V4 bytes) = omega arith
default_room (V6 bytes) = omega arith

own_room : (a : Address) → 88 ≤ own_mss a
own_room (V4 bytes) = omega arith
own_room (V6 bytes) = omega arith

silent_speaks : (e : EndState) → is_silent e.phase ≡ true → e.rst_owed ≡ false → e.una ≡ e.next → 88 ≤ e.mss → Speaks e
silent_speaks e silent quiet same room = record { known = λ k. absurd (cc); resets = λ r. absurd (cc); ahead = omega (arith, same); room = room }

other_tidy : (p : Pair) (a : Act) (s : StackState) → s.most ≤ most_ends → held_end p s.node.ends ≡ None → Tidy s → Tidy (at_other p a s).stack
other_tidy p (act.Open isn) s fits none h = begun_tidy p (act.Open isn) (connected p isn) s fits (ap (on_pair most_ends s.rows s.node (record { pair = p; act = (act.Open isn) })) none) (silent_speaks (connected p isn) refl refl refl (default_room p.local.address)) none h
other_tidy p (act.Listen isn) s fits none h = begun_tidy p (act.Listen isn) (listening p isn) s fits (ap (on_pair most_ends s.rows s.node (record { pair = p; act = (act.Listen isn) })) none) (silent_speaks (listening p isn) refl refl refl (default_room p.local.address)) none h
other_tidy p (act.Start isn peer) s fits none h =
    begun_tidy p (act.Start isn peer) (started p isn peer) s fits (ap (on_pair most_ends s.rows s.node (record { pair = p; act = (act.Start isn peer) })) none) (record { known = λ k. refl; resets = λ r. refl; ahead = omega arith; room = own_room p.local.address }) none h
other_tidy p a s fits none h = h

pair_tidy : (p : Pair) (a : Act) (s : StackState) (o : Option EndState) → s.most ≤ most_ends → held_end p s.node.ends ≡ o → Tidy s → Tidy (at_pair p a s o).stack
pair_tidy p a s None fits is h = other_tidy p a s fits is h
pair_tidy p a s (Some e) fits is h =
    let step : node_step most_ends s.rows s.node (event.On p a) ≡ on_held s.rows s.node p e a = ap (on_pair most_ends s.rows s.node (record { pair = p; act = a })) is in
    subst (λ (x : NodeStep). Tidy (kept p a x.outcome (stepped s x))) (sym step) (held_tidy p a e s is h)

-- ---- bytes come

heard_tidy : (coming : Incoming) (p : Pair) (d : Segment) (e : EndState) (s : StackState) → held_end p s.node.ends ≡ Some e → Tidy s → Tidy (heard_end coming p e (arrive s.rows p s.node.clock e (Read d)) s).stack
heard_tidy coming p d e s was h = at (is_heard a.answer) refl
  where
    a : Arrived
    a = arrive s.rows p s.node.clock e (Read d)

    c : Called
    c = called a.state (DatagramAnswered a.answer)

    at : (v : Bool) → is_heard a.answer ≡ v
        → Tidy (if v then touched p (watched p (arrived coming.now (change_by e c) (s.watches p)) (called_at p c s)) else called_at p c s)
    at true is =
        let w = arrived coming.now (change_by e c) (s.watches p) in
        let well = arrive_well s.rows p s.node.clock e d (h.ends.speaks p e was) in
        touched_tidy p (watched p w (called_at p c s)) (ap is_some (end_with_same p c.state e s.node.ends was)) (watched_tidy p w (called_at p c s) (called_tidy p e c s was well.speaks h))
    at false is =
        let well = arrive_well s.rows p s.node.clock e d (h.ends.speaks p e was) in
        subst (λ (x : EndState). Tidy (called_at p (called x (DatagramAnswered a.answer)) s)) (sym (well.unheard is)) (same_tidy p e (DatagramAnswered a.answer) s was h)

met_tidy : (coming : Incoming) (d : Segment) (s : StackState) (o : Option EndState) → held_end (pair_reached d) s.node.ends ≡ o → Tidy s → Tidy (met coming d s o).stack
met_tidy coming d s o is h = at (asks d o)
  where
    pair : (o : Option EndState) → held_end (pair_reached d) s.node.ends ≡ o → Tidy (heard_pair coming (pair_reached d) d s o).stack
    pair None is = h
    pair (Some e) is = heard_tidy coming (pair_reached d) d e s is h

    asked : (o : Option EndState) (j : Judgement) → held_end (pair_reached d) s.node.ends ≡ o → Tidy (asked_for coming d s o j).stack
    asked o (Ok p) is = h
    asked None (Err why) is = h
    asked (Some e) (Err why) is = pair (Some e) is

    at : (v : Bool) → Tidy (let x : Did = if v then asked_for coming d s o (asking_judged s d) else heard_pair coming (pair_reached d) d s o in x.stack)
    at true = asked o (asking_judged s d) is
    at false = pair o is

came_tidy : (coming : Incoming) (r : Reading) (s : StackState) → Tidy s → Tidy (bytes_received coming r s).stack
came_tidy coming (Unread fault) s h = h
came_tidy coming (Read d) s h = met_tidy coming d s (held_end (pair_reached d) s.node.ends) refl h

-- ---- calls

added_tidy : (s : StackState) (adding : Adding) → Tidy s → Tidy (added s adding).stack
added_tidy s (AddedAs n rows) h = record { ends = h.ends; queue = h.queue; settles = h.settles }
added_tidy s refusal h = h

withdrew_tidy : (s : StackState) (rows : Option (List Row)) → Tidy s → Tidy (withdrew s rows).stack
withdrew_tidy s None h = h
withdrew_tidy s (Some rows) h = record { ends = h.ends; queue = h.queue; settles = h.settles }

pub call_tidy : (c : Call) (s : StackState) → s.most ≤ most_ends → Tidy s → Tidy (call c s).stack
unfolding call
call_tidy (At pair a) s fits h = pair_tidy pair a s (held_end pair s.node.ends) fits refl h
call_tidy (Input coming) s fits h = came_tidy coming (reading coming.bytes) (clocked coming.now s).stack (clocked_tidy coming.now s h)
call_tidy (Output now) s fits h = output_tidy now s h
call_tidy (Add row) s fits h = added_tidy s (adding s.rows (row_of_new row)) h
call_tidy (Withdraw n) s fits h = withdrew_tidy s (withdrawn s.rows n) h

pub run_tidy : (s : StackState) (calls : List Call) → s.most ≤ most_ends → Tidy s → Tidy (stack_after s calls)
run_tidy s [] fits h = h
run_tidy s (c ∷ cs) fits h = run_tidy (call c s).stack cs (rw ((call_steps c s).most) fits) (call_tidy c s fits h)

pub empty_tidy : (rows : List Row) (most : ℕ) → Tidy (empty_stack rows most)
empty_tidy rows most = record {
  ends = record { few = omega arith; once = λ p. refl; speaks = λ p e is. absurd (cc) };
  queue = record { held = λ p e. absurd (cc); apart = tt };
  settles = record { all = λ p e skip is out. absurd (cc) };
}
