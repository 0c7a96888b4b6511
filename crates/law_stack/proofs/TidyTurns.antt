-- Each turn leaves a stack tidy.
use Rattle.std.proofs.Common.{◌≡◌, ℕ, zero, suc, ◌==◌, ◌/◌, Bool, true, false, nat_le, List, [], ◌∷◌, ◌++◌, length, Option, Some, None, refl, sym, ap, ◌∙◌, subst, if◌then◌else◌}
use Rattle.std.specs.Prelude.{is_some}
use Rattle.book_base.specs.declared.address.Pair.{Pair}
use Rattle.book_endpoint.specs.States.{EndState}
use Rattle.book_endpoint.specs.Emissions.{Emitted, Quiet, NoKey, Emits, emit, resend}
use Rattle.book_cmd_node.specs.NodeRuns.{Called, NothingToSend, NothingToResend, Transmitted, NoUsableKey, called, made_called, held_end, same_pair, with_end}
use Rattle.book_segments.proofs.Fields.{some_is}
use Rattle.law_node.proofs.Held.{end_with_same}
use Rattle.law_node.proofs.Pairs.{same_pair-refl}
use Rattle.book_stack.specs.declared.alarm.Alarm.{Alarm}
use Rattle.book_stack.specs.Stacks.{StackState, touched, watched}
use Rattle.book_stack.specs.Watches.{ConnectionWatch, at_rest, awaits}
use Rattle.book_stack.specs.Turns.{Turn, ask, asked_end, asked_first, asked_pair, asked_watch, called_at, change_by, clocked, output_at, passing, then_turn, turns, wake, woken_end, woken_first, woken_pair, woken_watch}
use Rattle.law_stack.specs.Resting.{Settled}
use Rattle.law_stack.proofs.Lines.{Queue, touch_line, tail_line}
use Rattle.law_stack.proofs.Settling.{quiet_has_nothing, rest_settled}
use Rattle.law_stack.proofs.Speaking.{Speaks, emit_speaks, resend_speaks}
use Rattle.law_stack.proofs.Turned.{clocked_anew}
use Rattle.law_stack.proofs.Tidy.{Settles, Tidy, TidyButOne, ends_with, nobody, queue_with, settles_one, settles_tail, settles_touched, settles_watched, settles_with, settles_with_one, tidy_ticked}

-- ---- what is done at the pair that is passed over

-- the end of a pair was called
pub called_tidy : (p : Pair) (old : EndState) (c : Called) (s : StackState) → held_end p s.node.ends ≡ Some old → Speaks c.state → Tidy s → TidyButOne p (called_at p c s)
called_tidy p old c s was x h = record {
  ends = ends_with s.most p old c.state s.node.ends was x h.ends;
  queue = queue_with p old c.state s.line s.node.ends was h.queue;
  settles = settles_with p c.state s.node.ends s.line s.watches h.settles;
}

-- the same where it is passed over already
pub called_again : (p : Pair) (old : EndState) (c : Called) (s : StackState) → held_end p s.node.ends ≡ Some old → Speaks c.state → TidyButOne p s → TidyButOne p (called_at p c s)
called_again p old c s was x h = record {
  ends = ends_with s.most p old c.state s.node.ends was x h.ends;
  queue = queue_with p old c.state s.line s.node.ends was h.queue;
  settles = settles_with_one p c.state s.node.ends s.line s.watches h.settles;
}

pub watched_tidy : (p : Pair) (w : ConnectionWatch) (s : StackState) → TidyButOne p s → TidyButOne p (watched p w s)
watched_tidy p w s h = record { ends = h.ends; queue = h.queue; settles = settles_watched p w s.node.ends s.line s.watches h.settles }

pub touched_tidy : (p : Pair) (s : StackState) → is_some (held_end p s.node.ends) ≡ true → TidyButOne p s → Tidy (touched p s)
touched_tidy p s held h =
    let l = touch_line s.most p s.line s.node.ends h.ends.few h.queue held in
    record { ends = h.ends; queue = l.queue; settles = settles_touched s.most p s.node.ends s.line s.watches l h.settles }

pub settled_tidy : (p : Pair) (s : StackState) → ((e : EndState) → held_end p s.node.ends ≡ Some e → Settled e (s.watches p)) → TidyButOne p s → Tidy s
settled_tidy p s one h = record { ends = h.ends; queue = h.queue; settles = settles_one p s.node.ends s.line s.watches one h.settles }

pub tail_tidy : (p : Pair) (ps : List Pair) (s : StackState) → s.line ≡ p ∷ ps → Tidy s → TidyButOne p (record s { line = ps })
tail_tidy p ps s is h =
    let queue : Queue (p ∷ ps) s.node.ends = subst (λ (line : List Pair). Queue line s.node.ends) is h.queue in
    let settles : Settles nobody s.node.ends (p ∷ ps) s.watches = subst (λ (line : List Pair). Settles nobody s.node.ends line s.watches) is h.settles in
    record { ends = h.ends; queue = tail_line p ps s.node.ends queue; settles = settles_tail p s.node.ends ps s.watches settles }

-- ---- an end is asked

held_now : (p : Pair) (old : EndState) (c : Called) (s : StackState) → held_end p s.node.ends ≡ Some old → is_some (held_end p (called_at p c s).node.ends) ≡ true
held_now p old c s was = ap is_some (end_with_same p c.state old s.node.ends was)

pub asked_tidy : (now : ℕ) (p : Pair) (e : EndState) (s : StackState) (m : Emitted) → emit s.rows p s.node.clock e ≡ m → held_end p s.node.ends ≡ Some e → TidyButOne p s → Tidy (asked_end now p e (made_called e NothingToSend m) s).stack
asked_tidy now p e s Quiet is was h =
    let c = called e NothingToSend in
    let w = at_rest now e.phase (awaits e) (s.watches p) in
    settled_tidy p (watched p w (called_at p c s)) (λ x held. settled x held) (watched_tidy p w (called_at p c s) (called_again p e c s was (h.ends.speaks p e was) h))
  where
    settled : (x : EndState) → held_end p (with_end p e s.node.ends) ≡ Some x → Settled x (if same_pair p p then at_rest now e.phase (awaits e) (s.watches p) else s.watches p)
    settled x held =
        let same : e ≡ x = some_is e x (sym (end_with_same p e e s.node.ends was) ∙ held) in
        rw (same_pair-refl p) (subst (λ (y : EndState). Settled y (at_rest now e.phase (awaits e) (s.watches p))) same
        (rest_settled now e (s.watches p) (quiet_has_nothing s.rows p s.node.clock e (h.ends.speaks p e was) is) (h.ends.speaks p e was).ahead))
asked_tidy now p e s NoKey is was h =
    let c = called e NoUsableKey in
    touched_tidy p (watched p (s.watches p) (called_at p c s)) (held_now p e c s was) (watched_tidy p (s.watches p) (called_at p c s) (called_again p e c s was (h.ends.speaks p e was) h))
asked_tidy now p e s (Emits out) is was h =
    let c = called out.state (Transmitted out) in
    let w = asked_watch now (change_by e c) (awaits c.state) c.outcome (s.watches p) in
    touched_tidy p (watched p w (called_at p c s)) (held_now p e c s was) (watched_tidy p w (called_at p c s) (called_again p e c s was (emit_speaks s.rows p s.node.clock e out (h.ends.speaks p e was) is) h))

some_end : (o : Option EndState) → is_some o ≡ true → (e : EndState) × (o ≡ Some e)
some_end None e = absurd (cc)
some_end (Some x) e = (x, refl)

pub ask_tidy : (now : ℕ) (s : StackState) → Tidy s → Tidy (ask now s).stack
ask_tidy now s h = at s.line refl
  where
    pair : (p : Pair) (ps : List Pair) → s.line ≡ p ∷ ps → (o : Option EndState) → held_end p s.node.ends ≡ o → Tidy (asked_pair now p (record s { line = ps }) o).stack
    pair p ps is (Some e) was = let t = record s { line = ps } in asked_tidy now p e t (emit s.rows p s.node.clock e) refl was (tail_tidy p ps s is h)
    pair p ps is None was =
        let there : is_some (held_end p s.node.ends) ≡ true = h.queue.held p (rw (is, same_pair-refl p) refl) in absurd (cc)

    at : (line : List Pair) → s.line ≡ line → Tidy (asked_first now s line).stack
    at [] is = h
    at (p ∷ ps) is = pair p ps is (held_end p s.node.ends) refl

-- ---- an alarm goes off

pub woken_tidy : (now : ℕ) (p : Pair) (e : EndState) (s : StackState) (m : Emitted) → resend s.rows p s.node.clock e ≡ m → held_end p s.node.ends ≡ Some e → Tidy s → Tidy (woken_end now p e (made_called e NothingToResend m) s).stack
woken_tidy now p e s m is was h =
    let c = made_called e NothingToResend m in
    let w = woken_watch now e.phase c.outcome (s.watches p) in
    touched_tidy p (watched p w (called_at p c s)) (held_now p e c s was) (watched_tidy p w (called_at p c s) (called_tidy p e c s was (speaks m is) h))
  where
    speaks : (m : Emitted) → resend s.rows p s.node.clock e ≡ m → Speaks (made_called e NothingToResend m).state
    speaks Quiet is = h.ends.speaks p e was
    speaks NoKey is = h.ends.speaks p e was
    speaks (Emits out) is = resend_speaks s.rows p s.node.clock e out (h.ends.speaks p e was) is

-- the alarms don't matter here
pub alarms_tidy : (alarms : List Alarm) (s : StackState) → Tidy s → Tidy (record s { alarms = alarms })
alarms_tidy alarms s h = record { ends = h.ends; queue = h.queue; settles = h.settles }

pub wake_tidy : (now : ℕ) (s : StackState) → Tidy s → Tidy (wake now s).stack
wake_tidy now s h = at s.alarms
  where
    pair : (a : Alarm) (rest : List Alarm) (o : Option EndState) → held_end a.pair s.node.ends ≡ o → Tidy (woken_pair now a.pair (record s { alarms = rest }) o).stack
    pair a rest None was = alarms_tidy rest s h
    pair a rest (Some e) was = let t = record s { alarms = rest } in woken_tidy now a.pair e t (resend s.rows a.pair s.node.clock e) refl was (alarms_tidy rest s h)

    over : (a : Alarm) (rest : List Alarm) (v : Bool) → Tidy (let t : Turn = if v then woken_pair now a.pair (record s { alarms = rest }) (held_end a.pair s.node.ends) else passing s in t.stack)
    over a rest true = pair a rest (held_end a.pair s.node.ends) refl
    over a rest false = h

    at : (alarms : List Alarm) → Tidy (woken_first now s alarms).stack
    at [] = h
    at (a ∷ rest) = over a rest (nat_le a.deadline now)

-- ---- turns one after another

pub then_tidy : (t : Turn) (next : StackState → Turn) → Tidy t.stack → ((u : StackState) → Tidy u → Tidy (next u).stack) → Tidy (then_turn t next).stack
then_tidy t next h go = at (is_some t.hands)
  where
    at : (v : Bool) → Tidy (let r : Turn = if v then t else (let u = next t.stack in record { stack = u.stack; events = t.events ++ u.events; outcomes = t.outcomes ++ u.outcomes; hands = u.hands }) in r.stack)
    at true = h
    at false = go t.stack h

pub turns_tidy : (n : ℕ) (turn : StackState → Turn) (s : StackState) → Tidy s → ((u : StackState) → Tidy u → Tidy (turn u).stack) → Tidy (turns n turn s).stack
turns_tidy zero turn s h go = h
turns_tidy (suc n) turn s h go = then_tidy (turn s) (turns n turn) (go s h) (λ u k. turns_tidy n turn u k go)

pub clocked_tidy : (now : ℕ) (s : StackState) → Tidy s → Tidy (clocked now s).stack
clocked_tidy now s h = at (s.node.clock == now / 1000)
  where
    at : (v : Bool) → Tidy (let t : Turn = if v then passing s else clocked_anew now s in t.stack)
    at true = h
    at false = tidy_ticked (now / 1000) s h

pub output_tidy : (now : ℕ) (s : StackState) → Tidy s → Tidy (output_at now s).stack
output_tidy now s h =
    then_tidy (clocked now s) (λ t. then_turn (turns (length t.line) (ask now) t) (λ u. turns (length u.alarms) (wake now) u)) (clocked_tidy now s h) (λ t ht.
    then_tidy (turns (length t.line) (ask now) t) (λ u. turns (length u.alarms) (wake now) u) (turns_tidy (length t.line) (ask now) t ht (ask_tidy now)) (λ u hu.
    turns_tidy (length u.alarms) (wake now) u hu (wake_tidy now)))
