-- What a turn leaves and hands out.
use Rattle.std.proofs.Common.{◌≡◌, ℕ, Bool, true, false, List, [], ◌∷◌, Option, Some, None, refl, sym, ap, subst, ◌∙◌}
use Rattle.std.specs.Prelude.{is_some, nat_le, if◌then◌else◌}
use Rattle.book_base.specs.declared.address.Pair.{Pair}
use Rattle.book_endpoint.specs.States.{EndState}
use Rattle.book_endpoint.specs.Emissions.{emit, resend}
use Rattle.book_cmd_node.specs.declared.node.Act.TheVariants as act
use Rattle.book_cmd_node.specs.declared.node.NodeEvent.TheVariants as event
use Rattle.book_cmd_node.specs.NodeRuns.{Called, held_end}
use Rattle.law_node.proofs.Held.{end_with_same}
use Rattle.book_stack.specs.declared.alarm.Alarm.{Alarm}
use Rattle.book_stack.specs.declared.front.Change.{Change}
use Rattle.book_stack.specs.Stacks.{StackState, touched, watched}
use Rattle.book_stack.specs.Turns.{passing, ask, asked_first, asked_line, asked_pair, asked_watch, called_at, change_by, repeated_by, segment_in, spoken_by, wake, woken_first, woken_pair, woken_watch}
use Rattle.book_stack.specs.Watches.{ConnectionWatch, awaits}
use Rattle.stack_ends.specs.declared.send.Spoken.{Spoken}
use Rattle.stack_ends.specs.Calls.{Tells}
use Rattle.stack_timers.specs.Places.{behind_first, first_of, left_due, taken_due}
use Rattle.ao_stack.specs.declared.stack.Stack.{Stack}
use Rattle.ao_stack.specs.Stands.{Stands}
use Rattle.ao_stack.specs.Timers.{asked_by, asked_turn, woken_by}
use Rattle.ao_stack.specs.Turns.{IsBy, Makes, MadeLast, Turns, act_of}
use Rattle.ao_stack.specs.declared.outgoing.Outgoing.{Outgoing}
use Rattle.book_link.specs.declared.event.Transmission.{Transmission}
use Rattle.book_link.specs.declared.event.Transmission.TheVariants as transmission
use Rattle.ao_stack.proofs.ActLaws.{HasCalled}
use Rattle.ao_stack.proofs.TellLaws.{asked_line_is, asked_watch_is, woken_watch_is}

-- the pair of an end that was called is held
pub held_after : (s : StackState) (p : Pair) (e : EndState) (c : Called) → held_end p s.node.ends ≡ Some e → is_some (held_end p (called_at p c s).node.ends) ≡ true
held_after s p e c is = ap is_some (end_with_same p c.state e s.node.ends is)

pub held_before : (s : StackState) (p : Pair) (e : EndState) → held_end p s.node.ends ≡ Some e → is_some (held_end p s.node.ends) ≡ true
held_before s p e is = ap is_some is

-- ---- an end is asked

-- what a connection is told to send was made at the event by which it was asked
made_last : (p : Pair) (kind : Transmission) (r : Option Outgoing) → IsBy p kind r → MadeLast r (event.On p (act_of kind) ∷ [])
made_last p kind None by = tt
made_last p kind (Some o) by = rw (by.0, by.1) refl

pub asked_none : (k : Stack) (before room : List ℕ) (now : ℕ) (s : StackState) (p : Pair) → Stands k s → held_end p s.node.ends ≡ None → room ≡ before
    → Turns k before room None (asked_pair now p s (held_end p s.node.ends))
asked_none k before room now s p S none same =
    subst (λ (o : Option EndState). Turns k before room None (asked_pair now p s o)) (sym none) (record { stands = S; hands = tt; last = tt; stays = same })

module _ (mid after : Stack) (s : StackState) (p : Pair) (now : ℕ) (before room left : List ℕ) (spoken : Spoken) (r : Option Outgoing) where
  pub asked_so : (H : HasCalled mid s p act.Send (Tells room) spoken)
      → Stands after (asked_turn p spoken.says (watched p (asked_by now spoken (s.watches p)) (called_at p (spoken_by s p H.state) s)))
      → Makes p transmission.New before left r (segment_in (spoken_by s p H.state).outcome) → Turns after before left r (asked_pair now p s (held_end p s.node.ends))
  asked_so H stands made =
      let e = H.state in
      let T = H.done in
      let b = emit s.rows p s.node.clock e in
      let c = spoken_by s p e in
      let w = s.watches p in
      let watch : asked_by now spoken w ≡ asked_watch now (change_by e c) (awaits c.state) c.outcome w =
      asked_watch_is now room spoken e w b spoken.says T.says_as ∙ ap (λ (x : Change). asked_watch now x spoken.waits c.outcome w) T.change ∙ ap (λ (x : Bool). asked_watch now (change_by e c) x c.outcome w) T.waits in
      let u = watched p (asked_watch now (change_by e c) (awaits c.state) c.outcome w) (called_at p c s) in
      let first : Stands after (asked_turn p spoken.says u) = subst (λ (x : ConnectionWatch). Stands after (asked_turn p spoken.says (watched p x (called_at p c s)))) watch stands in
      let second : Stands after (asked_line p c.outcome u) = subst (λ (x : StackState). Stands after x) (asked_line_is room p u e b spoken.says T.says_as) first in
      let some : Turns after before left r (asked_pair now p s (Some e)) = record { stands = second; hands = made.hands; last = made_last p transmission.New r made.by; stays = made.stays } in
      subst (λ (o : Option EndState). Turns after before left r (asked_pair now p s o)) (sym H.held) some

  pub woken_so : (H : HasCalled mid s p act.Resend (Tells room) spoken)
      → Stands after (touched p (watched p (woken_by now spoken.change.before.phase spoken.says (s.watches p)) (called_at p (repeated_by s p H.state) s)))
      → Makes p transmission.Again before left r (segment_in (repeated_by s p H.state).outcome) → Turns after before left r (woken_pair now p s (held_end p s.node.ends))
  woken_so H stands made =
      let e = H.state in
      let T = H.done in
      let b = resend s.rows p s.node.clock e in
      let c = repeated_by s p e in
      let w = s.watches p in
      let watch : woken_by now spoken.change.before.phase spoken.says w ≡ woken_watch now e.phase c.outcome w =
      woken_watch_is now room spoken.change.before.phase e w b spoken.says T.says_as ∙ ap (λ (x : Change). woken_watch now x.before.phase c.outcome w) T.change in
      let first : Stands after (touched p (watched p (woken_watch now e.phase c.outcome w) (called_at p c s))) =
      subst (λ (x : ConnectionWatch). Stands after (touched p (watched p x (called_at p c s)))) watch stands in
      let some : Turns after before left r (woken_pair now p s (Some e)) = record { stands = first; hands = made.hands; last = made_last p transmission.Again r made.by; stays = made.stays } in
      subst (λ (o : Option EndState). Turns after before left r (woken_pair now p s o)) (sym H.held) some

pub woken_none : (k : Stack) (before room : List ℕ) (now : ℕ) (s : StackState) (p : Pair) → Stands k s → held_end p s.node.ends ≡ None → room ≡ before
    → Turns k before room None (woken_pair now p s (held_end p s.node.ends))
woken_none k before room now s p S none same =
    subst (λ (o : Option EndState). Turns k before room None (woken_pair now p s o)) (sym none) (record { stands = S; hands = tt; last = tt; stays = same })

-- ---- whose turn it is

-- nobody stands in line
pub nobody : (xs : List Pair) → None ≡ first_of xs → xs ≡ []
nobody [] e = refl
nobody (x ∷ xs) e = absurd (cc)

-- somebody does
pub first_in_line : (xs : List Pair) (p : Pair) → Some p ≡ first_of xs → xs ≡ p ∷ behind_first xs
first_in_line [] p e = absurd (cc)
first_in_line (x ∷ xs) p e = let same : p ≡ x = cc in ap (λ (q : Pair). q ∷ xs) (sym same)

pub ask_nobody : (k : Stack) (room : List ℕ) (now : ℕ) (s : StackState) → Stands k s → s.line ≡ [] → Turns k room room None (ask now s)
ask_nobody k room now s S e = subst (λ (xs : List Pair). Turns k room room None (asked_first now s xs)) (sym e) (record { stands = S; hands = tt; last = tt; stays = refl })

pub ask_first : (k : Stack) (before room : List ℕ) (r : Option Outgoing) (now : ℕ) (s : StackState) (p : Pair) (ps : List Pair) → s.line ≡ p ∷ ps
    → Turns k before room r (asked_pair now p (record s { line = ps }) (held_end p s.node.ends)) → Turns k before room r (ask now s)
ask_first k before room r now s p ps e T = subst (λ (xs : List Pair). Turns k before room r (asked_first now s xs)) (sym e) T

-- no alarm goes off
pub wake_nobody : (k : Stack) (room : List ℕ) (now : ℕ) (s : StackState) → Stands k s → None ≡ taken_due now s.alarms → Turns k room room None (wake now s)
wake_nobody k room now s S e = at s.alarms e
  where
    at : (xs : List Alarm) → None ≡ taken_due now xs → Turns k room room None (woken_first now s xs)
    at [] h = record { stands = S; hands = tt; last = tt; stays = refl }
    at (a ∷ rest) h = go (nat_le a.deadline now) h
      where
        go : (b : Bool) → None ≡ (if b then Some a.pair else None) → Turns k room room None (if b then woken_pair now a.pair (record s { alarms = rest }) (held_end a.pair s.node.ends) else passing s)
        go true g = absurd (cc)
        go false g = record { stands = S; hands = tt; last = tt; stays = refl }

-- the earliest goes off
pub wake_first : (k : Stack) (before room : List ℕ) (r : Option Outgoing) (now : ℕ) (s : StackState) (p : Pair) → Some p ≡ taken_due now s.alarms
    → Turns k before room r (woken_pair now p (record s { alarms = left_due now s.alarms }) (held_end p s.node.ends)) → Turns k before room r (wake now s)
wake_first k before room r now s p e T = at s.alarms e T
  where
    at : (xs : List Alarm) → Some p ≡ taken_due now xs → Turns k before room r (woken_pair now p (record s { alarms = left_due now xs }) (held_end p s.node.ends)) → Turns k before room r (woken_first now s xs)
    at [] h t = absurd (cc)
    at (a ∷ rest) h t = go (nat_le a.deadline now) h t
      where
        go : (b : Bool) → Some p ≡ (if b then Some a.pair else None) → Turns k before room r (woken_pair now p (record s { alarms = (if b then rest else a ∷ rest) }) (held_end p s.node.ends))
            → Turns k before room r (if b then woken_pair now a.pair (record s { alarms = rest }) (held_end a.pair s.node.ends) else passing s)
        go true g u = let same : p ≡ a.pair = cc in subst (λ (q : Pair). Turns k before room r (woken_pair now q (record s { alarms = rest }) (held_end q s.node.ends))) same u
        go false g u = absurd (cc)

-- the alarms that are left where none is due
pub left_all : (now : ℕ) (xs : List Alarm) → None ≡ taken_due now xs → left_due now xs ≡ xs
left_all now [] h = refl
left_all now (a ∷ rest) h = go (nat_le a.deadline now) h
  where
    go : (b : Bool) → None ≡ (if b then Some a.pair else None) → (if b then rest else a ∷ rest) ≡ a ∷ rest
    go true g = absurd (cc)
    go false g = refl
