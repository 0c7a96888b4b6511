-- A tally is kept of each pair that is held, and of no other, whatever is called.
use Rattle.std.proofs.Common.{◌≡◌, ℕ, Bool, true, false, List, [], ◌∷◌, ◌++◌, length, Option, Some, None, refl, sym, ap, subst, ◌∙◌}
use Rattle.std.specs.Prelude.{is_some, nat_le, option_map, if◌then◌else◌}
use Rattle.book_base.specs.declared.address.Pair.{Pair}
use Rattle.book_segments.specs.Segments.{Segment, Reading, Read, Bad as Unread, pair_reached, reading}
use Rattle.book_keys.specs.Rows.{Row}
use Rattle.book_endpoint.specs.Arrivals.{arrive}
use Rattle.book_endpoint.specs.Emissions.{emit, resend}
use Rattle.book_endpoint.specs.States.{EndState, abort, close, connected, listening, offered, started, tick}
use Rattle.book_cmd_node.specs.declared.node.Act.{Act}
use Rattle.book_cmd_node.specs.declared.node.Act.TheVariants as act
use Rattle.book_cmd_node.specs.declared.node.NodeEvent.{NodeEvent}
use Rattle.book_cmd_node.specs.declared.node.NodeEvent.TheVariants as event
use Rattle.book_cmd_node.specs.NodeRuns as runs
use Rattle.book_cmd_node.specs.NodeRuns.{Called, Held, NodeOutcome, NodeState, NodeStep, after_call, arrived_at, called, ends_ticked, held_end, injected, made_called, most_ends, new_end, node_from, node_outcomes_from, node_step, on_held, on_other, on_pair, same_pair, take_called, with_end, without_end}
use Rattle.book_stack.specs.declared.tally.Tally.{Tally}
use Rattle.book_stack.specs.Counters.{StackCounts, act_counted, arrival_counted, call_counted, datagram_counted, event_counted, events_counted, is_moving, no_tally, performed_counted, sending_counted, tallied, told_counted, with_tally}
use Rattle.book_stack.specs.KeyIds.{key_ids_heard, key_ids_made, key_ids_read, key_ids_sent}
use Rattle.book_stack.specs.Calls as book
use Rattle.book_stack.specs.Calls.{Call, CallAnswer, call}
use Rattle.book_stack.specs.Stacks.{StackState}
use Rattle.law_node.proofs.Pairs.{same_pair_is}
use Rattle.law_node.proofs.Held.{IsOnce, held, end_pushed_other, end_pushed_same, end_ticked, end_without_other, once_pushed, once_ticked, once_with, once_without}
use Rattle.law_stack.proofs.Called.{call_steps}
use Rattle.law_stack.proofs.Tidy.{is_held_with}
use Rattle.ao_stack.proofs.StandLaws.{some_mapped}

-- each pair that is held has a tally, and no other; no pair is held twice
record Keeps (m : NodeState) (n : StackCounts) : Type 0 where
  held : (q : Pair) → is_some (n.pairs q) ≡ is_some (held_end q m.ends)
  once : (q : Pair) → IsOnce q m.ends

-- ---- tallies

abbrev either : Bool → Option Tally → Option Tally → Option Tally
either b one other = if b then one else other

-- what is changed of a pair is there as before
some_changed : (p q : Pair) (f : Tally → Tally) (n : StackCounts) → is_some (if same_pair p q then option_map f (n.pairs q) else n.pairs q) ≡ is_some (n.pairs q)
some_changed p q f n = at (same_pair p q)
  where
    at : (b : Bool) → is_some (if b then option_map f (n.pairs q) else n.pairs q) ≡ is_some (n.pairs q)
    at true = some_mapped f (n.pairs q)
    at false = refl

-- ---- an end was called

-- no end begins, and one does
abbrev full : NodeState → NodeStep
full m = runs.stays m runs.NodeFull

abbrev made : NodeState → Pair → EndState → NodeStep
made m p new = record { node = record m { ends = m.ends ++ held p new ∷ [] }; outcome = runs.Performed }

-- nothing begins by the act, and nothing goes
stays_only : Act → Type 0
stays_only a = (p : Pair) (n : StackCounts) → performed_counted p a n ≡ n

some_acted : (p q : Pair) (a : Act) (o : NodeOutcome) (n : StackCounts) → stays_only a → is_some ((act_counted o p a n).pairs q) ≡ is_some (n.pairs q)
unfolding stays_only
some_acted p q a runs.Performed n only = ap (λ (x : StackCounts). is_some (x.pairs q)) (only p n)
some_acted p q a runs.InUse n only = refl
some_acted p q a runs.NodeFull n only = refl
some_acted p q a runs.NoConnection n only = refl
some_acted p q a runs.NoRoom n only = refl
some_acted p q a runs.ConnectionClosing n only = refl
some_acted p q a (runs.Transmitted x) n only = some_changed p q (tallied (sending_counted a) (key_ids_sent (key_ids_made x))) n
some_acted p q a runs.NoUsableKey n only = refl
some_acted p q a runs.NothingToSend n only = refl
some_acted p q a runs.NothingToResend n only = refl
some_acted p q a (runs.DatagramAnswered answer) n only = refl
some_acted p q a (runs.Delivered bytes shown) n only = refl

module _ (m : NodeState) (n : StackCounts) (K : Keeps m n) (p : Pair) where
  -- the end of a pair that is held became another
  written : (old new : EndState) (k : StackCounts) → held_end p m.ends ≡ Some old → ((q : Pair) → is_some (k.pairs q) ≡ is_some (n.pairs q)) → Keeps (record m { ends = with_end p new m.ends }) k
  written old new k is same = record {
    held = λ q. same q ∙ K.held q ∙ sym (is_held_with p q old new m.ends is);
    once = λ q. once_with q p new m.ends (K.once q);
  }

  acted : (a : Act) (old : EndState) (c : Called) → held_end p m.ends ≡ Some old → stays_only a → Keeps (after_call m p c).node (act_counted c.outcome p a n)
  acted a old c is only = written old c.state (act_counted c.outcome p a n) is (λ q. some_acted p q a c.outcome n only)

  -- the end was dropped
  dropped : Keeps (record m { ends = without_end p m.ends }) (with_tally p None n)
  dropped = record { held = λ q. at q (same_pair p q) refl; once = λ q. once_without q p m.ends (K.once q) }
    where
      at : (q : Pair) (b : Bool) → same_pair p q ≡ b → is_some (either b None (n.pairs q)) ≡ is_some (held_end q (without_end p m.ends))
      at q true e = subst (λ (x : Pair). false ≡ is_some (held_end x (without_end p m.ends))) (same_pair_is p q e) (ap is_some (sym (K.once p)))
      at q false e = K.held q ∙ ap is_some (sym (end_without_other q p m.ends e))

  -- an end began
  begun : (new : EndState) → held_end p m.ends ≡ None → Keeps (record m { ends = m.ends ++ held p new ∷ [] }) (with_tally p (Some no_tally) n)
  begun new none = record { held = λ q. at q (same_pair p q) refl; once = λ q. once_pushed q p new m.ends none (K.once q) }
    where
      at : (q : Pair) (b : Bool) → same_pair p q ≡ b → is_some (if b then Some no_tally else n.pairs q) ≡ is_some (held_end q (m.ends ++ held p new ∷ []))
      at q true e = subst (λ (x : Pair). true ≡ is_some (held_end x (m.ends ++ held p new ∷ []))) (same_pair_is p q e) (ap is_some (sym (end_pushed_same p new m.ends none)))
      at q false e = K.held q ∙ ap is_some (sym (end_pushed_other q p new m.ends e))

  -- a new end is to begin
  opened : (a : Act) (new : EndState) → held_end p m.ends ≡ None → performed_counted p a n ≡ with_tally p (Some no_tally) n → let step = new_end most_ends m p new in Keeps step.node (act_counted step.outcome p a n)
  opened a new none begins = at (nat_le most_ends (length m.ends))
    where
      at : (b : Bool) → Keeps (if b then full m else made m p new).node (act_counted (if b then full m else made m p new).outcome p a n)
      at true = K
      at false = subst (λ (x : StackCounts). Keeps (record m { ends = m.ends ++ held p new ∷ [] }) x) (sym begins) (begun new none)

-- ---- an event

ticked : (seconds : ℕ) (m : NodeState) (n : StackCounts) → Keeps m n → Keeps (record { clock = seconds; ends = ends_ticked seconds m.ends }) n
ticked seconds m n K = record {
  held = λ q. K.held q ∙ sym (ap is_some (end_ticked q seconds m.ends) ∙ some_mapped (tick seconds) (held_end q m.ends));
  once = λ q. once_ticked q seconds m.ends (K.once q);
}

module _ (moved : Bool) (rows : List Row) (m : NodeState) (n : StackCounts) (K : Keeps m n) where
  reached : (d : Segment) (o : Option EndState) → held_end (pair_reached d) m.ends ≡ o → let step = arrived_at rows m (pair_reached d) (Read d) o in Keeps step.node (datagram_counted moved step.outcome (Read d) n)
  reached d None is = record { held = K.held; once = K.once }
  reached d (Some s) is =
      let a = arrive rows (pair_reached d) m.clock s (Read d) in
      written m n K (pair_reached d) s a.state (datagram_counted moved (runs.DatagramAnswered a.answer) (Read d) n) is
      (λ q. some_changed (pair_reached d) q (tallied (arrival_counted a.answer) (key_ids_heard moved a.answer (key_ids_read (Read d)))) n)

  came : (r : Reading) → let step = injected rows m r in Keeps step.node (datagram_counted moved step.outcome r n)
  came (Unread fault) = record { held = K.held; once = K.once }
  came (Read d) = reached d (held_end (pair_reached d) m.ends) refl

  held_acts : (p : Pair) (s : EndState) (a : Act) → held_end p m.ends ≡ Some s → let step = on_held rows m p s a in Keeps step.node (act_counted step.outcome p a n)
  unfolding stays_only
  held_acts p s (act.Open isn) is = written m n K p s s n is (λ q. refl)
  held_acts p s (act.Listen isn) is = written m n K p s s n is (λ q. refl)
  held_acts p s (act.Start isn peer) is = written m n K p s s n is (λ q. refl)
  held_acts p s (act.Give piece) is = acted m n K p (act.Give piece) s (offered called runs.node_offers piece s) is (λ q k. refl)
  held_acts p s (act.Take count) is = acted m n K p (act.Take count) s (take_called count s) is (λ q k. refl)
  held_acts p s act.Send is = acted m n K p act.Send s (made_called s runs.NothingToSend (emit rows p m.clock s)) is (λ q k. refl)
  held_acts p s act.Resend is = acted m n K p act.Resend s (made_called s runs.NothingToResend (resend rows p m.clock s)) is (λ q k. refl)
  held_acts p s act.Close is = acted m n K p act.Close s (called (close s) runs.Performed) is (λ q k. refl)
  held_acts p s act.Abort is = acted m n K p act.Abort s (called (abort s) runs.Performed) is (λ q k. refl)
  held_acts p s act.Remove is = dropped m n K p

  other_acts : (p : Pair) (a : Act) → held_end p m.ends ≡ None → let step = on_other most_ends m p a in Keeps step.node (act_counted step.outcome p a n)
  other_acts p (act.Open isn) none = opened m n K p (act.Open isn) (connected p isn) none refl
  other_acts p (act.Listen isn) none = opened m n K p (act.Listen isn) (listening p isn) none refl
  other_acts p (act.Start isn peer) none = opened m n K p (act.Start isn peer) (started p isn peer) none refl
  other_acts p (act.Give piece) none = K
  other_acts p (act.Take count) none = K
  other_acts p act.Send none = K
  other_acts p act.Resend none = K
  other_acts p act.Close none = K
  other_acts p act.Abort none = K
  other_acts p act.Remove none = K

  pair_acts : (p : Pair) (a : Act) (o : Option EndState) → held_end p m.ends ≡ o → let step = on_pair most_ends rows m (record { pair = p; act = a }) o in Keeps step.node (act_counted step.outcome p a n)
  pair_acts p a None is = other_acts p a is
  pair_acts p a (Some s) is = held_acts p s a is

step_keeps : (moved : Bool) (rows : List Row) (e : NodeEvent) (m : NodeState) (n : StackCounts) → Keeps m n → let step = node_step most_ends rows m e in Keeps step.node (event_counted moved e step.outcome n)
step_keeps moved rows (event.Clock seconds) m n K = ticked seconds m n K
step_keeps moved rows (event.Inject bytes) m n K = came moved rows m n K (reading bytes)
step_keeps moved rows (event.On p a) m n K = pair_acts moved rows m n K p a (held_end p m.ends) refl

events_keep : (moved : Bool) (rows : List Row) (es : List NodeEvent) (m : NodeState) (n : StackCounts) → Keeps m n
    → Keeps (node_from most_ends rows m es) (events_counted moved es (node_outcomes_from most_ends rows m es) n)
events_keep moved rows [] m n K = K
events_keep moved rows (e ∷ es) m n K =
    let step = node_step most_ends rows m e in
    events_keep moved rows es step.node (event_counted moved e step.outcome n) (step_keeps moved rows e m n K)

-- ---- a call

told_keeps : (a : CallAnswer) (m : NodeState) (n : StackCounts) → Keeps m n → Keeps m (told_counted a n)
told_keeps (book.Told o) m n K = K
told_keeps (book.Moves o) m n K = K
told_keeps (book.Knocks q) m n K = record { held = K.held; once = K.once }
told_keeps (book.Refuses why) m n K = record { held = K.held; once = K.once }
told_keeps (book.Hands x) m n K = K
told_keeps book.Rests m n K = K
told_keeps (book.Adds x) m n K = K
told_keeps book.Withdraws m n K = K
told_keeps book.NoSuchRow m n K = K

-- after a call each pair that is held has a tally, and no other, if it was so before
pub call_held : (c : Call) (s : StackState) (n : StackCounts) → ((q : Pair) → is_some (n.pairs q) ≡ is_some (held_end q s.node.ends)) → ((q : Pair) → held_end q (without_end q s.node.ends) ≡ None)
    → (q : Pair) → is_some ((call_counted (call c s) n).pairs q) ≡ is_some (held_end q (call c s).stack.node.ends)
call_held c s n held once q =
    let d = call c s in
    let T = call_steps c s in
    let moved = is_moving d.answer in
    let before : Keeps s.node n = record { held = held; once = once } in
    let after = events_keep moved s.rows d.events s.node n before in
    let stood = subst (λ (m : NodeState). Keeps m (events_counted moved d.events (node_outcomes_from most_ends s.rows s.node d.events) n)) (sym T.node) after in
    let told = subst (λ (os : List NodeOutcome). Keeps d.stack.node (events_counted moved d.events os n)) (sym T.told) stood in
    (told_keeps d.answer d.stack.node (events_counted moved d.events d.outcomes n) told).held q
