-- What calls at one stack do whose line holds no other pair than this.
use Rattle.std.proofs.Common.{◌≡◌, ℕ, zero, suc, ◌/◌, ◌≤◌, ◌==◌, Bool, true, false, ◌&&◌, nat_le, List, [], ◌∷◌, length, Option, Some, None, ◌⊎◌, inl, inr, refl, ap, ◌∙◌, subst, if◌then◌else◌, arith}
use Rattle.std.proofs.lemmas.Bool.Decides.{nat_tests}
use Rattle.book_base.specs.declared.address.Pair.{Pair}
use Rattle.book_segments.specs.Segments.{Segment, Reading, Read, good, reading, pair_reached}
use Rattle.book_keys.specs.Rows.{Row}
use Rattle.book_endpoint.specs.States.{EndState, take_out}
use Rattle.book_endpoint.specs.Arrivals.{Arrived, arrive, syn_alone}
use Rattle.book_endpoint.specs.Emissions.{Emitted, Quiet, NoKey, Emits, emit}
use Rattle.book_cmd_node.specs.declared.node.Act.TheVariants as act
use Rattle.book_cmd_node.specs.NodeRuns.{Called, DatagramAnswered, NodeState, NodeStep, NothingToSend, NoUsableKey, called, held_end, made_called, most_ends, with_end}
use Rattle.law_node.proofs.Held.{end_with_same}
use Rattle.law_node.proofs.Pairs.{same_pair-refl}
use Rattle.book_stack.specs.Alarms.{lined}
use Rattle.book_stack.specs.Calls.{Call, At, Input, Output, CallAnswer, Hands, Rests, Did, after_segment_heard, after_turn, at_pair, Incoming, bytes_received, call, handed_out, heard_pair, kept, stepped, asked_for}
use Rattle.book_stack.specs.Stacks.{StackState, asking_judged, asks, is_free, touched, watched}
use Rattle.book_stack.specs.Turns.{Turn, ask, asked_end, asked_first, asked_pair, called_at, change_by, clocked, output_at, passing, then_turn, turns, wake}
use Rattle.book_stack.specs.Watches.{arrived, is_heard}
use Rattle.law_progress.proofs.Making.{if_on}
use Rattle.law_stack.proofs.Rings.{due}
use Rattle.law_stack.proofs.Timed.{TidyRings, run_rings}
use Rattle.law_stack.proofs.Turned.{clocked_anew, step_held}
use Rattle.law_lossless.proofs.Once.{asked_due, call_did, wake_is}

-- the end of a pair in a stack whose line holds no other
pub record Has (now : ℕ) (pair : Pair) (rows : List Row) (clock : ℕ) (s : StackState) (u : EndState) : Type 0 where
  pub rows_are : s.rows ≡ rows
  pub clock_is : s.node.clock ≡ clock
  pub time : s.node.clock ≡ now / 1000
  pub held : held_end pair s.node.ends ≡ Some u
  pub line : (s.line ≡ []) ⊎ (s.line ≡ pair ∷ [])
  pub some : 1 ≤ s.most
  pub few : s.most ≤ most_ends
  pub both : TidyRings s
  pub none : due now s.alarms ≡ 0

-- the pair is in line once it was touched
touched_line : (pair : Pair) (most : ℕ) (line : List Pair) → 1 ≤ most → (line ≡ []) ⊎ (line ≡ pair ∷ []) → lined most pair line ≡ pair ∷ []
touched_line pair most line some (inl e) = let test : nat_le most 0 ≡ false = grind (arith, nat_tests) in rw (e, test) refl
touched_line pair most line some (inr e) = rw (e, same_pair-refl pair) refl

wakes_pass : (now n : ℕ) (q : StackState) → due now q.alarms ≡ 0 → ((turns n (wake now) q).stack ≡ q) × ((turns n (wake now) q).hands ≡ None)
wakes_pass now zero q none = (refl, refl)
wakes_pass now (suc n) q none =
    let is = wake_is now q none in
    let rest = wakes_pass now n q none in
    (ap (λ (x : Turn). (then_turn x (turns n (wake now))).stack) is ∙ rest.0, ap (λ (x : Turn). (then_turn x (turns n (wake now))).hands) is ∙ rest.1)

-- what a stack answers whose end makes this, and the end's state then
abbrev pub answer_of : Emitted → CallAnswer
answer_of (Emits em) = Hands em
answer_of Quiet = Rests
answer_of NoKey = Rests

abbrev pub state_of : EndState → Emitted → EndState
state_of u (Emits em) = em.state
state_of u Quiet = u
state_of u NoKey = u

module _ (now : ℕ) (pair : Pair) (rows : List Row) (clock : ℕ) (s : StackState) (u : EndState) (h : Has now pair rows clock s u) where
  -- what a call leaves, where that is known of the fields
  left_by : (c : Call) (v : EndState) → (call c s).stack.rows ≡ s.rows → (call c s).stack.node.clock ≡ s.node.clock → (call c s).stack.most ≡ s.most → held_end pair (call c s).stack.node.ends ≡ Some v
      → ((call c s).stack.line ≡ []) ⊎ ((call c s).stack.line ≡ pair ∷ []) → due now (call c s).stack.alarms ≡ 0 → Has now pair rows clock (call c s).stack v
  left_by c v same_rows same_clock same_most held line none =
      let some = h.some in
      let few = h.few in
      record {
        rows_are = same_rows ∙ h.rows_are;
        clock_is = same_clock ∙ h.clock_is;
        time = same_clock ∙ h.time;
        held = held;
        line = line;
        some = omega arith;
        few = omega arith;
        both = run_rings s (c ∷ []) h.few h.both;
        none = none;
      }

  -- ---- the user takes

  abbrev taken_stack : ℕ → StackState
  taken_stack n = touched pair (record s { node = record s.node { ends = with_end pair (take_out n u) s.node.ends } })

  take_is : (n : ℕ) → (call (At pair (act.Take n)) s).stack ≡ taken_stack n
  unfolding call
  take_is n =
      let a = act.Take n in
      ap (λ (o : Option EndState). (at_pair pair a s o).stack) h.held ∙ ap (λ (x : NodeStep). kept pair a x.outcome (stepped s x)) (step_held s.rows s.node pair a u h.held)

  pub take_has : (n : ℕ) → Has now pair rows clock (call (At pair (act.Take n)) s).stack (take_out n u)
  take_has n =
      let is = take_is n in
      left_by (At pair (act.Take n)) (take_out n u) (ap (λ (t : StackState). t.rows) is) (ap (λ (t : StackState). t.node.clock) is) (ap (λ (t : StackState). t.most) is)
      (ap (λ (t : StackState). held_end pair t.node.ends) is ∙ end_with_same pair (take_out n u) u s.node.ends h.held)
      (inr (ap (λ (t : StackState). t.line) is ∙ touched_line pair s.most s.line h.some h.line))
      (call_did now (At pair (act.Take n)) s refl h.both h.none).none

  pub take_line : (n : ℕ) → (call (At pair (act.Take n)) s).stack.line ≡ pair ∷ []
  take_line n = ap (λ (t : StackState). t.line) (take_is n) ∙ touched_line pair s.most s.line h.some h.line

  -- ---- it is asked for what is due

  still : clocked now s ≡ passing s
  still =
      let is = h.time in
      let test : (s.node.clock == now / 1000) ≡ true = grind (arith, nat_tests) in
      if_on (s.node.clock == now / 1000) (passing s) (clocked_anew now s) test

  -- the stack once this pair left the line
  abbrev bare : StackState
  bare = record s { line = [] }

  ask_is : (r : Emitted) → s.line ≡ pair ∷ [] → emit rows pair clock u ≡ r → ask now s ≡ asked_end now pair u (made_called u NothingToSend r) bare
  ask_is r line is =
      let made : emit s.rows pair s.node.clock u ≡ r = ap (λ (k : List Row). emit k pair s.node.clock u) h.rows_are ∙ ap (λ (k : ℕ). emit rows pair k u) h.clock_is ∙ is in
      ap (asked_first now s) line ∙ ap (asked_pair now pair bare) h.held ∙ ap (λ (x : Emitted). asked_end now pair u (made_called u NothingToSend x) bare) made

  -- the turn that an answer makes, with what comes behind it
  abbrev turn_of : Emitted → Turn
  turn_of r = then_turn (then_turn (asked_end now pair u (made_called u NothingToSend r) bare) (turns 0 (ask now))) (λ t. turns (length t.alarms) (wake now) t)

  turns_are : (r : Emitted) → s.line ≡ pair ∷ [] → emit rows pair clock u ≡ r → turns (length s.line) (ask now) s ≡ then_turn (asked_end now pair u (made_called u NothingToSend r) bare) (turns 0 (ask now))
  turns_are r line is = ap (λ (l : List Pair). turns (length l) (ask now) s) line ∙ ap (λ (x : Turn). then_turn x (turns 0 (ask now))) (ask_is r line is)

  output_stack : (r : Emitted) → s.line ≡ pair ∷ [] → emit rows pair clock u ≡ r → (output_at now s).stack ≡ (turn_of r).stack
  output_stack r line is =
      ap (λ (x : Turn). (then_turn x (λ t. then_turn (turns (length t.line) (ask now) t) (λ v. turns (length v.alarms) (wake now) v))).stack) still
      ∙ ap (λ (x : Turn). (then_turn x (λ t. turns (length t.alarms) (wake now) t)).stack) (turns_are r line is)

  output_hands : (r : Emitted) → s.line ≡ pair ∷ [] → emit rows pair clock u ≡ r → (output_at now s).hands ≡ (turn_of r).hands
  output_hands r line is =
      ap (λ (x : Turn). (then_turn x (λ t. then_turn (turns (length t.line) (ask now) t) (λ v. turns (length v.alarms) (wake now) v))).hands) still
      ∙ ap (λ (x : Turn). (then_turn x (λ t. turns (length t.alarms) (wake now) t)).hands) (turns_are r line is)

  -- where nothing is handed out no alarm goes off
  asked_none : (c : Called) → due now (asked_end now pair u c bare).stack.alarms ≡ 0
  asked_none c =
      let b = h.both.rings in
      asked_due now pair u c bare (record { sorted = b.sorted; queue = b.queue; same = b.same; on = b.on }) h.none

  pub output_has : (r : Emitted) → s.line ≡ pair ∷ [] → emit rows pair clock u ≡ r → ((call (Output now) s).answer ≡ answer_of r) × Has now pair rows clock (call (Output now) s).stack (state_of u r)
  unfolding call
  output_has (Emits em) line is =
      let stack = output_stack (Emits em) line is in (
        ap handed_out (output_hands (Emits em) line is),
        left_by (Output now) em.state (ap (λ (t : StackState). t.rows) stack) (ap (λ (t : StackState). t.node.clock) stack) (ap (λ (t : StackState). t.most) stack)
            (ap (λ (t : StackState). held_end pair t.node.ends) stack ∙ end_with_same pair em.state u s.node.ends h.held)
            (inr (ap (λ (t : StackState). t.line) stack ∙ touched_line pair s.most [] h.some (inl refl)))
            (call_did now (Output now) s refl h.both h.none).none,
      )
  output_has Quiet line is =
      let c = called u NothingToSend in
      let q = (asked_end now pair u c bare).stack in
      let pass = wakes_pass now (length q.alarms) q (asked_none c) in
      let stack = output_stack Quiet line is ∙ pass.0 in (
        ap handed_out (output_hands Quiet line is ∙ pass.1),
        left_by (Output now) u (ap (λ (t : StackState). t.rows) stack) (ap (λ (t : StackState). t.node.clock) stack) (ap (λ (t : StackState). t.most) stack)
            (ap (λ (t : StackState). held_end pair t.node.ends) stack ∙ end_with_same pair u u s.node.ends h.held)
            (inl (ap (λ (t : StackState). t.line) stack))
            (call_did now (Output now) s refl h.both h.none).none,
      )
  output_has NoKey line is =
      let c = called u NoUsableKey in
      let q = (asked_end now pair u c bare).stack in
      let pass = wakes_pass now (length q.alarms) q (asked_none c) in
      let stack = output_stack NoKey line is ∙ pass.0 in (
        ap handed_out (output_hands NoKey line is ∙ pass.1),
        left_by (Output now) u (ap (λ (t : StackState). t.rows) stack) (ap (λ (t : StackState). t.node.clock) stack) (ap (λ (t : StackState). t.most) stack)
            (ap (λ (t : StackState). held_end pair t.node.ends) stack ∙ end_with_same pair u u s.node.ends h.held)
            (inr (ap (λ (t : StackState). t.line) stack ∙ touched_line pair s.most [] h.some (inl refl)))
            (call_did now (Output now) s refl h.both h.none).none,
      )

  -- ---- a segment comes

  -- the stack once its end heard a segment
  abbrev heard_stack : Arrived → StackState
  heard_stack a = let c = called a.state (DatagramAnswered a.answer) in after_segment_heard now pair a.answer (change_by u c) (called_at pair c s)

  heard_fields : (a : Arrived) (b : Bool) → let c = called a.state (DatagramAnswered a.answer) in let t = called_at pair c s in let x = (if b then touched pair (watched pair (arrived now (change_by u c) (t.watches pair)) t) else t) in
      (x.rows ≡ s.rows) × (x.node ≡ t.node) × (x.most ≡ s.most) × ((x.line ≡ []) ⊎ (x.line ≡ pair ∷ []))
  heard_fields a true = (refl, refl, refl, inr (touched_line pair s.most s.line h.some h.line))
  heard_fields a false = (refl, refl, refl, h.line)

  input_is : (bytes : List ℕ) (d : Segment) → reading bytes ≡ Read d → pair_reached d ≡ pair → syn_alone d ≡ false → (call (Input (record { now = now; bytes = bytes })) s).stack ≡ heard_stack (arrive s.rows pair s.node.clock u (Read d))
  unfolding call
  input_is bytes d reads to plain =
      let coming : Incoming = record { now = now; bytes = bytes } in
      let ends = s.node.ends in
      let no_knock : asks d (Some u) ≡ false = ap (λ (b : Bool). b && good d && is_free (Some u)) plain in
      ap (λ (t : Turn). (after_turn t (bytes_received coming (reading bytes))).stack) still
      ∙ ap (λ (r : Reading). (bytes_received coming r s).stack) reads
      ∙ ap (λ (p : Pair). (let x : Did = if asks d (held_end p ends) then asked_for coming d s (held_end p ends) (asking_judged s d) else heard_pair coming p d s (held_end p ends) in x.stack)) to
      ∙ ap (λ (o : Option EndState). (let x : Did = if asks d o then asked_for coming d s o (asking_judged s d) else heard_pair coming pair d s o in x.stack)) h.held
      ∙ ap (λ (b : Bool). (let x : Did = if b then asked_for coming d s (Some u) (asking_judged s d) else heard_pair coming pair d s (Some u) in x.stack)) no_knock

  pub input_has : (bytes : List ℕ) (d : Segment) → reading bytes ≡ Read d → pair_reached d ≡ pair → syn_alone d ≡ false → Has now pair rows clock (call (Input (record { now = now; bytes = bytes })) s).stack (arrive rows pair clock u (Read d)).state
  input_has bytes d reads to plain =
      let coming : Incoming = record { now = now; bytes = bytes } in
      let a = arrive s.rows pair s.node.clock u (Read d) in
      let is = input_is bytes d reads to plain in
      let f = heard_fields a (is_heard a.answer) in
      let same : a ≡ arrive rows pair clock u (Read d) = ap (λ (k : List Row). arrive k pair s.node.clock u (Read d)) h.rows_are ∙ ap (λ (k : ℕ). arrive rows pair k u (Read d)) h.clock_is in
      subst (λ (x : Arrived). Has now pair rows clock (call (Input coming) s).stack x.state) same
      (left_by (Input coming) a.state (ap (λ (t : StackState). t.rows) is ∙ f.0) (ap (λ (t : StackState). t.node.clock) is ∙ ap (λ (n : NodeState). n.clock) f.1) (ap (λ (t : StackState). t.most) is ∙ f.2)
      (ap (λ (t : StackState). held_end pair t.node.ends) is ∙ ap (λ (n : NodeState). held_end pair n.ends) f.1 ∙ end_with_same pair a.state u s.node.ends h.held)
      (line_by is f.3)
      (call_did now (Input coming) s refl h.both h.none).none)
    where
      line_by : {x y : StackState} → x ≡ y → (y.line ≡ []) ⊎ (y.line ≡ pair ∷ []) → (x.line ≡ []) ⊎ (x.line ≡ pair ∷ [])
      line_by e (inl f) = inl (ap (λ (t : StackState). t.line) e ∙ f)
      line_by e (inr f) = inr (ap (λ (t : StackState). t.line) e ∙ f)
