-- Turns that follow one another.
use Rattle.std.proofs.Common.{◌≡◌, ℕ, zero, suc, ◌+◌, ◌-◌, ◌/◌, ◌<◌, ◌≤◌, arith, Bool, true, false, List, [], ◌∷◌, ◌++◌, Option, Some, None, refl, sym, subst, ◌∙◌}
use Rattle.std.specs.Prelude.{◌==◌, is_some, if◌then◌else◌}
use Rattle.book_endpoint.specs.Emissions.{Emission}
use Rattle.book_cmd_node.specs.declared.node.NodeEvent.{NodeEvent}
use Rattle.book_cmd_node.specs.declared.node.NodeEvent.TheVariants as event
use Rattle.book_cmd_node.specs.NodeRuns.{Performed, ends_ticked}
use Rattle.book_stack.specs.Calls.{Did, Output, call, turn_ended, handed_out}
use Rattle.book_stack.specs.Stacks.{StackState}
use Rattle.book_stack.specs.Turns.{Turn, clocked, output_at, passing, then_turn, turns}
use Rattle.ao_stack.specs.declared.stack.Stack.{Stack}
use Rattle.ao_stack.specs.Answers.{Follows, IsHanded}
use Rattle.ao_stack.specs.Stands.{Stands}
use Rattle.ao_stack.specs.Turns.{HandsAs, MadeLast, Stays, Turns, length_of}
use Rattle.ao_stack.specs.declared.outgoing.Outgoing.{Outgoing}
use Rattle.ao_stack.proofs.CallLaws.{follows}
use Rattle.ao_stack.proofs.LastLaws.{last_behind}

none_handed : (room : List ℕ) (x : Option Emission) → HandsAs room None x → x ≡ None
none_handed room None h = refl
none_handed room (Some x) h = absurd h

some_handed : (room : List ℕ) (o : Outgoing) (x : Option Emission) → HandsAs room (Some o) x → is_some x ≡ true
some_handed room o None h = absurd h
some_handed room o (Some x) h = refl

then_hands : (t : Turn) (next : StackState → Turn) → is_some t.hands ≡ true → then_turn t next ≡ t
then_hands t next some = rw some refl

then_stack : (t : Turn) (next : StackState → Turn) → t.hands ≡ None → (then_turn t next).stack ≡ (next t.stack).stack
then_stack t next none = rw none refl

then_handed : (t : Turn) (next : StackState → Turn) → t.hands ≡ None → (then_turn t next).hands ≡ (next t.stack).hands
then_handed t next none = rw none refl

then_events : (t : Turn) (next : StackState → Turn) → t.hands ≡ None → (then_turn t next).events ≡ t.events ++ (next t.stack).events
then_events t next none = rw none refl

-- ---- what is told of the last event

made_behind : (r : Option Outgoing) (xs ys : List NodeEvent) → MadeLast r ys → MadeLast r (xs ++ ys)
made_behind None xs ys h = tt
made_behind (Some o) xs ys h = last_behind xs ys _ h

-- what is told of a turn that follows is told of both
made_then : (r : Option Outgoing) (t : Turn) (next : StackState → Turn) → t.hands ≡ None → MadeLast r (next t.stack).events → MadeLast r (then_turn t next).events
made_then r t next none h = subst (λ (es : List NodeEvent). MadeLast r es) (sym (then_events t next none)) (made_behind r t.events (next t.stack).events h)

-- ---- one turn after another

-- the buffer was the same before
pub earlier : (k : Stack) (before room after : List ℕ) (r : Option Outgoing) (t : Turn) → room ≡ before → Turns k room after r t → Turns k before after r t
earlier k before room after r t same T = subst (λ (x : List ℕ). Turns k x after r t) same T

-- the first turn handed a segment out
pub turned_some : (k : Stack) (before room : List ℕ) (o : Outgoing) (t : Turn) (next : StackState → Turn) → Turns k before room (Some o) t → Turns k before room (Some o) (then_turn t next)
turned_some k before room o t next T = subst (λ (u : Turn). Turns k before room (Some o) u) (sym (then_hands t next (some_handed room o t.hands T.hands))) T

-- it handed none out
pub turned_none : (k : Stack) (before room : List ℕ) (r : Option Outgoing) (t : Turn) (next : StackState → Turn) → t.hands ≡ None → Turns k before room r (next t.stack) → Turns k before room r (then_turn t next)
turned_none k before room r t next none T = record {
  stands = subst (λ (s : StackState). Stands k s) (sym (then_stack t next none)) T.stands;
  hands = subst (λ (x : Option Emission). HandsAs room r x) (sym (then_handed t next none)) T.hands;
  last = made_then r t next none T.last;
  stays = T.stays;
}

pub none_of : (k : Stack) (before room : List ℕ) (t : Turn) → Turns k before room None t → t.hands ≡ None
none_of k before room t T = none_handed room t.hands T.hands

-- ---- a loop of turns

-- the stack stands for a state from which so many turns are left, and these come to what all come to; the buffer is as it was
pub record Going (all : Turn) (turn : StackState → Turn) (k : Stack) (before room : List ℕ) (left : ℕ) : Type 0 where
  pub state : StackState
  pub stands : Stands k state
  pub stack : all.stack ≡ (turns left turn state).stack
  pub hands : all.hands ≡ (turns left turn state).hands
  pub last : (r : Option Outgoing) → MadeLast r (turns left turn state).events → MadeLast r all.events
  pub same : room ≡ before

pub going_first : (turn : StackState → Turn) (k : Stack) (room : List ℕ) (n left : ℕ) (s : StackState) → left ≡ n → Stands k s → Going (turns n turn s) turn k room room left
going_first turn k room n left s e S = rw e (record { state = s; stands = S; stack = refl; hands = refl; last = λ r h. h; same = refl })

module _ (all : Turn) (turn : StackState → Turn) (k after : Stack) (before mid room : List ℕ) where
  pub going_on : (left m : ℕ) → left ≡ suc m → Going all turn k before mid left → ((s : StackState) → Stands k s → Turns after mid room None (turn s)) → Going all turn after before room m
  going_on left m e G step =
      let H : Going all turn k before mid (suc m) = rw (← e) G in
      let T = step H.state H.stands in
      let none = none_of after mid room (turn H.state) T in
      record {
        state = (turn H.state).stack;
        stands = T.stands;
        stack = H.stack ∙ then_stack (turn H.state) (turns m turn) none;
        hands = H.hands ∙ then_handed (turn H.state) (turns m turn) none;
        last = λ r h. H.last r (made_then r (turn H.state) (turns m turn) none h);
        same = T.stays ∙ H.same;
      }

  as_all : (r : Option Outgoing) (t : Turn) → all.stack ≡ t.stack → all.hands ≡ t.hands → (MadeLast r t.events → MadeLast r all.events) → Turns after before room r t → Turns after before room r all
  as_all r t stack hands last T = record {
    stands = subst (λ (s : StackState). Stands after s) (sym stack) T.stands;
    hands = subst (λ (x : Option Emission). HandsAs room r x) (sym hands) T.hands;
    last = last T.last;
    stays = T.stays;
  }

  pub going_some : (o : Outgoing) (left m : ℕ) → left ≡ suc m → Going all turn k before mid left → ((s : StackState) → Stands k s → Turns after mid room (Some o) (turn s)) → Turns after before room (Some o) all
  going_some o left m e G step =
      let H : Going all turn k before mid (suc m) = rw (← e) G in
      let T = earlier after before mid room (Some o) (turn H.state) H.same (step H.state H.stands) in
      as_all (Some o) (turns (suc m) turn H.state) H.stack H.hands (H.last (Some o)) (turned_some after before room o (turn H.state) (turns m turn) T)

  pub going_end : (left : ℕ) → left ≡ zero → Going all turn after before room left → Turns after before room None all
  going_end left e G =
      let H : Going all turn after before room zero = rw (← e) G in
      as_all None (passing H.state) H.stack H.hands (λ h. tt) (record { stands = H.stands; hands = tt; last = tt; stays = H.same })

-- ---- how many turns are left

pub left_next : (n i : ℕ) → i < n → n - i ≡ suc (n - (i + 1))
left_next n i less = omega arith

pub left_none : (n i : ℕ) → n ≤ i → n - i ≡ zero
left_none n i done = omega arith

-- ---- the answer

pub handed_answer : (room : List ℕ) (r : Option Outgoing) (x : Option Emission) → HandsAs room r x → IsHanded room (length_of r) (handed_out x)
handed_answer room None None h = tt
handed_answer room (Some o) (Some x) h = h
handed_answer room None (Some x) h = absurd h
handed_answer room (Some o) None h = absurd h

output_is : (now : ℕ) (s : StackState) → call (Output now) s ≡ turn_ended (output_at now s)
unfolding call
output_is now s = refl

-- what was handed out is what the call answers
pub outputs : (k : Stack) (before room : List ℕ) (r : Option Outgoing) (now : ℕ) (s : StackState) → Turns k before room r (output_at now s) → Follows k (Output now) s (IsHanded room (length_of r))
outputs k before room r now s T =
    follows k (Output now) s (IsHanded room (length_of r)) (turn_ended (output_at now s)) (output_is now s) T.stands (handed_answer room r (output_at now s).hands T.hands)

-- it was made at the last plain event
pub tells_last : (r : Option Outgoing) (now : ℕ) (s : StackState) → MadeLast r (output_at now s).events → MadeLast r (call (Output now) s).events
tells_last r now s h = subst (λ (d : Did). MadeLast r d.events) (sym (output_is now s)) h

-- the buffer stays
pub untouched : (before room : List ℕ) (r : Option Outgoing) → Stays before room r → r ≡ None → room ≡ before
untouched before room None h none = h
untouched before room (Some o) h none = absurd (cc)

-- the clock hands nothing out
pub clocked_hands : (now : ℕ) (s : StackState) → (clocked now s).hands ≡ None
clocked_hands now s = at (s.node.clock == now / 1000)
  where
    at : (b : Bool) → (if b then passing s else (record {
      stack = record s { node = record { clock = now / 1000; ends = ends_ticked (now / 1000) s.node.ends } };
      events = event.Clock (now / 1000) ∷ [];
      outcomes = Performed ∷ [];
      hands = None;
    })).hands ≡ None
    at true = refl
    at false = refl
