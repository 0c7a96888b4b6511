-- What turns count: nothing but the segment that the last plain event made.
use Rattle.std.proofs.Common.{◌≡◌, ℕ, zero, suc, ◌/◌, Bool, true, false, List, [], ◌∷◌, ◌++◌, length, Option, Some, None, refl, sym, ap, subst, ◌∙◌}
use Rattle.std.specs.Prelude.{◌==◌, is_some, nat_le, if◌then◌else◌}
use Rattle.book_base.specs.declared.address.Pair.{Pair}
use Rattle.book_endpoint.specs.Emissions.{Emission}
use Rattle.book_endpoint.specs.States.{EndState}
use Rattle.book_cmd_node.specs.declared.node.Act.{Act}
use Rattle.book_cmd_node.specs.declared.node.Act.TheVariants as act
use Rattle.book_cmd_node.specs.declared.node.NodeEvent.{NodeEvent}
use Rattle.book_cmd_node.specs.declared.node.NodeEvent.TheVariants as event
use Rattle.book_cmd_node.specs.NodeRuns as node
use Rattle.book_cmd_node.specs.NodeRuns.{Called, NodeOutcome, held_end}
use Rattle.book_stack.specs.Counters.{StackCounts, act_counted, call_counted, event_counted, events_counted, is_moving, told_counted}
use Rattle.book_stack.specs.declared.alarm.Alarm.{Alarm}
use Rattle.book_stack.specs.Calls.{Hands, Output, Rests, call, handed_out}
use Rattle.book_stack.specs.Stacks.{StackState}
use Rattle.book_stack.specs.Turns.{Turn, ask, asked_first, asked_pair, clocked, output_at, passing, segment_in, then_turn, turns, wake, woken_first, woken_pair}
use Rattle.ao_stack.specs.Turns.{last_event}
use Rattle.ao_stack.proofs.LastLaws.{last_behind}

-- a turn that hands nothing out counts nothing; else it counts the segment of its last event
pub record Tallied (t : Turn) : Type 0 where
  pub even : length t.events ≡ length t.outcomes
  pub silent : t.hands ≡ None → (n : StackCounts) → events_counted false t.events t.outcomes n ≡ n
  pub last : (x : Emission) → t.hands ≡ Some x
      → (e : NodeEvent) × (last_event t.events ≡ Some e) × ((n : StackCounts) → events_counted false t.events t.outcomes n ≡ event_counted false e (node.Transmitted x) n)

passes : (s : StackState) → Tallied (passing s)
passes s = record { even = refl; silent = λ e n. refl; last = λ x e. absurd (cc) }

ticks : (now : ℕ) (s : StackState) → Tallied (clocked now s)
ticks now s = at (s.node.clock == now / 1000) refl
  where
    at : (b : Bool) → (s.node.clock == now / 1000) ≡ b → Tallied (clocked now s)
    at true e = rw e (record { even = refl; silent = λ f n. refl; last = λ x f. absurd (cc) })
    at false e = rw e (record { even = refl; silent = λ f n. refl; last = λ x f. absurd (cc) })

-- ---- an end is asked

-- whoever asks an end for a segment performs nothing that is counted
asks_only : Act → Type 0
asks_only a = (p : Pair) (n : StackCounts) → act_counted node.Performed p a n ≡ n

none_made : (p : Pair) (a : Act) (o : NodeOutcome) (n : StackCounts) → asks_only a → segment_in o ≡ None → act_counted o p a n ≡ n
unfolding asks_only
none_made p a node.Performed n only e = only p n
none_made p a node.InUse n only e = refl
none_made p a node.NodeFull n only e = refl
none_made p a node.NoConnection n only e = refl
none_made p a node.NoRoom n only e = refl
none_made p a node.ConnectionClosing n only e = refl
none_made p a (node.Transmitted x) n only e = absurd (cc)
none_made p a node.NoUsableKey n only e = refl
none_made p a node.NothingToSend n only e = refl
none_made p a node.NothingToResend n only e = refl
none_made p a (node.DatagramAnswered answer) n only e = refl
none_made p a (node.Delivered bytes shown) n only e = refl

one_made : (p : Pair) (a : Act) (o : NodeOutcome) (x : Emission) → segment_in o ≡ Some x → o ≡ node.Transmitted x
one_made p a node.Performed x e = absurd (cc)
one_made p a node.InUse x e = absurd (cc)
one_made p a node.NodeFull x e = absurd (cc)
one_made p a node.NoConnection x e = absurd (cc)
one_made p a node.NoRoom x e = absurd (cc)
one_made p a node.ConnectionClosing x e = absurd (cc)
one_made p a (node.Transmitted y) x e = let same : y ≡ x = cc in ap node.Transmitted same
one_made p a node.NoUsableKey x e = absurd (cc)
one_made p a node.NothingToSend x e = absurd (cc)
one_made p a node.NothingToResend x e = absurd (cc)
one_made p a (node.DatagramAnswered answer) x e = absurd (cc)
one_made p a (node.Delivered bytes shown) x e = absurd (cc)

asked_once : (s : StackState) (p : Pair) (a : Act) (o : NodeOutcome) → asks_only a → Tallied (record { stack = s; events = event.On p a ∷ []; outcomes = o ∷ []; hands = segment_in o })
asked_once s p a o only = record {
  even = refl;
  silent = λ e n. none_made p a o n only e;
  last = λ x e. (event.On p a, refl, λ n. ap (λ (y : NodeOutcome). act_counted y p a n) (one_made p a o x e));
}

sends_only : asks_only act.Send
unfolding asks_only
sends_only p n = refl

resends_only : asks_only act.Resend
unfolding asks_only
resends_only p n = refl

asks : (now : ℕ) (p : Pair) (s : StackState) (m : Option EndState) → Tallied (asked_pair now p s m)
asks now p s None = passes s
asks now p s (Some e) = asked_once _ p act.Send _ sends_only

wakes : (now : ℕ) (p : Pair) (s : StackState) (m : Option EndState) → Tallied (woken_pair now p s m)
wakes now p s None = passes s
wakes now p s (Some e) = asked_once _ p act.Resend _ resends_only

first_asked : (now : ℕ) (s : StackState) (xs : List Pair) → Tallied (asked_first now s xs)
first_asked now s [] = passes s
first_asked now s (p ∷ ps) = asks now p (record s { line = ps }) (held_end p s.node.ends)

first_woken : (now : ℕ) (s : StackState) (xs : List Alarm) → Tallied (woken_first now s xs)
first_woken now s [] = passes s
first_woken now s (a ∷ rest) = at (nat_le a.deadline now)
  where
    at : (b : Bool) → Tallied (if b then woken_pair now a.pair (record s { alarms = rest }) (held_end a.pair s.node.ends) else passing s)
    at true = wakes now a.pair (record s { alarms = rest }) (held_end a.pair s.node.ends)
    at false = passes s

-- ---- one turn after another

events_joined : (xs ys : List NodeEvent) (os ps : List NodeOutcome) (n : StackCounts) → length xs ≡ length os → events_counted false (xs ++ ys) (os ++ ps) n ≡ events_counted false ys ps (events_counted false xs os n)
events_joined [] ys [] ps n e = refl
events_joined [] ys (o ∷ os) ps n e = absurd (cc)
events_joined (x ∷ xs) ys [] ps n e = absurd (cc)
events_joined (x ∷ xs) ys (o ∷ os) ps n e = events_joined xs ys os ps (event_counted false x o n) (cc)

length_joined : {A B : Type 0} (xs ys : List A) (os ps : List B) → length xs ≡ length os → length ys ≡ length ps → length (xs ++ ys) ≡ length (os ++ ps)
length_joined [] ys [] ps e f = f
length_joined [] ys (o ∷ os) ps e f = absurd (cc)
length_joined (x ∷ xs) ys [] ps e f = absurd (cc)
length_joined (x ∷ xs) ys (o ∷ os) ps e f = ap suc (length_joined xs ys os ps (cc) f)

-- both turns, where the first hands nothing out
abbrev both : Turn → Turn → Turn
both t u = record { stack = u.stack; events = t.events ++ u.events; outcomes = t.outcomes ++ u.outcomes; hands = u.hands }

both_tallied : (t u : Turn) → t.hands ≡ None → Tallied t → Tallied u → Tallied (both t u)
both_tallied t u none T U = record {
  even = length_joined t.events u.events t.outcomes u.outcomes T.even U.even;
  silent = λ e n. through n ∙ U.silent e n;
  last = λ x e. let L = U.last x e in (L.0, last_behind t.events u.events L.0 L.1, λ n. through n ∙ L.2 n);
}
  where
    through : (n : StackCounts) → events_counted false (t.events ++ u.events) (t.outcomes ++ u.outcomes) n ≡ events_counted false u.events u.outcomes n
    through n = events_joined t.events u.events t.outcomes u.outcomes n T.even ∙ ap (λ (m : StackCounts). events_counted false u.events u.outcomes m) (T.silent none n)

then_first : (t : Turn) (next : StackState → Turn) → is_some t.hands ≡ true → then_turn t next ≡ t
then_first t next some = rw some refl

then_both : (t : Turn) (next : StackState → Turn) → t.hands ≡ None → then_turn t next ≡ both t (next t.stack)
then_both t next none = rw none refl

then_tallied : (t : Turn) (next : StackState → Turn) → Tallied t → ((s : StackState) → Tallied (next s)) → Tallied (then_turn t next)
then_tallied t next T N = at t.hands refl
  where
    at : (x : Option Emission) → t.hands ≡ x → Tallied (then_turn t next)
    at (Some x) e = subst (λ (u : Turn). Tallied u) (sym (then_first t next (ap is_some e))) T
    at None e = subst (λ (u : Turn). Tallied u) (sym (then_both t next e)) (both_tallied t (next t.stack) e T (N t.stack))

turns_tallied : (n : ℕ) (turn : StackState → Turn) (s : StackState) → ((t : StackState) → Tallied (turn t)) → Tallied (turns n turn s)
turns_tallied zero turn s T = passes s
turns_tallied (suc n) turn s T = then_tallied (turn s) (turns n turn) (T s) (λ t. turns_tallied n turn t T)

pub output_tallied : (now : ℕ) (s : StackState) → Tallied (output_at now s)
output_tallied now s =
    then_tallied (clocked now s) _ (ticks now s) (λ t. then_tallied (turns (length t.line) (ask now) t) _ (turns_tallied (length t.line) (ask now) t (λ u. first_asked now u u.line))
    (λ u. turns_tallied (length u.alarms) (wake now) u (λ v. first_woken now v v.alarms)))

-- ---- the call

some_same : (one other : NodeEvent) → Some one ≡ Some other → one ≡ other
some_same one other h = cc

rests : (o : Option Emission) → handed_out o ≡ Rests → o ≡ None
rests None h = refl
rests (Some x) h = absurd (cc)

hands : (o : Option Emission) (x : Emission) → handed_out o ≡ Hands x → o ≡ Some x
hands None x h = absurd (cc)
hands (Some y) x h = let same : y ≡ x = cc in ap Some same

answer_alone : (o : Option Emission) (es : List NodeEvent) (os : List NodeOutcome) (n : StackCounts) → told_counted (handed_out o) (events_counted (is_moving (handed_out o)) es os n) ≡ events_counted false es os n
answer_alone None es os n = refl
answer_alone (Some x) es os n = refl

module _ (now : ℕ) (s : StackState) (n : StackCounts) where
  pub output_rests : (call (Output now) s).answer ≡ Rests → call_counted (call (Output now) s) n ≡ n
  unfolding call
  output_rests h =
      let t = output_at now s in
      answer_alone t.hands t.events t.outcomes n ∙ (output_tallied now s).silent (rests t.hands h) n

  pub output_hands : (x : Emission) (e : NodeEvent) → (call (Output now) s).answer ≡ Hands x → last_event (call (Output now) s).events ≡ Some e → call_counted (call (Output now) s) n ≡ event_counted false e (node.Transmitted x) n
  unfolding call
  output_hands x e h last =
      let t = output_at now s in
      let L = (output_tallied now s).last x (hands t.hands x h) in
      let same : L.0 ≡ e = some_same L.0 e (sym L.1 ∙ last) in
      answer_alone t.hands t.events t.outcomes n ∙ L.2 n ∙ ap (λ (y : NodeEvent). event_counted false y (node.Transmitted x) n) same
