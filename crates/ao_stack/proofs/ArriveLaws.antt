-- A datagram comes to a stack.
use Rattle.std.proofs.Common.{◌≡◌, ℕ, Bool, true, false, not, ◌&&◌, Option, Some, None, Ok, Err, refl, sym, ap, subst, ◌∙◌}
use Rattle.std.specs.Prelude.{option_map, if◌then◌else◌}
use Rattle.book_base.specs.declared.address.Pair.{Pair}
use Rattle.book_segments.specs.declared.fault.DatagramFault.{DatagramFault}
use Rattle.book_segments.specs.Segments.{Segment, Reading, Read, Bad as Unread, ACK, FIN, RST, SYN, good, has, reading}
use Rattle.book_endpoint.specs.declared.arrival.Arrival.{Arrival}
use Rattle.book_endpoint.specs.Arrivals.{arrive, syn_alone}
use Rattle.book_endpoint.specs.Verdicts.{Finding, Judgement}
use Rattle.book_endpoint.specs.declared.refusal.Refusal.{Refusal}
use Rattle.book_endpoint.specs.States.{EndState}
use Rattle.book_cmd_node.specs.NodeRuns.{DatagramAnswered, called, held_end}
use Rattle.book_segments.specs.Segments.{pair_reached}
use Rattle.law_node.proofs.Held.{end_with_same}
use Rattle.book_stack.specs.declared.front.Change.{Change}
use Rattle.book_stack.specs.declared.front.Front.{Front}
use Rattle.book_stack.specs.Calls as book
use Rattle.book_stack.specs.Calls.{CallAnswer, Incoming, Did, Input, after_turn, answer_moving, asked_for, call, bytes_received, after_segment_heard, heard_pair, met, unasked}
use Rattle.book_stack.specs.Stacks.{StackState, asking_judged, asks, touched, watched}
use Rattle.book_stack.specs.Turns.{called_at, clocked}
use Rattle.book_stack.specs.Watches.{arrived, end_front, is_heard, moves_on}
use Rattle.tcp_endpoint.specs.declared.arrival.Arrived.{Arrived}
use Rattle.stack_ends.specs.declared.answer.NodeArrival.{NodeArrival}
use Rattle.stack_ends.specs.declared.answer.NodeArrival.TheVariants as arrivals
use Rattle.tcp_endpoint.specs.Arrivals.{TellsPassed, passed_of}
use Rattle.stack_ends.specs.declared.ends.Ends.{Ends}
use Rattle.stack_ends.specs.Arrivals.{Meets, MeetsPair, MeetsRead}
use Rattle.stack_ends.specs.Stands.{most_of}
use Rattle.ao_stack.specs.declared.stack.Stack.{Stack}
use Rattle.ao_stack.specs.declared.input.Heard.{Heard}
use Rattle.ao_stack.specs.declared.input.Heard.TheVariants as heards
use Rattle.ao_stack.specs.Answers.{Does, Follows, IsHeard, heard_moving}
use Rattle.ao_stack.specs.Passed.{PassesAs, TellsFound, found_by}
use Rattle.ao_stack.specs.Stands.{Stands}
use Rattle.ao_stack.proofs.CallLaws.{follows}
use Rattle.ao_stack.proofs.StandLaws.{moved as after_ends, some_with}

-- ---- the timer and the line

pub heard_not : (k : Stack) (now : ℕ) (p : Pair) (a : Arrival) (c : Change) (s : StackState) → is_heard a ≡ false → Stands k s → Stands k (after_segment_heard now p a c s)
heard_not k now p a c s e S = subst (λ (b : Bool). Stands k (if b then touched p (watched p (arrived now c (s.watches p)) s) else s)) (sym e) S

pub heard_so : (k : Stack) (now : ℕ) (p : Pair) (a : Arrival) (b c : Change) (s : StackState) → is_heard a ≡ true → b ≡ c → Stands k (touched p (watched p (arrived now b (s.watches p)) s)) → Stands k (after_segment_heard now p a c s)
heard_so k now p a b c s e same S =
    subst (λ (v : Bool). Stands k (if v then touched p (watched p (arrived now c (s.watches p)) s) else s)) (sym e)
    (subst (λ (x : Change). Stands k (touched p (watched p (arrived now x (s.watches p)) s))) same S)

-- where an end stands, once its pair is known to be held
pub front_missed : (o : Option EndState) (e : EndState) → None ≡ option_map end_front o → o ≡ Some e → ⊥
front_missed None e f is = absurd (cc)
front_missed (Some x) e f is = absurd (cc)

pub front_found : (o : Option EndState) (f : Front) (e : EndState) → Some f ≡ option_map end_front o → o ≡ Some e → f ≡ end_front e
front_found None f e h is = absurd (cc)
front_found (Some x) f e h is = let one : f ≡ end_front x = cc in let two : x ≡ e = cc in one ∙ ap end_front two

pub some_front : (o : Option EndState) (f : Front) → Some f ≡ option_map end_front o → (e : EndState) × (o ≡ Some e) × (f ≡ end_front e)
some_front None f h = absurd (cc)
some_front (Some x) f h = (x, refl, cc)

pub no_front : (o : Option EndState) → None ≡ option_map end_front o → o ≡ None
no_front None h = refl
no_front (Some x) h = absurd (cc)

-- where the end of a pair stands, by another name of the pair
pub front_at : (s : StackState) (p q : Pair) → p ≡ q → (f : Option Front) → f ≡ option_map end_front (held_end p s.node.ends) → f ≡ option_map end_front (held_end q s.node.ends)
front_at s p q e f h = subst (λ (x : Pair). f ≡ option_map end_front (held_end x s.node.ends)) e h

pub told_same : (p q : Pair) (a b : Arrived) → arrivals.At p a ≡ arrivals.At q b → a.arrival ≡ b.arrival
told_same p q a b e = let same : a ≡ b = cc in ap (λ (x : Arrived). x.arrival) same

-- ---- a segment comes to the end of its pair

pub heard_none : (k : Stack) (coming : Incoming) (p : Pair) (d : Segment) (s : StackState) → Stands k s → p ≡ pair_reached d → held_end p s.node.ends ≡ None
    → Does k (IsHeard (Read d) (heards.Told arrivals.NoConnection)) (heard_pair coming (pair_reached d) d s (held_end (pair_reached d) s.node.ends))
heard_none k coming p d s S q none =
    subst (λ (x : Pair). Does k (IsHeard (Read d) (heards.Told arrivals.NoConnection)) (heard_pair coming x d s (held_end x s.node.ends))) q
    (subst (λ (o : Option EndState). Does k (IsHeard (Read d) (heards.Told arrivals.NoConnection)) (heard_pair coming p d s o)) (sym none) (record { stands = S; answer = refl }))

-- what an end answered is told, by whether its connection moved on
pub told_moving : (d : Segment) (p : Pair) (arrived : Arrived) (a : Arrival) (m : Bool) → arrived.arrival ≡ a → p ≡ pair_reached d
    → IsHeard (Read d) (heard_moving m (arrivals.At p arrived)) (answer_moving m (DatagramAnswered a))
told_moving d p arrived a true same q = (ap (λ (x : Arrival). book.Moves (DatagramAnswered x)) (sym same), q)
told_moving d p arrived a false same q = (ap (λ (x : Arrival). book.Told (DatagramAnswered x)) (sym same), q)

module _ (k mid after : Stack) (s : StackState) (S : Stands k s) (coming : Incoming) (p : Pair) (d : Segment) (told : NodeArrival) (moved : Bool) where
  pub heard_some : (e : EndState) (before : Front) → p ≡ pair_reached d → held_end p s.node.ends ≡ Some e → before ≡ end_front e → Meets mid.ends s.rows s.node told (reading coming.bytes)
      → reading coming.bytes ≡ Read d → most_of mid.ends ≡ most_of k.ends → mid.watches ≡ k.watches → mid.alarms ≡ k.alarms → mid.line ≡ k.line
      → ((t : StackState) (f : EndState) (r : Pair) (arrived : Arrived) → Stands mid t → held_end p t.node.ends ≡ Some f → told ≡ arrivals.At r arrived
      → Stands after (after_segment_heard coming.now p arrived.arrival (record { before = before; after = end_front f }) t))
      → ((t : StackState) (f : EndState) (r : Pair) (arrived : Arrived) → Stands mid t → held_end p t.node.ends ≡ Some f → told ≡ arrivals.At r arrived
      → moved ≡ moves_on (record { before = before; after = end_front f }))
      → Does after (IsHeard (Read d) (heard_moving moved told)) (heard_pair coming (pair_reached d) d s (held_end (pair_reached d) s.node.ends))
  heard_some e before q is was meets read most w al li follow move =
      let first : MeetsRead mid.ends s.rows s.node d told (held_end (pair_reached d) s.node.ends) = subst (λ (r : Reading). Meets mid.ends s.rows s.node told r) read meets in
      let second : MeetsPair mid.ends s.rows s.node d p told (held_end p s.node.ends) =
      subst (λ (x : Pair). MeetsPair mid.ends s.rows s.node d x told (held_end x s.node.ends)) (sym q) first in
      let M : MeetsPair mid.ends s.rows s.node d p told (Some e) = subst (λ (o : Option EndState). MeetsPair mid.ends s.rows s.node d p told o) is second in
      let a = arrive s.rows p s.node.clock e (Read d) in
      let c = called a.state (DatagramAnswered a.answer) in
      let t = called_at p c s in
      let T = after_ends k mid s S t.node M.5 most w al li (λ r. some_with p r e a.state s.node.ends is) in
      let held : held_end p t.node.ends ≡ Some a.state = end_with_same p a.state e s.node.ends is in
      let F = follow t a.state p M.0 T held M.1 in
      let answered : Stands after (after_segment_heard coming.now p a.answer (record { before = before; after = end_front a.state }) t) =
      subst (λ (x : Arrival). Stands after (after_segment_heard coming.now p x (record { before = before; after = end_front a.state }) t)) M.2 F in
      let stands : Stands after (after_segment_heard coming.now p a.answer (record { before = end_front e; after = end_front a.state }) t) =
      subst (λ (x : Front). Stands after (after_segment_heard coming.now p a.answer (record { before = x; after = end_front a.state }) t)) was answered in
      let on : moved ≡ moves_on (record { before = end_front e; after = end_front a.state }) =
      subst (λ (x : Front). moved ≡ moves_on (record { before = x; after = end_front a.state })) was (move t a.state p M.0 T held M.1) in
      let mine : IsHeard (Read d) (heard_moving moved told) (answer_moving moved (DatagramAnswered a.answer)) =
      subst (λ (x : NodeArrival). IsHeard (Read d) (heard_moving moved x) (answer_moving moved (DatagramAnswered a.answer))) (sym M.1) (told_moving d p M.0 a.answer moved M.2 q) in
      let answer : IsHeard (Read d) (heard_moving moved told) (answer_moving (moves_on (record { before = end_front e; after = end_front a.state })) (DatagramAnswered a.answer)) =
      subst (λ (b : Bool). IsHeard (Read d) (heard_moving moved told) (answer_moving b (DatagramAnswered a.answer))) on mine in
      let some : Does after (IsHeard (Read d) (heard_moving moved told)) (heard_pair coming p d s (Some e)) = record { stands = stands; answer = answer } in
      subst (λ (x : Pair). Does after (IsHeard (Read d) (heard_moving moved told)) (heard_pair coming x d s (held_end x s.node.ends))) q
      (subst (λ (o : Option EndState). Does after (IsHeard (Read d) (heard_moving moved told)) (heard_pair coming p d s o)) (sym is) some)

-- what is told of a segment that passed is what the end of its pair found
met_found : (k : Ends) (s : StackState) (d : Segment) (p : Pair) (told : NodeArrival) (o : Option EndState) → held_end p s.node.ends ≡ o → MeetsPair k s.rows s.node d p told o → TellsFound s (Read d) told
met_found k s d p told None is M = subst (λ (x : NodeArrival). TellsFound s (Read d) x) (sym M.0) tt
met_found k s d p told (Some e) is M =
    let found : TellsPassed s.rows p (Read d) (passed_of M.0) (found_by s p (Read d) (held_end p s.node.ends)) =
    subst (λ (o : Option EndState). TellsPassed s.rows p (Read d) (passed_of M.0) (found_by s p (Read d) o)) (sym is) M.3 in
    subst (λ (x : NodeArrival). TellsFound s (Read d) x) (sym M.1) (found, M.4)

pub told_found : (k : Ends) (s : StackState) (d : Segment) (told : NodeArrival) (r : Reading) → Meets k s.rows s.node told r → r ≡ Read d → TellsFound s (Read d) told
told_found k s d told r meets read = met_found k s d (pair_reached d) told (held_end (pair_reached d) s.node.ends) refl (subst (λ (x : Reading). Meets k s.rows s.node told x) read meets)

-- what is told, by whether the segment moved its connection on, is what was found all the same
pub moving_found : (s : StackState) (r : Reading) (m : Bool) (told : NodeArrival) → TellsFound s r told → PassesAs s r (heard_moving m told)
moving_found s r true told F = F
moving_found s r false told F = F

-- ---- it asks for a connection, or it doesn't

-- such a segment has SYN
pub has_syn : (d : Segment) → (syn_alone d && good d) ≡ true → has SYN d ≡ true
has_syn d h = at (has SYN d) refl
  where
    at : (v : Bool) → has SYN d ≡ v → has SYN d ≡ true
    at true e = e
    at false e = let never : false ≡ true = subst (λ (b : Bool). ((b && not (has ACK d) && not (has RST d) && not (has FIN d)) && good d) ≡ true) e h in absurd (cc never)

module _ (k : Stack) (coming : Incoming) (d : Segment) (s : StackState) (told : Heard) where
  pub met_asks : (j : Judgement) → asks d (held_end (pair_reached d) s.node.ends) ≡ true → asking_judged s d ≡ j
      → Does k (IsHeard (Read d) told) (asked_for coming d s (held_end (pair_reached d) s.node.ends) j) → Does k (IsHeard (Read d) told) (met coming d s (held_end (pair_reached d) s.node.ends))
  met_asks j e is D =
      subst (λ (b : Bool). Does k (IsHeard (Read d) told) (if b then asked_for coming d s (held_end (pair_reached d) s.node.ends) (asking_judged s d) else heard_pair coming (pair_reached d) d s (held_end (pair_reached d) s.node.ends))) (sym e)
      (subst (λ (x : Judgement). Does k (IsHeard (Read d) told) (asked_for coming d s (held_end (pair_reached d) s.node.ends) x)) (sym is) D)

  pub met_else : asks d (held_end (pair_reached d) s.node.ends) ≡ false
      → Does k (IsHeard (Read d) told) (heard_pair coming (pair_reached d) d s (held_end (pair_reached d) s.node.ends)) → Does k (IsHeard (Read d) told) (met coming d s (held_end (pair_reached d) s.node.ends))
  met_else e D =
      subst (λ (b : Bool). Does k (IsHeard (Read d) told) (if b then asked_for coming d s (held_end (pair_reached d) s.node.ends) (asking_judged s d) else heard_pair coming (pair_reached d) d s (held_end (pair_reached d) s.node.ends))) (sym e) D

-- it passed, and knocks
pub knocked : (k : Stack) (coming : Incoming) (p : Pair) (d : Segment) (s : StackState) (f : Finding) → Stands k s → p ≡ pair_reached d → Does k (IsHeard (Read d) (heards.Knocks p)) (asked_for coming d s (held_end (pair_reached d) s.node.ends) (Ok f))
knocked k coming p d s f S q = record { stands = S; answer = ap book.Knocks (sym q) }

-- it was refused where no connection is held
pub refused_alone : (k : Stack) (coming : Incoming) (d : Segment) (s : StackState) (why : Refusal) (o : Option EndState) → Stands k s → None ≡ option_map end_front o → Does k (IsHeard (Read d) (heards.Refused why)) (asked_for coming d s o (Err why))
refused_alone k coming d s why None S h = record { stands = S; answer = refl }
refused_alone k coming d s why (Some e) S h = absurd (cc)

-- or its end answers it
pub refused_held : (k : Stack) (coming : Incoming) (d : Segment) (s : StackState) (why : Refusal) (told : Heard) (f : Front) (o : Option EndState) → Some f ≡ option_map end_front o
    → Does k (IsHeard (Read d) told) (heard_pair coming (pair_reached d) d s o) → Does k (IsHeard (Read d) told) (asked_for coming d s o (Err why))
refused_held k coming d s why told f None h D = absurd (cc)
refused_held k coming d s why told f (Some e) h D = D

-- ---- the whole call

input_is : (coming : Incoming) (s : StackState) → call (Input coming) s ≡ after_turn (clocked coming.now s) (bytes_received coming (reading coming.bytes))
unfolding call
input_is coming s = refl

-- what came after the clock was set is what the call does
pub inputs : (k : Stack) (coming : Incoming) (s : StackState) (r : Reading) (told : Heard) → reading coming.bytes ≡ r → Does k (IsHeard r told) (bytes_received coming r (clocked coming.now s).stack)
    → Follows k (Input coming) s (IsHeard (reading coming.bytes) told)
inputs k coming s r told e D =
    let d = after_turn (clocked coming.now s) (bytes_received coming r) in
    follows k (Input coming) s (IsHeard (reading coming.bytes) told) d (input_is coming s ∙ ap (λ (x : Reading). after_turn (clocked coming.now s) (bytes_received coming x)) e) D.stands (subst (λ (x : Reading). IsHeard x told d.answer) (sym e) D.answer)

-- the bytes are no datagram
pub came_bad : (k : Stack) (coming : Incoming) (fault : DatagramFault) (s : StackState) → Stands k s → Does k (IsHeard (Unread fault) (heards.Told (arrivals.Bad fault))) (bytes_received coming (Unread fault) s)
came_bad k coming fault s S = record { stands = S; answer = (refl, refl) }
