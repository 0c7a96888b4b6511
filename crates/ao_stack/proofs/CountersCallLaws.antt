-- What a call counts, by its answer.
use Rattle.std.proofs.Common.{◌≡◌, ℕ, ◌/◌, Bool, true, false, List, ◌++◌, length, Option, Some, None, Result, Ok, Err, refl, sym, ap, ◌∙◌}
use Rattle.std.specs.Prelude.{◌==◌, nat_le, if◌then◌else◌}
use Rattle.book_base.specs.declared.address.Pair.{Pair}
use Rattle.book_segments.specs.Segments.{Segment, Reading, Read, Bad as Unread, pair_reached, reading}
use Rattle.book_keys.specs.declared.new_row.NewRow.{NewRow}
use Rattle.book_keys.specs.Rows.{Row}
use Rattle.book_keys.specs.Tables.{Adding, AddedAs, OverlapsRow, TooMany, adding, row_of_new, withdrawn}
use Rattle.book_endpoint.specs.declared.arrival.Arrival.TheVariants.{Bad}
use Rattle.book_endpoint.specs.States.{EndState}
use Rattle.book_endpoint.specs.Verdicts.{Judgement}
use Rattle.book_endpoint.specs.declared.refusal.Refusal.{Refusal}
use Rattle.book_cmd_node.specs.declared.node.Act.{Act}
use Rattle.book_cmd_node.specs.declared.node.NodeEvent.{NodeEvent}
use Rattle.book_cmd_node.specs.declared.node.NodeEvent.TheVariants as event
use Rattle.book_cmd_node.specs.NodeRuns.{NodeOutcome, DatagramAnswered, NoConnection, NodeFull, held_end}
use Rattle.book_stack.specs.Counters.{StackCounts, act_counted, call_counted, datagram_counted, event_counted, events_counted, is_moving, knock_counted, refusal_counted, told_counted}
use Rattle.book_stack.specs.Calls.{Add, At, Did, Incoming, Input, Knocks, Refuses, Told, Withdraw, added, after_turn, answer_moving, asked_for, asking, at_pair, begun, bytes_received, call, heard_pair, makes_an_end, plain_step, stepped, unasked, withdrew}
use Rattle.book_stack.specs.Stacks.{StackState, asking_judged, asks, touched}
use Rattle.book_stack.specs.Turns.{clocked}

-- one plain event was made and answered so, and it is counted
asked_so : (t : StackState) (e : NodeEvent) (one o : NodeOutcome) (n : StackCounts) → Told one ≡ Told o → call_counted (asking t e one) n ≡ event_counted false e o n
asked_so t e one o n h = let same : one ≡ o = cc in ap (λ (x : NodeOutcome). event_counted false e x n) same

-- the same where the answer may be of a segment that moved its connection on
asked_moving : (t : StackState) (e : NodeEvent) (one o : NodeOutcome) (n : StackCounts) (m : Bool) → Told one ≡ answer_moving m o → call_counted (asking t e one) n ≡ event_counted m e o n
asked_moving t e one o n true h = absurd (cc)
asked_moving t e one o n false h = asked_so t e one o n h

moved_so : (e : NodeEvent) (one o : NodeOutcome) (n : StackCounts) (b m : Bool) → answer_moving b one ≡ answer_moving m o
    → told_counted (answer_moving b one) (event_counted (is_moving (answer_moving b one)) e one n) ≡ event_counted m e o n
moved_so e one o n true true h = let same : one ≡ o = cc in ap (λ (x : NodeOutcome). event_counted true e x n) same
moved_so e one o n true false h = absurd (cc)
moved_so e one o n false true h = absurd (cc)
moved_so e one o n false false h = let same : one ≡ o = cc in ap (λ (x : NodeOutcome). event_counted false e x n) same

-- an answer of an end is none of the others
knocks_not : (q : Pair) (b : Bool) (o : NodeOutcome) → answer_moving b o ≡ Knocks q → ⊥
knocks_not q true o h = absurd (cc)
knocks_not q false o h = absurd (cc)

refuses_not : (why : Refusal) (b : Bool) (o : NodeOutcome) → answer_moving b o ≡ Refuses why → ⊥
refuses_not why true o h = absurd (cc)
refuses_not why false o h = absurd (cc)

-- ---- a call at a pair

-- a new end begins
abbrev begins : Pair → Act → StackState → Did
begins p a s = let step = plain_step s (event.On p a) in asking (touched p (stepped s step)) (event.On p a) step.outcome

module _ (p : Pair) (a : Act) (s : StackState) (n : StackCounts) (o : NodeOutcome) where
  full_counts : (b : Bool) → (if b then unasked s (Told NodeFull) else begins p a s).answer ≡ Told o → call_counted (if b then unasked s (Told NodeFull) else begins p a s) n ≡ act_counted o p a n
  full_counts true h = let same : NodeFull ≡ o = cc in ap (λ (x : NodeOutcome). act_counted x p a n) same
  full_counts false h = asked_so s (event.On p a) _ o n h

  other_counts : (b : Bool) → (if b then begun p a s else asking s (event.On p a) NoConnection).answer ≡ Told o → call_counted (if b then begun p a s else asking s (event.On p a) NoConnection) n ≡ act_counted o p a n
  other_counts true h = full_counts (nat_le s.most (length s.node.ends)) h
  other_counts false h = asked_so s (event.On p a) NoConnection o n h

  pair_counts : (m : Option EndState) → (at_pair p a s m).answer ≡ Told o → call_counted (at_pair p a s m) n ≡ act_counted o p a n
  pair_counts (Some x) h = asked_so s (event.On p a) _ o n h
  pair_counts None h = other_counts (makes_an_end a) h

  pub at_counts : (call (At p a) s).answer ≡ Told o → call_counted (call (At p a) s) n ≡ act_counted o p a n
  unfolding call
  at_counts h = pair_counts (held_end p s.node.ends) h

-- ---- bytes come

-- the clock counts nothing
clock_counts : (m : Bool) (now : ℕ) (s : StackState) (es : List NodeEvent) (os : List NodeOutcome) (n : StackCounts) → events_counted m ((clocked now s).events ++ es) ((clocked now s).outcomes ++ os) n ≡ events_counted m es os n
clock_counts m now s es os n = at (s.node.clock == now / 1000) refl
  where
    at : (b : Bool) → (s.node.clock == now / 1000) ≡ b → events_counted m ((clocked now s).events ++ es) ((clocked now s).outcomes ++ os) n ≡ events_counted m es os n
    at true e = rw e refl
    at false e = rw e refl

after_counts : (now : ℕ) (s : StackState) (next : StackState → Did) (n : StackCounts) → call_counted (after_turn (clocked now s) next) n ≡ call_counted (next (clocked now s).stack) n
after_counts now s next n = let d = next (clocked now s).stack in ap (λ (k : StackCounts). told_counted d.answer k) (clock_counts (is_moving d.answer) now s d.events d.outcomes n)

module _ (coming : Incoming) (t : StackState) (n : StackCounts) where
  module _ (m : Bool) (o : NodeOutcome) where
    pair_told : (p : Pair) (d : Segment) (x : Option EndState) → (heard_pair coming p d t x).answer ≡ answer_moving m o → call_counted (heard_pair coming p d t x) n ≡ event_counted m (event.Inject coming.bytes) o n
    pair_told p d None h = asked_moving t (event.Inject coming.bytes) NoConnection o n m h
    pair_told p d (Some e) h = moved_so (event.Inject coming.bytes) _ o n _ m h

    asked_told : (d : Segment) (x : Option EndState) (j : Judgement) → (asked_for coming d t x j).answer ≡ answer_moving m o → call_counted (asked_for coming d t x j) n ≡ event_counted m (event.Inject coming.bytes) o n
    asked_told d x (Ok f) h = absurd (knocks_not (pair_reached d) m o (sym h))
    asked_told d None (Err why) h = absurd (refuses_not why m o (sym h))
    asked_told d (Some e) (Err why) h = pair_told (pair_reached d) d (Some e) h

    read_told : (d : Segment) (x : Option EndState) (b : Bool) → (if b then asked_for coming d t x (asking_judged t d) else heard_pair coming (pair_reached d) d t x).answer ≡ answer_moving m o
        → call_counted (if b then asked_for coming d t x (asking_judged t d) else heard_pair coming (pair_reached d) d t x) n ≡ event_counted m (event.Inject coming.bytes) o n
    read_told d x true h = asked_told d x (asking_judged t d) h
    read_told d x false h = pair_told (pair_reached d) d x h

    came_told : (r : Reading) → (bytes_received coming r t).answer ≡ answer_moving m o → call_counted (bytes_received coming r t) n ≡ event_counted m (event.Inject coming.bytes) o n
    came_told (Unread fault) h = asked_moving t (event.Inject coming.bytes) (DatagramAnswered (Bad fault)) o n m h
    came_told (Read d) h = let x = held_end (pair_reached d) t.node.ends in read_told d x (asks d x) h

  module _ (q : Pair) where
    pair_knocks : (p : Pair) (d : Segment) (x : Option EndState) → (heard_pair coming p d t x).answer ≡ Knocks q → ⊥
    pair_knocks p d None h = absurd (cc)
    pair_knocks p d (Some e) h = knocks_not q _ _ h

    asked_knocks : (d : Segment) (x : Option EndState) (j : Judgement) → (asked_for coming d t x j).answer ≡ Knocks q → call_counted (asked_for coming d t x j) n ≡ record n { node = knock_counted n.node }
    asked_knocks d x (Ok f) h = refl
    asked_knocks d None (Err why) h = absurd (cc)
    asked_knocks d (Some e) (Err why) h = absurd (pair_knocks (pair_reached d) d (Some e) h)

    read_knocks : (d : Segment) (x : Option EndState) (b : Bool) → (if b then asked_for coming d t x (asking_judged t d) else heard_pair coming (pair_reached d) d t x).answer ≡ Knocks q
        → call_counted (if b then asked_for coming d t x (asking_judged t d) else heard_pair coming (pair_reached d) d t x) n ≡ record n { node = knock_counted n.node }
    read_knocks d x true h = asked_knocks d x (asking_judged t d) h
    read_knocks d x false h = absurd (pair_knocks (pair_reached d) d x h)

    came_knocks : (r : Reading) → (bytes_received coming r t).answer ≡ Knocks q → call_counted (bytes_received coming r t) n ≡ record n { node = knock_counted n.node }
    came_knocks (Unread fault) h = absurd (cc)
    came_knocks (Read d) h = let x = held_end (pair_reached d) t.node.ends in read_knocks d x (asks d x) h

  module _ (why : Refusal) where
    pair_refuses : (p : Pair) (d : Segment) (x : Option EndState) → (heard_pair coming p d t x).answer ≡ Refuses why → ⊥
    pair_refuses p d None h = absurd (cc)
    pair_refuses p d (Some e) h = refuses_not why _ _ h

    asked_refuses : (d : Segment) (x : Option EndState) (j : Judgement) → (asked_for coming d t x j).answer ≡ Refuses why → call_counted (asked_for coming d t x j) n ≡ record n { node = refusal_counted why n.node }
    asked_refuses d x (Ok f) h = absurd (cc)
    asked_refuses d None (Err cause) h = let same : cause ≡ why = cc in ap (λ (v : Refusal). let k : StackCounts = record n { node = refusal_counted v n.node } in k) same
    asked_refuses d (Some e) (Err cause) h = absurd (pair_refuses (pair_reached d) d (Some e) h)

    read_refuses : (d : Segment) (x : Option EndState) (b : Bool) → (if b then asked_for coming d t x (asking_judged t d) else heard_pair coming (pair_reached d) d t x).answer ≡ Refuses why
        → call_counted (if b then asked_for coming d t x (asking_judged t d) else heard_pair coming (pair_reached d) d t x) n ≡ record n { node = refusal_counted why n.node }
    read_refuses d x true h = asked_refuses d x (asking_judged t d) h
    read_refuses d x false h = absurd (pair_refuses (pair_reached d) d x h)

    came_refuses : (r : Reading) → (bytes_received coming r t).answer ≡ Refuses why → call_counted (bytes_received coming r t) n ≡ record n { node = refusal_counted why n.node }
    came_refuses (Unread fault) h = absurd (cc)
    came_refuses (Read d) h = let x = held_end (pair_reached d) t.node.ends in read_refuses d x (asks d x) h

module _ (coming : Incoming) (s : StackState) (n : StackCounts) where
  pub input_told : (m : Bool) (o : NodeOutcome) → (call (Input coming) s).answer ≡ answer_moving m o → call_counted (call (Input coming) s) n ≡ datagram_counted m o (reading coming.bytes) n
  unfolding call
  input_told m o h = after_counts coming.now s (bytes_received coming (reading coming.bytes)) n ∙ came_told coming (clocked coming.now s).stack n m o (reading coming.bytes) h

  pub input_knocks : (q : Pair) → (call (Input coming) s).answer ≡ Knocks q → call_counted (call (Input coming) s) n ≡ record n { node = knock_counted n.node }
  unfolding call
  input_knocks q h = after_counts coming.now s (bytes_received coming (reading coming.bytes)) n ∙ came_knocks coming (clocked coming.now s).stack n q (reading coming.bytes) h

  pub input_refuses : (why : Refusal) → (call (Input coming) s).answer ≡ Refuses why → call_counted (call (Input coming) s) n ≡ record n { node = refusal_counted why n.node }
  unfolding call
  input_refuses why h = after_counts coming.now s (bytes_received coming (reading coming.bytes)) n ∙ came_refuses coming (clocked coming.now s).stack n why (reading coming.bytes) h

-- ---- rows

add_none : (s : StackState) (n : StackCounts) (x : Adding) → call_counted (added s x) n ≡ n
add_none s n (AddedAs m rows) = refl
add_none s n TooMany = refl
add_none s n (OverlapsRow m) = refl

pub add_counts : (row : NewRow) (s : StackState) (n : StackCounts) → call_counted (call (Add row) s) n ≡ n
unfolding call
add_counts row s n = add_none s n (adding s.rows (row_of_new row))

withdraw_none : (s : StackState) (n : StackCounts) (x : Option (List Row)) → call_counted (withdrew s x) n ≡ n
withdraw_none s n None = refl
withdraw_none s n (Some rows) = refl

pub withdraw_counts : (number : ℕ) (s : StackState) (n : StackCounts) → call_counted (call (Withdraw number) s) n ≡ n
unfolding call
withdraw_counts number s n = withdraw_none s n (withdrawn s.rows number)
