-- A stack that counts stands for what a call leaves.
use Rattle.std.proofs.Common.{◌≡◌, ℕ, Bool, true, false, List, Option, Some, None, Result, Ok, Err, refl, sym, ap, subst, ◌∙◌}
use Rattle.std.specs.Prelude.{is_some, length, option_map, take, if◌then◌else◌}
use Rattle.book_base.specs.declared.address.Pair.{Pair}
use Rattle.book_segments.specs.declared.fault.DatagramFault.{DatagramFault}
use Rattle.book_segments.specs.Segments.{Reading, Read, Bad as Unread, reading, spell}
use Rattle.book_keys.specs.declared.new_row.AddRefusal.{AddRefusal}
use Rattle.book_keys.specs.declared.new_row.AddRefusal.TheVariants as refused
use Rattle.book_keys.specs.declared.new_row.NewRow.{NewRow}
use Rattle.book_endpoint.specs.declared.arrival.Arrival.TheVariants.{Bad}
use Rattle.book_endpoint.specs.Emissions.{Emission}
use Rattle.book_endpoint.specs.declared.refusal.Refusal.{Refusal}
use Rattle.book_cmd_node.specs.declared.node.Act.{Act}
use Rattle.book_cmd_node.specs.declared.node.Act.TheVariants as act
use Rattle.book_cmd_node.specs.declared.node.NodeEvent.TheVariants as event
use Rattle.book_cmd_node.specs.NodeRuns as runs
use Rattle.book_cmd_node.specs.NodeRuns.{same_pair}
use Rattle.book_stack.specs.declared.counters.Counters.{Counters}
use Rattle.book_stack.specs.declared.key_ids.KeyIds.{KeyIds}
use Rattle.book_stack.specs.declared.key_ids.KeyIdsSeen.{KeyIdsSeen}
use Rattle.book_stack.specs.declared.tally.Tally.{Tally}
use Rattle.book_stack.specs.Counters.{StackCounts, arrival_counted, call_counted, counted_at, answer_counted, event_counted, knock_counted, no_tally, performed_counted, refusal_counted, sending_counted, stray_counted, tallied, with_tally}
use Rattle.book_stack.specs.KeyIds.{key_ids_heard, key_ids_made, key_ids_read, key_ids_sent}
use Rattle.book_stack.specs.Calls as book
use Rattle.book_stack.specs.Calls.{Add, At, Call, CallAnswer, Incoming, Input, Output, call}
use Rattle.book_stack.specs.Stacks.{StackState, handed}
use Rattle.law_node.proofs.Pairs.{same_pair_is, same_pair-refl}
use Rattle.tcp_endpoint.specs.declared.arrival.Arrived.{Arrived}
use Rattle.tcp_endpoint.specs.declared.send.GiveAnswer.{GiveAnswer}
use Rattle.tcp_endpoint.specs.declared.send.GiveAnswer.TheVariants as given
use Rattle.stack_ends.specs.declared.answer.NodeArrival.{NodeArrival}
use Rattle.stack_ends.specs.declared.answer.NodeArrival.TheVariants as arrivals
use Rattle.stack_ends.specs.declared.answer.NodeRefusal.{NodeRefusal}
use Rattle.stack_ends.specs.declared.answer.NodeRefusal.TheVariants as refusals
use Rattle.stack_ends.specs.declared.calls.Taken.{Taken}
use Rattle.ao_stack.specs.Answers as below
use Rattle.ao_stack.specs.Answers.{IsAdded, IsBegun, IsDone, IsGiven, IsHanded, IsHeard, IsTaken, IsTold, Reaches}
use Rattle.ao_stack.specs.Passed.{OptionIn, TellsFound}
use Rattle.ao_stack.specs.Stands as stack
use Rattle.ao_stack.specs.Turns.{MadeLast, act_of}
use Rattle.ao_stack.specs.declared.input.Heard.TheVariants as heard
use Rattle.ao_stack.specs.declared.outgoing.Outgoing.{Outgoing}
use Rattle.book_link.specs.declared.event.Transmission.{Transmission}
use Rattle.ao_stack.specs.declared.counted_stack.CountedStack.{CountedStack}
use Rattle.ao_stack.specs.declared.counts.Happened.TheVariants as happened
use Rattle.ao_stack.specs.CountersAnswers.{AddsAs, BeginsAs, CountsTold, Follows}
use Rattle.ao_stack.specs.Counts.{changed_by}
use Rattle.ao_stack.specs.CountersStands.{Stands}
use Rattle.ao_stack.specs.Tallies.{Becomes, Tallying, tally_at}
use Rattle.ao_stack.proofs.CountersCallLaws.{add_counts, at_counts, input_knocks, input_refuses, input_told}
use Rattle.ao_stack.specs.CountersPassed.{ids_passed}
use Rattle.ao_stack.proofs.HeldLaws.{call_held}
use Rattle.ao_stack.proofs.PassedLaws.{heard_alike}
use Rattle.ao_stack.proofs.CountersTurnLaws.{output_hands, output_rests}

-- ---- the tallies of pairs

-- a pair has what it became
pub become_there : (before after : Tallying) (p : Pair) (c : Tally) → Becomes before after p (Some c) → is_some (tally_at after p) ≡ true
become_there before after p c B = ap is_some (B.finds p) ∙ ap (λ (b : Bool). is_some (if b then Some c else tally_at before p)) (same_pair-refl p)

-- what a pair became, and became again, is what it was
pub become_back : (before mid after : Tallying) (p : Pair) (c : Tally) (old : Option Tally) → old ≡ tally_at before p → Becomes before mid p (Some c) → Becomes mid after p old → (q : Pair) → tally_at after q ≡ tally_at before q
become_back before mid after p c old was B C q = at (same_pair p q) refl
  where
    at : (b : Bool) → same_pair p q ≡ b → tally_at after q ≡ tally_at before q
    at true e = C.finds q ∙ ap (λ (x : Bool). if x then old else tally_at mid q) e ∙ was ∙ ap (λ (x : Pair). tally_at before x) (same_pair_is p q e)
    at false e = C.finds q ∙ ap (λ (x : Bool). if x then old else tally_at mid q) e ∙ B.finds q ∙ ap (λ (x : Bool). if x then Some c else tally_at before q) e

-- ---- what is answered where nothing is counted

module _ (p : Pair) (a : Act) (s : StackState) (n : StackCounts) where
  pub done_counts : (b : Bool) → performed_counted p a n ≡ n → IsDone b (call (At p a) s).answer → call_counted (call (At p a) s) n ≡ n
  done_counts true only h = at_counts p a s n runs.Performed h ∙ only
  done_counts false only h = at_counts p a s n runs.NoConnection h

  pub given_counts : (r : Option GiveAnswer) → performed_counted p a n ≡ n → IsGiven r (call (At p a) s).answer → call_counted (call (At p a) s) n ≡ n
  given_counts None only h = at_counts p a s n runs.NoConnection h
  given_counts (Some given.Ok) only h = at_counts p a s n runs.Performed h ∙ only
  given_counts (Some given.Full) only h = at_counts p a s n runs.NoRoom h
  given_counts (Some given.Closed) only h = at_counts p a s n runs.ConnectionClosing h

  pub taken_counts : (before after : List ℕ) (r : Option Taken) → IsTaken before after r (call (At p a) s).answer → call_counted (call (At p a) s) n ≡ n
  taken_counts before after None h = at_counts p a s n runs.NoConnection h
  taken_counts before after (Some taken) h = at_counts p a s n (runs.Delivered h.bytes taken.at_end) h.answer

-- a datagram was handed out
handed_some : (room : List ℕ) (size : ℕ) (a : CallAnswer) → IsHanded room (Some size) a → (x : Emission) × (a ≡ book.Hands x) × (take size room ≡ spell (handed x.segment)) × (size ≡ length (spell (handed x.segment)))
handed_some room size (book.Told o) h = absurd h
handed_some room size (book.Moves o) h = absurd h
handed_some room size (book.Knocks q) h = absurd h
handed_some room size (book.Refuses why) h = absurd h
handed_some room size (book.Hands x) h = (x, refl, h.0, h.1)
handed_some room size book.Rests h = absurd h
handed_some room size (book.Adds x) h = absurd h
handed_some room size book.Withdraws h = absurd h
handed_some room size book.NoSuchRow h = absurd h

-- none was
handed_none : (room : List ℕ) (a : CallAnswer) → IsHanded room None a → a ≡ book.Rests
handed_none room (book.Told o) h = absurd h
handed_none room (book.Moves o) h = absurd h
handed_none room (book.Knocks q) h = absurd h
handed_none room (book.Refuses why) h = absurd h
handed_none room (book.Hands x) h = absurd h
handed_none room book.Rests h = refl
handed_none room (book.Adds x) h = absurd h
handed_none room book.Withdraws h = absurd h
handed_none room book.NoSuchRow h = absurd h

-- ---- calls

-- the stack stands for the state, and its counters are these
record Shows (k : CountedStack) (s : StackState) (n : StackCounts) : Type 0 where
  stack_is : stack.Stands k.stack s
  node_is : k.node ≡ n.node
  pairs_are : (p : Pair) → tally_at k.tallies p ≡ n.pairs p

module _ (k after : CountedStack) (s : StackState) (n : StackCounts) (S : Stands k s n) where
  -- nothing was counted
  same : (t : StackState) → stack.Stands after.stack t → after.node ≡ k.node → ((q : Pair) → tally_at after.tallies q ≡ tally_at k.tallies q) → Shows after t n
  same t T node pairs = record { stack_is = T; node_is = node ∙ S.node; pairs_are = λ q. pairs q ∙ S.pairs q }

  -- for want of memory all is as before
  unchanged : stack.Stands after.stack s → after.node ≡ k.node → ((q : Pair) → tally_at after.tallies q ≡ tally_at k.tallies q) → Stands after s n
  unchanged T node pairs = record { stack = T; node = node ∙ S.node; pairs = λ q. pairs q ∙ S.pairs q; held = S.held }

  counts_as : (c : Call) (IsSo : CallAnswer → Type 0) (m : StackCounts) → call_counted (call c s) n ≡ m → IsSo (call c s).answer → Shows after (call c s).stack m → Follows after c s n IsSo
  counts_as c IsSo m e answer T =
      let U = subst (λ (x : StackCounts). Shows after (call c s).stack x) (sym e) T in
      record { stands = record { stack = U.stack_is; node = U.node_is; pairs = U.pairs_are; held = call_held c s n S.held S.stack.ends.once }; answer = answer }

  pub plainly : (c : Call) (IsSo : CallAnswer → Type 0) → below.Follows after.stack c s IsSo → after.node ≡ k.node → after.tallies ≡ k.tallies → call_counted (call c s) n ≡ n → Follows after c s n IsSo
  plainly c IsSo F node tallies e = counts_as c IsSo n e F.answer (same (call c s).stack F.stands node (λ q. ap (λ (t : Tallying). tally_at t q) tallies))

  -- the pair has this tally
  has_tally : (t : StackState) (p : Pair) (c : Option Tally) → stack.Stands after.stack t → after.node ≡ k.node → Becomes k.tallies after.tallies p c → Shows after t (with_tally p c n)
  has_tally t p c T node B = record { stack_is = T; node_is = node ∙ S.node; pairs_are = λ q. B.finds q ∙ ap (λ (o : Option Tally). if same_pair p q then c else o) (S.pairs q) }

  -- something is counted of the node and the pair
  counts_more : (t : StackState) (p : Pair) (more : Counters → Counters) (seen : KeyIdsSeen → KeyIdsSeen) → stack.Stands after.stack t → after.node ≡ more k.node → Becomes k.tallies after.tallies p (option_map (tallied more seen) (tally_at k.tallies p))
      → Shows after t (counted_at p more seen n)
  counts_more t p more seen T node B = record { stack_is = T; node_is = node ∙ ap more S.node; pairs_are = λ q. at q (same_pair p q) refl }
    where
      at : (q : Pair) (b : Bool) → same_pair p q ≡ b → tally_at after.tallies q ≡ (if b then option_map (tallied more seen) (n.pairs q) else n.pairs q)
      at q true e = B.finds q ∙ ap (λ (x : Bool). if x then option_map (tallied more seen) (tally_at k.tallies p) else tally_at k.tallies q) e ∙ ap (λ (x : Pair). option_map (tallied more seen) (tally_at k.tallies x)) (same_pair_is p q e) ∙ ap (λ (o : Option Tally). option_map (tallied more seen) o) (S.pairs q)
      at q false e = B.finds q ∙ ap (λ (x : Bool). if x then option_map (tallied more seen) (tally_at k.tallies p) else tally_at k.tallies q) e ∙ S.pairs q

  -- something is counted of the node alone
  node_counts : (t : StackState) (more : Counters → Counters) → stack.Stands after.stack t → after.node ≡ more k.node → after.tallies ≡ k.tallies → Shows after t (record n { node = more n.node })
  node_counts t more T node tallies = record { stack_is = T; node_is = node ∙ ap more S.node; pairs_are = λ q. ap (λ (x : Tallying). tally_at x q) tallies ∙ S.pairs q }

  -- a connection begins
  pub begun_so : (p : Pair) (a : Act) (x : Unit {0}) → performed_counted p a n ≡ with_tally p (Some no_tally) n → below.Follows after.stack (At p a) s (IsBegun (Ok x)) → after.node ≡ k.node → Becomes k.tallies after.tallies p (Some no_tally)
      → Follows after (At p a) s n (IsBegun (Ok x))
  begun_so p a x begins F node B = counts_as (At p a) (IsBegun (Ok x)) _ (at_counts p a s n runs.Performed F.answer ∙ begins) F.answer (has_tally (call (At p a) s).stack p (Some no_tally) F.stands node B)

  -- none does
  pub refused_so : (p : Pair) (a : Act) (why : NodeRefusal) → below.BeginsAs {A = Unit {0}} after.stack (At p a) s (Err why) → after.node ≡ k.node → ((q : Pair) → tally_at after.tallies q ≡ tally_at k.tallies q) → BeginsAs {A = Unit {0}} after (At p a) s n (Err why)
  refused_so p a refusals.InUse F node pairs = counts_as (At p a) (IsBegun {A = Unit {0}} (Err refusals.InUse)) n (at_counts p a s n runs.InUse F.answer) F.answer (same (call (At p a) s).stack F.stands node pairs)
  refused_so p a refusals.Full F node pairs = counts_as (At p a) (IsBegun {A = Unit {0}} (Err refusals.Full)) n (at_counts p a s n runs.NodeFull F.answer) F.answer (same (call (At p a) s).stack F.stands node pairs)
  refused_so p a refusals.Memory T node pairs = unchanged T node pairs

  -- a connection is dropped
  pub dropped_so : (p : Pair) → below.Follows after.stack (At p act.Remove) s (IsDone true) → after.node ≡ k.node → Becomes k.tallies after.tallies p None → Follows after (At p act.Remove) s n (IsDone true)
  dropped_so p F node B = counts_as (At p act.Remove) (IsDone true) _ (at_counts p act.Remove s n runs.Performed F.answer) F.answer (has_tally (call (At p act.Remove) s).stack p None F.stands node B)

  -- a row is added
  pub added_so : (row : NewRow) (r : Result ℕ AddRefusal) → below.AddsAs after.stack row s r → after.node ≡ k.node → after.tallies ≡ k.tallies → AddsAs after row s n r
  added_so row (Ok number) F node tallies = plainly (Add row) (IsAdded (Ok number)) F node tallies (add_counts row s n)
  added_so row (Err refused.TooMany) F node tallies = plainly (Add row) (IsAdded (Err refused.TooMany)) F node tallies (add_counts row s n)
  added_so row (Err (refused.Overlap number)) F node tallies = plainly (Add row) (IsAdded (Err (refused.Overlap number))) F node tallies (add_counts row s n)
  added_so row (Err refused.Memory) T node tallies = unchanged T node (λ q. ap (λ (t : Tallying). tally_at t q) tallies)

  -- ---- a datagram comes

  pub knocks_so : (coming : Incoming) (p : Pair) → below.Follows after.stack (Input coming) s (IsHeard (reading coming.bytes) (heard.Knocks p)) → after.node ≡ knock_counted k.node → after.tallies ≡ k.tallies
      → Follows after (Input coming) s n (IsHeard (reading coming.bytes) (heard.Knocks p))
  knocks_so coming p F node tallies = counts_as (Input coming) (IsHeard (reading coming.bytes) (heard.Knocks p)) _ (input_knocks coming s n p F.answer) F.answer (node_counts (call (Input coming) s).stack knock_counted F.stands node tallies)

  pub refuses_so : (coming : Incoming) (why : Refusal) → below.Follows after.stack (Input coming) s (IsHeard (reading coming.bytes) (heard.Refused why)) → after.node ≡ refusal_counted why k.node → after.tallies ≡ k.tallies
      → Follows after (Input coming) s n (IsHeard (reading coming.bytes) (heard.Refused why))
  refuses_so coming why F node tallies = counts_as (Input coming) (IsHeard (reading coming.bytes) (heard.Refused why)) _ (input_refuses coming s n why F.answer) F.answer (node_counts (call (Input coming) s).stack (refusal_counted why) F.stands node tallies)

  reached : (m : Bool) (p : Pair) (arrived : Arrived) (r : Reading) → Reaches r p → OptionIn r arrived
      → answer_counted m arrived.arrival r n ≡ counted_at p (arrival_counted arrived.arrival) (key_ids_heard m arrived.arrival (ids_passed arrived.passed)) n
  reached m p arrived (Read d) is told =
      ap (λ (x : Pair). counted_at x (arrival_counted arrived.arrival) (key_ids_heard m arrived.arrival (key_ids_read (Read d))) n) (sym is)
      ∙ ap (λ (seen : KeyIdsSeen → KeyIdsSeen). counted_at p (arrival_counted arrived.arrival) seen n) (heard_alike d m arrived.arrival arrived.passed told)
  reached m p arrived (Unread fault) is told = absurd is

  told_as : (coming : Incoming) (t : StackState) (m : Bool) (told : NodeArrival) → TellsFound t (reading coming.bytes) told → below.Follows after.stack (Input coming) s (IsTold m (reading coming.bytes) told) → CountsTold k after m told
      → Follows after (Input coming) s n (IsTold m (reading coming.bytes) told)
  told_as coming t m arrivals.NoConnection found F C =
      counts_as (Input coming) (IsTold m (reading coming.bytes) arrivals.NoConnection) _ (input_told coming s n m runs.NoConnection F.answer) F.answer (node_counts (call (Input coming) s).stack stray_counted F.stands C.0 C.1)
  told_as coming t m (arrivals.Bad fault) found F C =
      counts_as (Input coming) (IsTold m (reading coming.bytes) (arrivals.Bad fault)) _ (input_told coming s n m (runs.DatagramAnswered (Bad fault)) F.answer.0 ∙ ap (λ (r : Reading). answer_counted m (Bad fault) r n) F.answer.1) F.answer
      (node_counts (call (Input coming) s).stack (arrival_counted (Bad fault)) F.stands C.0 C.1)
  told_as coming t m (arrivals.At p arrived) found F C =
      counts_as (Input coming) (IsTold m (reading coming.bytes) (arrivals.At p arrived)) _ (input_told coming s n m (runs.DatagramAnswered arrived.arrival) F.answer.0 ∙ reached m p arrived (reading coming.bytes) F.answer.1 found.1) F.answer
      (counts_more (call (Input coming) s).stack p (arrival_counted arrived.arrival) (key_ids_heard m arrived.arrival (ids_passed arrived.passed)) F.stands C.0 C.1)

  -- an answer that is told, and one that moved its connection on
  pub told_so : (coming : Incoming) (t : StackState) (told : NodeArrival) → TellsFound t (reading coming.bytes) told → below.Follows after.stack (Input coming) s (IsHeard (reading coming.bytes) (heard.Told told)) → CountsTold k after false told
      → Follows after (Input coming) s n (IsHeard (reading coming.bytes) (heard.Told told))
  told_so coming t told found F C = let G = told_as coming t false told found (record { stands = F.stands; answer = F.answer }) C in record { stands = G.stands; answer = G.answer }

  pub moved_so : (coming : Incoming) (t : StackState) (told : NodeArrival) → TellsFound t (reading coming.bytes) told → below.Follows after.stack (Input coming) s (IsHeard (reading coming.bytes) (heard.Moved told)) → CountsTold k after true told
      → Follows after (Input coming) s n (IsHeard (reading coming.bytes) (heard.Moved told))
  moved_so coming t told found F C = let G = told_as coming t true told found (record { stands = F.stands; answer = F.answer }) C in record { stands = G.stands; answer = G.answer }

  -- ---- a datagram is handed out

  pub rests_so : (now : ℕ) (room : List ℕ) → below.Follows after.stack (Output now) s (IsHanded room None) → after.node ≡ k.node → after.tallies ≡ k.tallies → Follows after (Output now) s n (IsHanded room None)
  rests_so now room F node tallies = plainly (Output now) (IsHanded room None) F node tallies (output_rests now s n (handed_none room (call (Output now) s).answer F.answer))

  pub hands_so : (now : ℕ) (room : List ℕ) (o : Outgoing) (ids : Option KeyIds) → ids ≡ key_ids_read (reading (take o.length room)) → below.Follows after.stack (Output now) s (IsHanded room (Some o.length)) → MadeLast (Some o) (call (Output now) s).events → after.node ≡ sending_counted (act_of o.kind) k.node
      → Becomes k.tallies after.tallies o.pair (option_map (tallied (sending_counted (act_of o.kind)) (key_ids_sent ids)) (tally_at k.tallies o.pair)) → Follows after (Output now) s n (IsHanded room (Some o.length))
  hands_so now room o ids read F last node B =
      let X = handed_some room o.length (call (Output now) s).answer F.answer in
      let made : ids ≡ key_ids_made X.0 = read ∙ ap (λ (bytes : List ℕ). key_ids_read (reading bytes)) X.2 in
      counts_as (Output now) (IsHanded room (Some o.length)) (counted_at o.pair (sending_counted (act_of o.kind)) (key_ids_sent ids) n)
      (output_hands now s n X.0 (event.On o.pair (act_of o.kind)) X.1 last ∙ sent o.kind X.0 made) F.answer
      (counts_more (call (Output now) s).stack o.pair (sending_counted (act_of o.kind)) (key_ids_sent ids) F.stands node B)
    where
      sent : (kind : Transmission) (x : Emission) → ids ≡ key_ids_made x → event_counted false (event.On o.pair (act_of kind)) (runs.Transmitted x) n ≡ counted_at o.pair (sending_counted (act_of kind)) (key_ids_sent ids) n
      sent kind x is = ap (λ (i : Option KeyIds). counted_at o.pair (sending_counted (act_of kind)) (key_ids_sent i) n) (sym is)
