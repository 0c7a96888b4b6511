-- What is counted of a stack: of its node, and of each of its connections, with the key ids that it
-- saw last (own). Its top is `counts_after`.
use Rattle.std.specs.Prelude.{ℕ, ◌+◌, min, Bool, true, false, List, [], ◌∷◌, Option, Some, None}
use Rattle.std.specs.Prelude.{option_map, if◌then◌else◌}
use Rattle.book_base.specs.declared.address.Pair.{Pair}
use Rattle.book_segments.specs.Segments.{Reading, Read, Bad as Unread, pair_reached, reading}
use Rattle.book_endpoint.specs.declared.arrival.Arrival.{Arrival}
use Rattle.book_endpoint.specs.declared.arrival.Arrival.TheVariants as arrival
use Rattle.book_endpoint.specs.declared.refusal.Refusal.{Refusal}
use Rattle.book_endpoint.specs.declared.refusal.Refusal.TheVariants as refusal
use Rattle.book_cmd_node.specs.declared.node.Act.{Act}
use Rattle.book_cmd_node.specs.declared.node.Act.TheVariants as act
use Rattle.book_cmd_node.specs.declared.node.NodeEvent.{NodeEvent}
use Rattle.book_cmd_node.specs.declared.node.NodeEvent.TheVariants as event
use Rattle.book_cmd_node.specs.NodeRuns.{NodeOutcome, Performed, NoConnection, Transmitted}
use Rattle.book_cmd_node.specs.NodeRuns.{DatagramAnswered, same_pair}
use Rattle.book_stack.specs.Calls.{Call, CallAnswer, Did, Knocks, Moves, Refuses, call}
use Rattle.book_stack.specs.Stacks.{StackState}
use Rattle.book_stack.specs.declared.counters.Counters.{Counters}
use Rattle.book_stack.specs.declared.key_ids.KeyIdsSeen.{KeyIdsSeen}
use Rattle.book_stack.specs.declared.tally.Tally.{Tally}
use Rattle.book_stack.specs.KeyIds.{key_ids_heard, key_ids_made, key_ids_read, key_ids_sent}
use Rattle.book_stack.specs.KeyIds.{no_key_ids}

-- one more, up to the greatest number of 64 bits (own)
abbrev pub next_count : ℕ → ℕ
next_count n = min (n + 1) 18446744073709551615

-- nothing was counted (own)
abbrev pub no_counters : Counters
no_counters = record {
  passed = 0;
  bad = 0;
  foreign = 0;
  checksum = 0;
  closed = 0;
  no_ao = 0;
  two_ao = 0;
  with_md5 = 0;
  no_tuple = 0;
  expired = 0;
  mac_length = 0;
  no_context = 0;
  range = 0;
  bad_mac = 0;
  no_connection = 0;
  knocks = 0;
  sent = 0;
  sent_again = 0;
}

-- one segment more was refused by the check, for this reason; a pass is none (own)
abbrev pub refusal_counted : Refusal → Counters → Counters
refusal_counted refusal.NoAo k = record k { no_ao = next_count k.no_ao }
refusal_counted refusal.TwoAo k = record k { two_ao = next_count k.two_ao }
refusal_counted refusal.WithMd5 k = record k { with_md5 = next_count k.with_md5 }
refusal_counted refusal.NoTuple k = record k { no_tuple = next_count k.no_tuple }
refusal_counted refusal.Expired k = record k { expired = next_count k.expired }
refusal_counted refusal.MacLength k = record k { mac_length = next_count k.mac_length }
refusal_counted refusal.NoContext k = record k { no_context = next_count k.no_context }
refusal_counted refusal.Range k = record k { range = next_count k.range }
refusal_counted refusal.BadMac k = record k { bad_mac = next_count k.bad_mac }

-- one datagram more was answered so; what the check didn't refuse passed it (own)
abbrev pub arrival_counted : Arrival → Counters → Counters
arrival_counted (arrival.Bad fault) k = record k { bad = next_count k.bad }
arrival_counted arrival.Foreign k = record k { foreign = next_count k.foreign }
arrival_counted arrival.Checksum k = record k { checksum = next_count k.checksum }
arrival_counted arrival.Closed k = record k { closed = next_count k.closed }
arrival_counted (arrival.Refused why) k = refusal_counted why k
arrival_counted _ k = record k { passed = next_count k.passed }

-- one segment more was made by this act: for the first time, or again (own)
abbrev pub sending_counted : Act → Counters → Counters
sending_counted act.Send k = record k { sent = next_count k.sent }
sending_counted act.Resend k = record k { sent_again = next_count k.sent_again }
sending_counted _ k = k

-- one datagram more came for a pair that isn't held (own)
abbrev pub stray_counted : Counters → Counters
stray_counted k = record k { no_connection = next_count k.no_connection }

-- one SYN more knocked (own)
abbrev pub knock_counted : Counters → Counters
knock_counted k = record k { knocks = next_count k.knocks }

-- the tally of a connection as it begins (own)
abbrev pub no_tally : Tally
no_tally = record { counters = no_counters; ids = no_key_ids }

-- a tally once more is counted, and other ids are seen (own)
abbrev pub tallied : (Counters → Counters) → (KeyIdsSeen → KeyIdsSeen) → Tally → Tally
tallied more seen t = record { counters = more t.counters; ids = seen t.ids }

-- the counters of a stack (own)
pub record StackCounts : Type 0 where
  pub node : Counters  -- of all that happened at it
  pub pairs : Pair → Option Tally  -- of each connection, since it began

-- the counters as a stack begins (own)
abbrev pub no_stack_counts : StackCounts
no_stack_counts = record { node = no_counters; pairs = λ pair. None }

-- the tally of a connection becomes this one, or there is none any more (own)
abbrev pub with_tally : Pair → Option Tally → StackCounts → StackCounts
with_tally pair t n = record n { pairs = λ q. if same_pair pair q then t else n.pairs q }

-- something more is counted, of the node and of the connection of a pair, which saw other ids (own)
abbrev pub counted_at : Pair → (Counters → Counters) → (KeyIdsSeen → KeyIdsSeen) → StackCounts
    → StackCounts
counted_at pair more seen n = record {
  node = more n.node;
  pairs = λ q. if same_pair pair q then option_map (tallied more seen) (n.pairs q) else n.pairs q;
}

-- an act was performed: a tally begins with a connection, and goes with it (own)
abbrev pub performed_counted : Pair → Act → StackCounts → StackCounts
performed_counted pair (act.Open isn) n = with_tally pair (Some no_tally) n
performed_counted pair (act.Listen isn) n = with_tally pair (Some no_tally) n
performed_counted pair (act.Start isn peer) n = with_tally pair (Some no_tally) n
performed_counted pair act.Remove n = with_tally pair None n
performed_counted pair _ n = n

-- an act at a pair was answered so (own)
abbrev pub act_counted : NodeOutcome → Pair → Act → StackCounts → StackCounts
act_counted Performed pair a n = performed_counted pair a n
act_counted (Transmitted x) pair a n =
    counted_at pair (sending_counted a) (key_ids_sent (key_ids_made x)) n
act_counted _ pair a n = n

-- an end, or the node, answered bytes that are read so, which moved the connection on or didn't
-- (own)
abbrev pub answer_counted : (moved : Bool) → Arrival → Reading → StackCounts → StackCounts
answer_counted moved a (Read d) n = counted_at (pair_reached d) (arrival_counted a)
    (key_ids_heard moved a (key_ids_read (Read d))) n
answer_counted moved a (Unread fault) n = record n { node = arrival_counted a n.node }

-- bytes that are read so came, and were answered so (own)
abbrev pub datagram_counted : (moved : Bool) → NodeOutcome → Reading → StackCounts → StackCounts
datagram_counted moved (DatagramAnswered a) r n = answer_counted moved a r n
datagram_counted moved NoConnection r n = record n { node = stray_counted n.node }
datagram_counted moved _ r n = n

-- a plain event was answered so (own)
abbrev pub event_counted : (moved : Bool) → NodeEvent → NodeOutcome → StackCounts → StackCounts
event_counted moved (event.Clock seconds) o n = n
event_counted moved (event.Inject bytes) o n = datagram_counted moved o (reading bytes) n
event_counted moved (event.On pair a) o n = act_counted o pair a n

-- plain events were answered so, each in its turn; of a call at most one brings bytes (own)
abbrev pub events_counted : (moved : Bool) → List NodeEvent → List NodeOutcome → StackCounts
    → StackCounts
events_counted moved [] os n = n
events_counted moved (e ∷ es) [] n = n
events_counted moved (e ∷ es) (o ∷ os) n =
    events_counted moved es os (event_counted moved e o n)

-- a call was answered so: of what makes no plain event, a SYN that knocks is counted, and one that
-- is refused, by its cause (own)
abbrev pub told_counted : CallAnswer → StackCounts → StackCounts
told_counted (Knocks pair) n = record n { node = knock_counted n.node }
told_counted (Refuses why) n = record n { node = refusal_counted why n.node }
told_counted _ n = n

-- the answer is to a segment that moved its connection on (own)
abbrev pub is_moving : CallAnswer → Bool
is_moving (Moves o) = true
is_moving _ = false

-- the counters after a call that did this (own)
abbrev pub call_counted : Did → StackCounts → StackCounts
call_counted d n =
    told_counted d.answer (events_counted (is_moving d.answer) d.events d.outcomes n)

-- the counters after these calls of a stack (own)
abbrev pub counts_after : StackState → List Call → StackCounts → StackCounts
counts_after s [] n = n
counts_after s (c ∷ cs) n = let d = call c s in counts_after d.stack cs (call_counted d n)
