-- A datagram comes to the ends of a stack (own).
use Rattle.std.specs.Prelude.{◌≡◌, ℕ, List, Option, Some, None, Result, Ok, Err}
use Rattle.book_base.specs.declared.address.Pair.{Pair}
use Rattle.book_segments.specs.Segments.{Segment, Reading, Read, Bad as Unread}
use Rattle.book_keys.specs.Rows.{Row}
use Rattle.book_endpoint.specs.States.{EndState}
use Rattle.book_endpoint.specs.Arrivals.{arrive}
use Rattle.book_endpoint.specs.Verdicts.{Finding, Judgement, judge}
use Rattle.book_endpoint.specs.declared.refusal.Refusal.{Refusal}
use Rattle.book_cmd_node.specs.NodeRuns.{NodeState, DatagramAnswered, after_call, called, held_end}
use Rattle.book_segments.specs.Segments.{pair_reached}
use Rattle.stack_ends.specs.declared.answer.NodeArrival.{NodeArrival}
use Rattle.stack_ends.specs.declared.answer.NodeArrival.TheVariants as answers
use Rattle.tcp_endpoint.specs.Arrivals.{TellsOption, TellsPassed, passed_of}
use Rattle.tcp_endpoint.specs.declared.arrival.Arrived.{Arrived}
use Rattle.stack_ends.specs.declared.ends.Ends.{Ends}
use Rattle.stack_ends.specs.Stands.{Stands}

-- a segment comes to the end of a pair, where it is held, and what is told of a segment that passed
-- is what was found of it, with its option (RFC 9293, section 3.10.7)
abbrev pub MeetsPair : Ends → List Row → NodeState → Segment → Pair → NodeArrival → Option EndState → Type 0
MeetsPair k rows n d pair told None = (told ≡ answers.NoConnection) × Stands k rows n
MeetsPair k rows n d pair told (Some s) = let a = arrive rows pair n.clock s (Read d) in
    (arrived : Arrived) × (told ≡ answers.At pair arrived) × (arrived.arrival ≡ a.answer)
    × TellsPassed rows pair (Read d) (passed_of arrived) a.passed × TellsOption d arrived
    × Stands k rows (after_call n pair (called a.state (DatagramAnswered a.answer))).node

-- a segment comes to the end of its pair (own)
abbrev pub MeetsRead : Ends → List Row → NodeState → Segment → NodeArrival → Option EndState → Type 0
MeetsRead k rows n d told held = MeetsPair k rows n d (pair_reached d) told held

-- what the check answers to a SYN is that judgement (own)
abbrev pub IsJudged : Result (Unit {0}) Refusal → Judgement → Type 0
IsJudged (Ok done) j = (f : Finding) × (j ≡ Ok f)
IsJudged (Err why) j = j ≡ Err why

-- the judgement of a SYN for a connection of which nothing is known yet (RFC 5925, section 7.5)
abbrev pub syn_judged : List Row → Pair → ℕ → Segment → Judgement
syn_judged rows pair now d =
    judge rows pair (record { own_isn = 0; peer_isn = None; expected = None }) now d

-- bytes come (own)
abbrev pub Meets : Ends → List Row → NodeState → NodeArrival → Reading → Type 0
Meets k rows n told (Unread fault) = (told ≡ answers.Bad fault) × Stands k rows n
Meets k rows n told (Read d) = MeetsRead k rows n d told (held_end (pair_reached d) n.ends)
