-- A datagram comes to a node. Our own format.
use Rattle.std.specs.Prelude.{◌≡◌, ℕ, List, Option, Some, None, if◌then◌else◌}
use Rattle.book_base.specs.declared.address.Pair.{Pair}
use Rattle.book_segments.specs.Segments.{Segment, Reading, Read, Bad as Unread}
use Rattle.book_keys.specs.Rows.{Row}
use Rattle.book_endpoint.specs.States.{EndState}
use Rattle.book_endpoint.specs.Arrivals.{arrive}
use Rattle.book_cmd_node.specs.NodeRuns.{same_pair}
use Rattle.book_segments.specs.Segments.{pair_reached}
use Rattle.tcp_endpoint.specs.declared.arrival.Arrived.{Arrived}
use Rattle.tcp_endpoint.specs.declared.endpoint.Endpoint.{Endpoint}
use Rattle.tcp_endpoint.specs.Arrivals.{Arrives, IsBeforeCheck, LeavesAll, TellsOption}
use Rattle.tcp_endpoint.specs.Ends.{Stands, FitsEnd, IsUnmoved, pair_at_end}
use Rattle.stack_ends.specs.declared.answer.NodeArrival.{NodeArrival}
use Rattle.stack_ends.specs.declared.answer.NodeArrival.TheVariants as answers
use Rattle.stack_ends.specs.Held.{Holding, end_at, ends}

-- what a datagram does to an end: the step of the definitions, of whatever state it stands for, and
-- what passes is told with its option
pub record Hears (rows : List Row) (now : ℕ) (d : Segment) (before after : Endpoint) (told : Arrived) : Type 0 where
  pub arrives : (s : EndState) → Stands before s → Arrives rows (pair_at_end before) (Read d) after told (arrive rows (pair_at_end before) now s (Read d))
  pub option : TellsOption d told
  pub untouched : IsBeforeCheck told.arrival → after ≡ before
  pub unchanged : LeavesAll told.arrival → IsUnmoved before after
  pub pair : pair_at_end after ≡ pair_at_end before
  pub fits : FitsEnd rows after

-- the end of a pair hears a datagram, and all others stay
pub record HearsAt (rows : List Row) (now : ℕ) (d : Segment) (before after : Holding) (e : Endpoint) (told : Arrived) : Type 0 where
  pub next : Endpoint
  pub hears : Hears rows now d e next told
  pub most : after.most ≡ before.most
  pub finds : (q : Pair) → end_at after q ≡ (if same_pair (pair_reached d) q then Some next else end_at before q)
  pub count : ends after ≡ ends before

-- a datagram comes to the end of its pair, if one is held
abbrev pub ComesTo : List Row → ℕ → Segment → Holding → Holding → NodeArrival → Option Endpoint → Type 0
ComesTo rows now d before after told None = (told ≡ answers.NoConnection) × (after ≡ before)
ComesTo rows now d before after told (Some e) =
    (arrived : Arrived) × (told ≡ answers.At (pair_reached d) arrived) × HearsAt rows now d before after e arrived

-- bytes come: they are no datagram, or come to the end whose local socket is the datagram's destination and whose remote one its source
abbrev pub Comes : List Row → ℕ → Holding → Holding → NodeArrival → Reading → Type 0
Comes rows now before after told (Unread fault) = (told ≡ answers.Bad fault) × (after ≡ before)
Comes rows now before after told (Read d) = ComesTo rows now d before after told (end_at before (pair_reached d))
