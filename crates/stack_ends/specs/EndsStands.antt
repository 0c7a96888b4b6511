-- The ends that a node of the machine holds stand for those of the definitions.
use Rattle.std.specs.Prelude.{◌≡◌, List, length, Option, Some, None, ⊤}
use Rattle.book_base.specs.declared.address.Pair.{Pair}
use Rattle.book_keys.specs.Rows.{Row}
use Rattle.book_endpoint.specs.States.{EndState}
use Rattle.book_cmd_node.specs.NodeRuns.{Held, held_end}
use Rattle.tcp_endpoint.specs.declared.endpoint.Endpoint.{Endpoint}
use Rattle.tcp_endpoint.specs.Ends.{Stands, FitsEnd, pair_at_end}
use Rattle.stack_ends.specs.Held.{Holding, end_at, ends}

-- an end stands for the state of its connection, has its sockets, and the table fits it
pub record StandsFor (rows : List Row) (pair : Pair) (e : Endpoint) (s : EndState) : Type 0 where
  pub stands : Stands e s
  pub fits : FitsEnd rows e
  pub pair_is : pair_at_end e ≡ pair

-- what is held for a pair stands for what the definitions hold there
abbrev pub StandsAt : List Row → Pair → Option Endpoint → Option EndState → Type 0
StandsAt rows pair None None = ⊤
StandsAt rows pair (Some e) (Some s) = StandsFor rows pair e s
StandsAt rows pair _ _ = ⊥

-- exactly the pairs of these ends are held, and each end stands for its state
pub record HoldsAs (rows : List Row) (h : Holding) (hs : List Held) : Type 0 where
  pub each : (pair : Pair) → StandsAt rows pair (end_at h pair) (held_end pair hs)
  pub count : ends h ≡ length hs
