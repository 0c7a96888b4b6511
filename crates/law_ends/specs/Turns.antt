-- When the turn of a connection comes that may have something to send (own).
use Rattle.std.specs.Prelude.{◌≡◌, ◌<◌, ℕ, suc, Bool, true, false, ◌||◌, List, [], ◌∷◌, length}
use Rattle.std.specs.Prelude.{Option, Some, None, is_some, option_map, if◌then◌else◌}
use Rattle.book_base.specs.declared.address.Pair.{Pair}
use Rattle.book_cmd_node.specs.declared.node.Act.TheVariants as act
use Rattle.book_cmd_node.specs.declared.node.NodeEvent.{NodeEvent}
use Rattle.book_cmd_node.specs.declared.node.NodeEvent.TheVariants as event
use Rattle.book_cmd_node.specs.NodeRuns.{held_end, same_pair}
use Rattle.book_stack.specs.Calls.{Call, Output}
use Rattle.book_stack.specs.Runs.{expanded_from}
use Rattle.book_stack.specs.Stacks.{StackState}

-- how many stand in line before a pair, where it stands in it (own)
abbrev pub place : Pair → List Pair → Option ℕ
place pair [] = None
place pair (p ∷ ps) = if same_pair p pair then Some 0 else option_map suc (place pair ps)

-- the connection of the pair is asked for its next segment (own)
abbrev pub asks_pair : Pair → NodeEvent → Bool
asks_pair pair (event.On p act.Send) = same_pair p pair
asks_pair pair _ = false

-- it is asked at one of these events (own)
abbrev pub is_asked : Pair → List NodeEvent → Bool
is_asked pair [] = false
is_asked pair (e ∷ es) = asks_pair pair e || is_asked pair es

-- calls for the next datagram, at these times in milliseconds (own)
abbrev pub outputs_at : List ℕ → List Call
outputs_at [] = []
outputs_at (now ∷ later) = Output now ∷ outputs_at later

-- a connection that is held, and before which so many stand in line, is asked at one of the next
-- calls for a datagram, where these are more than that (own)
abbrev pub HasItsTurn : Pair → ℕ → StackState → List ℕ → Type 0
HasItsTurn pair ahead s times = place pair s.line ≡ Some ahead
    → is_some (held_end pair s.node.ends) ≡ true → ahead < length times
    → is_asked pair (expanded_from s (outputs_at times)) ≡ true
