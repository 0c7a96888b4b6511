-- A connection of a node as if it were alone. Our own format.
use Rattle.std.specs.Prelude.{◌≡◌, Bool, true, false, not, List, [], ◌∷◌, if◌then◌else◌}
use Rattle.std.specs.List.{list_any}
use Rattle.book_base.specs.declared.address.Pair.{Pair}
use Rattle.book_segments.specs.Segments.{Reading, Read, Bad as Unread, reading}
use Rattle.book_keys.specs.Rows.{Row}
use Rattle.book_cmd_node.specs.declared.node.NodeEvent.{NodeEvent}
use Rattle.book_cmd_node.specs.declared.node.NodeEvent.TheVariants as event
use Rattle.book_cmd_node.specs.NodeRuns.{NodeOutcome, NodeFull, same_pair, outcomes}
use Rattle.book_segments.specs.Segments.{pair_reached}

-- the datagram is for the connection of this pair
abbrev pub is_for : Pair → Reading → Bool
is_for pair (Unread fault) = false
is_for pair (Read d) = same_pair (pair_reached d) pair

-- the event happens at the connection of this pair: the clock's, its own, and its datagrams
abbrev pub is_mine : Pair → NodeEvent → Bool
is_mine pair (event.Clock seconds) = true
is_mine pair (event.Inject bytes) = is_for pair (reading bytes)
is_mine pair (event.On other a) = same_pair other pair

-- the events of a connection
abbrev pub mine : Pair → List NodeEvent → List NodeEvent
mine pair [] = []
mine pair (e ∷ es) = if is_mine pair e then e ∷ mine pair es else mine pair es

-- the answers to the events of a connection, among the answers to all
abbrev pub my_outcomes : Pair → List NodeEvent → List NodeOutcome → List NodeOutcome
my_outcomes pair (e ∷ es) (o ∷ os) = if is_mine pair e then o ∷ my_outcomes pair es os else my_outcomes pair es os
my_outcomes pair _ _ = []

-- the answer isn't that the node is full
abbrev pub is_placed : NodeOutcome → Bool
is_placed NodeFull = false
is_placed _ = true

-- none of the events of a connection found the node full
abbrev pub IsPlaced : Pair → List Row → List NodeEvent → Type 0
IsPlaced pair rows events = list_any (λ o. not (is_placed o)) (my_outcomes pair events (outcomes rows events)) ≡ false

-- each connection gives the answers that it would give alone, whatever comes between
abbrev pub Alone : Pair → List Row → List NodeEvent → Type 0
Alone pair rows events = IsPlaced pair rows events → my_outcomes pair events (outcomes rows events) ≡ outcomes rows (mine pair events)
