-- The last of some plain events.
use Rattle.std.proofs.Common.{◌≡◌, List, [], ◌∷◌, ◌++◌, Some}
use Rattle.book_cmd_node.specs.declared.node.NodeEvent.{NodeEvent}
use Rattle.ao_stack.specs.Turns.{last_event}

pub last_behind : (xs ys : List NodeEvent) (e : NodeEvent) → last_event ys ≡ Some e → last_event (xs ++ ys) ≡ Some e
last_behind [] ys e h = h
last_behind (x ∷ []) [] e h = absurd (cc)
last_behind (x ∷ []) (y ∷ ys) e h = h
last_behind (x ∷ z ∷ xs) ys e h = last_behind (z ∷ xs) ys e h
