-- The lists of a stack, and for how many there is room (own).
use Rattle.std.specs.Prelude.{ℕ, nat_le, Bool, List, [], ◌∷◌, Option, Some, None, if◌then◌else◌}
use Rattle.book_base.specs.declared.address.Pair.{Pair}
use Rattle.book_cmd_node.specs.NodeRuns.{same_pair}
use Rattle.book_stack.specs.declared.alarm.Alarm.{Alarm}

-- alarms, and how many there are at most (own)
pub record Alarmed : Type 0 where
  pub alarms : List Alarm
  pub most : ℕ

-- a line of pairs, and how many stand in it at most (own)
pub record Lined : Type 0 where
  pub pairs : List Pair
  pub most : ℕ

-- the alarm is of this pair (own)
abbrev pub is_of : Pair → Alarm → Bool
is_of pair a = same_pair a.pair pair

-- it is this pair (own)
abbrev pub is_pair : Pair → Pair → Bool
is_pair pair p = same_pair p pair

-- the first alarm of a list is taken out where its deadline is reached (own)
abbrev pub taken_due : ℕ → List Alarm → Option Pair
taken_due now [] = None
taken_due now (a ∷ rest) = if nat_le a.deadline now then Some a.pair else None

-- the list once it was (own)
abbrev pub left_due : ℕ → List Alarm → List Alarm
left_due now [] = []
left_due now (a ∷ rest) = if nat_le a.deadline now then rest else a ∷ rest

-- the first of a line (own)
abbrev pub first_of : List Pair → Option Pair
first_of [] = None
first_of (p ∷ ps) = Some p

-- the line without its first (own)
abbrev pub behind_first : List Pair → List Pair
behind_first [] = []
behind_first (p ∷ ps) = ps
