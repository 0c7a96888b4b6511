-- The deadlines that a stack keeps, the earliest first, and its line of ends (own).
use Rattle.std.specs.Prelude.{ℕ, nat_lt, nat_le, length, Bool, false, ◌||◌, List, [], ◌∷◌, ◌++◌}
use Rattle.std.specs.Prelude.{Option, Some, None, if◌then◌else◌}
use Rattle.book_base.specs.declared.address.Pair.{Pair}
use Rattle.book_stack.specs.declared.alarm.Alarm.{Alarm}
use Rattle.book_cmd_node.specs.NodeRuns.{same_pair}

-- an alarm behind those that aren't later (own)
abbrev pub placed : Alarm → List Alarm → List Alarm
placed a [] = a ∷ []
placed a (b ∷ bs) = if nat_lt a.deadline b.deadline then a ∷ b ∷ bs else b ∷ placed a bs

-- the alarms without the first of this pair (own)
abbrev pub without_alarm : Pair → List Alarm → List Alarm
without_alarm pair [] = []
without_alarm pair (a ∷ rest) = if same_pair a.pair pair then rest else a ∷ without_alarm pair rest

-- an alarm among others, of which there are at most so many (own)
abbrev pub put_alarm : ℕ → Alarm → List Alarm → List Alarm
put_alarm most a alarms = if nat_le most (length alarms) then alarms else placed a alarms

-- the pair's alarm becomes this one, or none (own)
abbrev pub with_alarm : ℕ → Pair → Option ℕ → List Alarm → List Alarm
with_alarm most pair None alarms = without_alarm pair alarms
with_alarm most pair (Some d) alarms =
    put_alarm most (record { pair = pair; deadline = d }) (without_alarm pair alarms)

-- the earliest deadline (own)
abbrev pub earliest : List Alarm → Option ℕ
earliest [] = None
earliest (a ∷ rest) = Some a.deadline

-- the pair stands in line (own)
abbrev pub stands_in : Pair → List Pair → Bool
stands_in pair [] = false
stands_in pair (p ∷ ps) = same_pair p pair || stands_in pair ps

-- the pair at the end of the line, unless it stands in it; at most so many do (own)
abbrev pub lined : ℕ → Pair → List Pair → List Pair
lined most pair ps = if stands_in pair ps then ps
    else (if nat_le most (length ps) then ps else ps ++ pair ∷ [])

-- the line without the first of this pair (own)
abbrev pub without_pair : Pair → List Pair → List Pair
without_pair pair [] = []
without_pair pair (p ∷ ps) = if same_pair p pair then ps else p ∷ without_pair pair ps
