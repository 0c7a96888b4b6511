-- A stack after it has handed out all that is due (own).
use Rattle.std.specs.Prelude.{◌≡◌, ℕ, ◌+◌, ◌*◌, ◌<◌, ◌≤◌, Bool, true, false, not, ◌⊎◌, Option, Some, None, is_some}
use Rattle.book_base.specs.declared.address.Pair.{Pair}
use Rattle.book_endpoint.specs.Emissions.{Quiet, NoKey, due_again, due_next, emit}
use Rattle.book_endpoint.specs.States.{EndState, is_closed}
use Rattle.book_cmd_node.specs.NodeRuns.{held_end}
use Rattle.book_stack.specs.Alarms.{stands_in}
use Rattle.book_stack.specs.Stacks.{StackState, next_deadline}
use Rattle.book_stack.specs.Watches.{ConnectionWatch, awaits, is_time_wait}

-- an end has nothing to send, whatever rows there are (RFC 9293, section 3.10)
abbrev pub has_nothing : EndState → Bool
has_nothing e = not (is_some (due_next e))

-- an end that was asked and had nothing to send, with its timer (own)
pub record Settled (e : EndState) (w : ConnectionWatch) : Type 0 where
  pub nothing : has_nothing e ≡ true  -- it has nothing to send (RFC 9293, section 3.10)
  -- it would send something again exactly where something isn't acknowledged or waits for the peer's window (RFC 9293, section 3.10.8)
  pub again : is_some (due_again e) ≡ awaits e
  -- the timer runs where something would be sent again (RFC 6298, section 5.1)
  pub runs : awaits e ≡ true → is_some w.deadline ≡ true
  -- else it doesn't, but in TIME-WAIT and when that has just ended (RFC 6298, section 5.2)
  pub stops : awaits e ≡ false → is_time_wait e.phase ≡ false → is_closed e.phase ≡ false → w.deadline ≡ None

-- what holds of an end of a stack that rests (own)
pub record RestsAt (s : StackState) (pair : Pair) (e : EndState) : Type 0 where
  -- asked, it makes nothing: it has nothing to send, or it lacks a row and stands in line (own)
  pub quiet : (emit s.rows pair s.node.clock e ≡ Quiet)
      ⊎ ((emit s.rows pair s.node.clock e ≡ NoKey) × (stands_in pair s.line ≡ true))
  pub settled : stands_in pair s.line ≡ false → Settled e (s.watches pair)  -- where it doesn't stand in line it was asked and had nothing (own)

-- each end that a stack holds rests (own)
abbrev pub AreAtRest : StackState → Type 0
AreAtRest s = (pair : Pair) (e : EndState) → held_end pair s.node.ends ≡ Some e → RestsAt s pair e

-- there is a next deadline, and it isn't after this one (own)
abbrev pub IsBy : ℕ → Option ℕ → Type 0
IsBy d None = ⊥
IsBy d (Some next) = next ≤ d

-- the timers of a stack that rested at this time in milliseconds, and the deadline that is told for the next `output` (own)
pub record IsTimely (now : ℕ) (s : StackState) : Type 0 where
  pub later : (pair : Pair) (d : ℕ) → (s.watches pair).deadline ≡ Some d → now < d  -- no timer has expired (RFC 6298, section 5.4)
  -- the next deadline is in time for each timer (own)
  pub told : (pair : Pair) (d : ℕ) → (s.watches pair).deadline ≡ Some d → IsBy d (next_deadline s)
  -- and for each end in line, which is asked in the next second (own)
  pub tried : (pair : Pair) → stands_in pair s.line ≡ true → IsBy (1000 * (s.node.clock + 1)) (next_deadline s)
  pub ahead : (d : ℕ) → next_deadline s ≡ Some d → now < d  -- it is after now, so nobody calls in vain at once (own)

-- this time is before the deadline, if there is one (own)
abbrev pub IsBefore : ℕ → Option ℕ → Type 0
IsBefore time None = Unit {0}
IsBefore time (Some deadline) = time < deadline
