-- What the timer of a connection is told (own).
use Rattle.std.specs.Prelude.{ℕ}
use Rattle.book_base.specs.declared.address.Pair.{Pair}
use Rattle.book_endpoint.specs.declared.phase.Phase.{Phase}
use Rattle.book_stack.specs.Stacks.{StackState, touched}
use Rattle.book_stack.specs.Watches.{ConnectionWatch, at_rest, expired_at, after_sending, timer_stopped}
use Rattle.stack_ends.specs.declared.send.Says.{Says}
use Rattle.stack_ends.specs.declared.send.Says.TheVariants as says
use Rattle.stack_ends.specs.declared.send.Spoken.{Spoken}

-- the timer of an end that was asked for its next segment, by what it said (own)
abbrev pub asked_saying : ℕ → Spoken → Says → ConnectionWatch → ConnectionWatch
asked_saying now spoken (says.Segment n) w = after_sending now spoken.change w
asked_saying now spoken says.NoKey w = w
asked_saying now spoken says.Nothing w = at_rest now spoken.change.after.phase spoken.waits w

-- the same, by all that is told of it (own)
abbrev pub asked_by : ℕ → Spoken → ConnectionWatch → ConnectionWatch
asked_by now spoken w = asked_saying now spoken spoken.says w

-- the timer of an end that was to send again, by what it said (own)
abbrev pub woken_by : ℕ → Phase → Says → ConnectionWatch → ConnectionWatch
woken_by now phase (says.Segment n) w = expired_at now phase w
woken_by now phase says.NoKey w = expired_at now phase w
woken_by now phase says.Nothing w = timer_stopped w

-- an end that had something to send stands at the end of the line (own)
abbrev pub asked_turn : Pair → Says → StackState → StackState
asked_turn pair (says.Segment n) s = touched pair s
asked_turn pair says.NoKey s = touched pair s
asked_turn pair says.Nothing s = s
