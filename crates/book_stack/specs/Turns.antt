-- Which datagram a stack hands out next: what ends have to send, each in its turn, and then what a
-- timer sends again (own).
use Rattle.std.specs.Prelude.{ℕ, zero, suc, ◌/◌, ◌==◌, nat_le, Bool, List, [], ◌∷◌, ◌++◌, length}
use Rattle.std.specs.Prelude.{Option, Some, None, is_some, if◌then◌else◌}
use Rattle.book_base.specs.declared.address.Pair.{Pair}
use Rattle.book_endpoint.specs.declared.phase.Phase.{Phase}
use Rattle.book_endpoint.specs.States.{EndState}
use Rattle.book_endpoint.specs.Emissions.{Emission, emit, resend}
use Rattle.book_cmd_node.specs.declared.node.NodeEvent.{NodeEvent}
use Rattle.book_cmd_node.specs.declared.node.NodeEvent.TheVariants as event
use Rattle.book_cmd_node.specs.declared.node.Act.TheVariants as act
use Rattle.book_cmd_node.specs.NodeRuns.{NodeOutcome, Performed, Transmitted, NoUsableKey, Called}
use Rattle.book_cmd_node.specs.NodeRuns.{NothingToSend, NothingToResend, after_call, made_called}
use Rattle.book_cmd_node.specs.NodeRuns.{held_end, ends_ticked}
use Rattle.book_stack.specs.declared.alarm.Alarm.{Alarm}
use Rattle.book_stack.specs.declared.front.Change.{Change}
use Rattle.book_stack.specs.Watches.{ConnectionWatch, at_rest, awaits, expired_at, end_front}
use Rattle.book_stack.specs.Watches.{after_sending, timer_stopped}
use Rattle.book_stack.specs.Stacks.{StackState, touched, watched}

-- what a turn leaves: the stack, the plain events that it made with their answers, and the segment
-- that it hands out, if it does (own)
pub record Turn : Type 0 where
  pub stack : StackState
  pub events : List NodeEvent
  pub outcomes : List NodeOutcome
  pub hands : Option Emission

-- nothing happens (own)
abbrev pub passing : StackState → Turn
passing s = record { stack = s; events = []; outcomes = []; hands = None }

-- the next turn, unless a segment is handed out (own)
abbrev pub then_turn : Turn → (StackState → Turn) → Turn
then_turn t next = if is_some t.hands then t else (let u = next t.stack in record {
  stack = u.stack;
  events = t.events ++ u.events;
  outcomes = t.outcomes ++ u.outcomes;
  hands = u.hands;
})

-- at most so many turns, up to the first that hands out a segment (own)
abbrev pub turns : ℕ → (StackState → Turn) → StackState → Turn
turns zero turn s = passing s
turns (suc n) turn s = then_turn (turn s) (turns n turn)

-- the clock of the ends goes to the second of a time in milliseconds, unless it is there (own)
abbrev pub clocked : ℕ → StackState → Turn
clocked now s = if s.node.clock == now / 1000 then passing s else record {
  stack = record s {
    node = record { clock = now / 1000; ends = ends_ticked (now / 1000) s.node.ends };
  };
  events = event.Clock (now / 1000) ∷ [];
  outcomes = Performed ∷ [];
  hands = None;
}

-- the end of a pair was called (own)
abbrev pub called_at : Pair → Called → StackState → StackState
called_at pair c s = record s { node = (after_call s.node pair c).node }

-- where an end stood before it was called, and after (own)
abbrev pub change_by : EndState → Called → Change
change_by e c = record { before = end_front e; after = end_front c.state }

-- the segment of an answer (own)
abbrev pub segment_in : NodeOutcome → Option Emission
segment_in (Transmitted x) = Some x
segment_in _ = None

-- the timer of an end that was asked for its next segment: after one; without a row to send with it
-- stays; else the end is at rest (own)
abbrev pub asked_watch : ℕ → Change → Bool → NodeOutcome → ConnectionWatch → ConnectionWatch
asked_watch now c waits (Transmitted x) w = after_sending now c w
asked_watch now c waits NoUsableKey w = w
asked_watch now c waits _ w = at_rest now c.after.phase waits w

-- the line after an end was asked: who has something to send stands at its end (own)
abbrev pub asked_line : Pair → NodeOutcome → StackState → StackState
asked_line pair (Transmitted x) s = touched pair s
asked_line pair NoUsableKey s = touched pair s
asked_line pair _ s = s

-- an end is asked for its next segment, with what it answers (own)
abbrev pub asked_end : ℕ → Pair → EndState → Called → StackState → Turn
asked_end now pair e c s =
    let w = asked_watch now (change_by e c) (awaits c.state) c.outcome (s.watches pair) in record {
      stack = asked_line pair c.outcome (watched pair w (called_at pair c s));
      events = event.On pair act.Send ∷ [];
      outcomes = c.outcome ∷ [];
      hands = segment_in c.outcome;
    }

-- what the end of a pair answers that is asked for its next segment (RFC 9293, section 3.10)
abbrev pub spoken_by : StackState → Pair → EndState → Called
spoken_by s pair e = made_called e NothingToSend (emit s.rows pair s.node.clock e)

-- what it answers that is to send again (RFC 9293, section 3.10.8)
abbrev pub repeated_by : StackState → Pair → EndState → Called
repeated_by s pair e = made_called e NothingToResend (resend s.rows pair s.node.clock e)

-- the end of a pair is asked, where it is held (own)
abbrev pub asked_pair : ℕ → Pair → StackState → Option EndState → Turn
asked_pair now pair s None = passing s
asked_pair now pair s (Some e) = asked_end now pair e (spoken_by s pair e) s

-- the first end in line is asked (own)
abbrev pub asked_first : ℕ → StackState → List Pair → Turn
asked_first now s [] = passing s
asked_first now s (p ∷ ps) = asked_pair now p (record s { line = ps }) (held_end p s.node.ends)

-- the end whose turn it is (own)
abbrev pub ask : ℕ → StackState → Turn
ask now s = asked_first now s s.line

-- the timer of an end that was to send again: it expired, but for an end that had nothing to (own)
abbrev pub woken_watch : ℕ → Phase → NodeOutcome → ConnectionWatch → ConnectionWatch
woken_watch now phase (Transmitted x) w = expired_at now phase w
woken_watch now phase NoUsableKey w = expired_at now phase w
woken_watch now phase _ w = timer_stopped w

-- an end sends again, with what it answers (RFC 6298, section 5.4)
abbrev pub woken_end : ℕ → Pair → EndState → Called → StackState → Turn
woken_end now pair e c s = record {
  stack = touched pair
      (watched pair (woken_watch now e.phase c.outcome (s.watches pair)) (called_at pair c s));
  events = event.On pair act.Resend ∷ [];
  outcomes = c.outcome ∷ [];
  hands = segment_in c.outcome;
}

-- the end of a pair sends again, where it is held (own)
abbrev pub woken_pair : ℕ → Pair → StackState → Option EndState → Turn
woken_pair now pair s None = passing s
woken_pair now pair s (Some e) = woken_end now pair e (repeated_by s pair e) s

-- the earliest alarm goes off, where its deadline is reached (own)
abbrev pub woken_first : ℕ → StackState → List Alarm → Turn
woken_first now s [] = passing s
woken_first now s (a ∷ rest) = if nat_le a.deadline now
    then woken_pair now a.pair (record s { alarms = rest }) (held_end a.pair s.node.ends)
    else passing s

-- the end whose deadline is the earliest (own)
abbrev pub wake : ℕ → StackState → Turn
wake now s = woken_first now s s.alarms

-- the next datagram at a time in milliseconds: the clock goes on; each end in line is asked once at
-- most; then each alarm goes off once at most (own)
abbrev pub output_at : ℕ → StackState → Turn
output_at now s = then_turn (clocked now s)
    (λ t. then_turn (turns (length t.line) (ask now) t) (λ u. turns (length u.alarms) (wake now) u))
