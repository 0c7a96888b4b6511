-- A stack: a node, its table of keys, and what it keeps beside the ends (own).
use Rattle.std.specs.Prelude.{ℕ, ◌+◌, ◌*◌, ◌==◌, min, Bool, true, false, ◌&&◌, List, [], ◌∷◌}
use Rattle.std.specs.Prelude.{Option, Some, None, if◌then◌else◌}
use Rattle.book_base.specs.declared.address.Pair.{Pair}
use Rattle.book_segments.specs.Segments.{Segment, good, pair_reached}
use Rattle.book_segments.specs.Spelling.{with_sum}
use Rattle.book_keys.specs.Rows.{Row}
use Rattle.book_endpoint.specs.declared.phase.Phase.{Phase}
use Rattle.book_endpoint.specs.declared.phase.Phase.TheVariants.{TimeWait, Closed}
use Rattle.book_endpoint.specs.States.{EndState}
use Rattle.book_endpoint.specs.Arrivals.{syn_alone}
use Rattle.book_endpoint.specs.Verdicts.{Judgement, judge}
use Rattle.book_cmd_node.specs.NodeRuns.{NodeState, no_ends, same_pair}
use Rattle.book_stack.specs.declared.alarm.Alarm.{Alarm}
use Rattle.book_stack.specs.Alarms.{earliest, lined, with_alarm, without_alarm, without_pair}
use Rattle.book_stack.specs.Watches.{ConnectionWatch, new_connection_watch, silence, is_overdue}

-- a stack (own)
pub record StackState : Type 0 where
  pub rows : List Row  -- the rows of its table
  pub most : ℕ  -- how many ends it holds at most
  pub node : NodeState  -- its ends, and their clock in seconds
  pub watches : Pair → ConnectionWatch  -- the timer of each connection
  pub alarms : List Alarm  -- the deadlines of the timers, the earliest first
  pub line : List Pair  -- the ends that may have something to send, in their turn

-- a stack as it begins (own)
abbrev pub empty_stack : List Row → ℕ → StackState
empty_stack rows most = record {
  rows = rows;
  most = most;
  node = no_ends;
  watches = λ pair. new_connection_watch;
  alarms = [];
  line = [];
}

-- the end of a pair is in line, which has a place for each end (own)
abbrev pub touched : Pair → StackState → StackState
touched pair s = record s { line = lined s.most pair s.line }

-- the timer of a pair becomes another, and its alarm with it (own)
abbrev pub watched : Pair → ConnectionWatch → StackState → StackState
watched pair w s = record s {
  watches = λ q. if same_pair pair q then w else s.watches q;
  alarms = with_alarm s.most pair w.deadline s.alarms;
}

-- nothing is kept of a pair (own)
abbrev pub forgotten : Pair → StackState → StackState
forgotten pair s = record s {
  watches = λ q. if same_pair pair q then new_connection_watch else s.watches q;
  alarms = without_alarm pair s.alarms;
  line = without_pair pair s.line;
}

-- the earlier of two deadlines, where there are any (own)
abbrev pub sooner : (one other : Option ℕ) → Option ℕ
sooner None b = b
sooner (Some a) None = Some a
sooner (Some a) (Some b) = Some (min a b)

-- the next full second, where ends wait in line: for a row to send with (own)
abbrev pub next_try : ℕ → List Pair → Option ℕ
next_try clock [] = None
next_try clock (p ∷ ps) = Some (1000 * (clock + 1))

-- when `output` is to be called at the latest, once it has nothing more to hand out (own)
abbrev pub next_deadline : StackState → Option ℕ
next_deadline s = sooner (earliest s.alarms) (next_try s.node.clock s.line)

-- the connection of a pair has waited for its peer longer than the user timeout (RFC 9293, section
-- 3.10.8)
abbrev pub timed_out : ℕ → Pair → StackState → Option EndState → Bool
timed_out now pair s None = false
timed_out now pair s (Some e) = is_overdue (silence now e.phase (s.watches pair))

-- no SYN is heard in these phases (own)
abbrev pub is_over : Phase → Bool
is_over TimeWait = true
is_over Closed = true
is_over _ = false

-- the pair is free for a new connection: it isn't held, or its connection is over (own)
abbrev pub is_free : Option EndState → Bool
is_free None = true
is_free (Some e) = is_over e.phase

-- a SYN whose checksum is right comes for a pair that is free: it asks for a connection (own)
abbrev pub asks : Segment → Option EndState → Bool
asks d held = syn_alone d && good d && is_free held

-- the verdict on a segment that asks for a connection, of which nothing is known yet: the context
-- of a SYN is its own number and 0 (RFC 5925, sections 5.2 and 7.5)
abbrev pub asking_judged : StackState → Segment → Judgement
asking_judged s d = judge s.rows (pair_reached d)
    (record { own_isn = 0; peer_isn = None; expected = None }) s.node.clock d

-- a segment as it is handed out: a checksum of 0000 as ffff, the same number in one's complement,
-- since there are receivers that take 0000 for a wrong MAC (own)
abbrev pub handed : Segment → Segment
handed d = with_sum d (if d.checksum == 0 then 0xffff else d.checksum)
