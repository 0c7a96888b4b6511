-- What a call of a stack costs at most: the derivations of a traffic key, and the links that a piece
-- walks among the received runs of its end (own).
use Rattle.std.specs.Prelude.{◌≡◌, ◌≤◌, ◌+◌, ℕ, Bool, false, length, Option, Some, None}
use Rattle.book_segments.specs.Segments.{Segment, Reading, Read, Bad, pair_reached}
use Rattle.book_cmd_node.specs.NodeRuns.{held_end}
use Rattle.book_stack.specs.Stacks.{StackState, asks}
use Rattle.tcp_endpoint.specs.declared.arrival.Arrived.{Arrived}
use Rattle.tcp_endpoint.specs.Arrivals.{IsBeforeCheck, is_computed}
use Rattle.stack_ends.specs.declared.answer.NodeArrival.{NodeArrival}
use Rattle.stack_ends.specs.declared.answer.NodeArrival.TheVariants as arrivals
use Rattle.ao_stack.specs.declared.input.Heard.{Heard}
use Rattle.ao_stack.specs.declared.input.Heard.TheVariants as heard
use Rattle.ao_stack.specs.declared.outgoing.Outgoing.{Outgoing}

-- the work of an end that answered so: at most one derivation, and 65 links (own)
pub record CostsArrived (d : Segment) (told : Arrived) (old new : ℕ) : Type 0 where
  pub most : new ≤ old + 66
  -- none before the check (RFC 9293, section 3.10.7)
  pub early : IsBeforeCheck told.arrival → new ≡ old
  -- what didn't pass costs at most one derivation, and none where it came to no MAC (RFC 5925,
  -- section 7.5)
  pub refused : told.passed ≡ None → new ≤ old + 1
  pub unjudged : told.passed ≡ None → is_computed told.arrival ≡ false → new ≡ old
  pub bare : length d.payload ≡ 0 → new ≤ old + 1  -- without a piece there are no links

-- the same where no end may be held: then there is none (own)
abbrev pub CostsTold : Segment → NodeArrival → ℕ → ℕ → Type 0
CostsTold d (arrivals.At pair arrived) old new = CostsArrived d arrived old new
CostsTold d _ old new = new ≡ old

-- the work after a segment that asks for a connection was judged: that of the end that heard it (own)
abbrev pub CostsHeard : Segment → Heard → ℕ → ℕ → Type 0
CostsHeard d (heard.Told told) judged new = CostsTold d told judged new
CostsHeard d (heard.Moved told) judged new = CostsTold d told judged new
CostsHeard d (heard.Knocks pair) judged new = new ≡ judged
CostsHeard d (heard.Refused why) judged new = new ≡ judged

-- the work of a segment: at most one derivation where it asks for a connection, none for that where
-- it doesn't, and then that of the end that heard it (own)
pub record CostsMet (d : Segment) (asking : Bool) (told : Heard) (old new : ℕ) : Type 0 where
  pub judged : ℕ
  pub one : judged ≤ old + 1
  pub unasked : asking ≡ false → judged ≡ old
  pub rest : CostsHeard d told judged new

-- the work of bytes that come to a stack whose clock is set: none where they are no datagram (own)
abbrev pub CostsInput : StackState → Reading → Heard → ℕ → ℕ → Type 0
CostsInput s (Bad fault) told old new = new ≡ old
CostsInput s (Read d) told old new =
    CostsMet d (asks d (held_end (pair_reached d) s.node.ends)) told old new

-- the work of a call for the next datagram: at most one derivation for it, and none where none is
-- handed out (own)
abbrev pub CostsOutput : Option Outgoing → ℕ → ℕ → Type 0
CostsOutput None old new = new ≡ old
CostsOutput (Some o) old new = new ≤ old + 1
