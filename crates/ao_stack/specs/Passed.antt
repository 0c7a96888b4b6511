-- What is told of a segment that passed the check: what the definitions find of it (own).
use Rattle.std.specs.Prelude.{Option, Some, None, ⊤}
use Rattle.book_base.specs.declared.address.Pair.{Pair}
use Rattle.book_segments.specs.Segments.{Reading, Read, Bad}
use Rattle.book_endpoint.specs.States.{EndState}
use Rattle.book_endpoint.specs.Arrivals.{arrive}
use Rattle.book_endpoint.specs.Verdicts.{Finding}
use Rattle.book_cmd_node.specs.NodeRuns.{held_end}
use Rattle.book_stack.specs.Stacks.{StackState}
use Rattle.tcp_endpoint.specs.declared.arrival.Arrived.{Arrived}
use Rattle.tcp_endpoint.specs.Arrivals.{TellsOption, TellsPassed, passed_of}
use Rattle.stack_ends.specs.declared.answer.NodeArrival.{NodeArrival}
use Rattle.stack_ends.specs.declared.answer.NodeArrival.TheVariants as arrivals
use Rattle.ao_stack.specs.declared.input.Heard.{Heard}
use Rattle.ao_stack.specs.declared.input.Heard.TheVariants as heard

-- what the check of an end of the pair, where one is held, finds of a segment that passes it (RFC
-- 5925, section 7.5)
abbrev pub found_by : StackState → Pair → Reading → Option EndState → Option Finding
found_by s pair r None = None
found_by s pair r (Some e) = (arrive s.rows pair s.node.clock e r).passed

-- the same of the end that the stack holds for the pair (own)
abbrev pub found_at : StackState → Pair → Reading → Option Finding
found_at s pair r = found_by s pair r (held_end pair s.node.ends)

-- an end that answers to bytes that are read so tells the option in them, where it passed (own)
abbrev pub OptionIn : Reading → Arrived → Type 0
OptionIn (Read d) told = TellsOption d told
OptionIn (Bad fault) told = ⊤

-- an end that answers tells the row, the number, the context and the option that were found, and
-- none where nothing passed (own)
abbrev pub TellsFound : StackState → Reading → NodeArrival → Type 0
TellsFound s r (arrivals.At pair arrived) =
    TellsPassed s.rows pair r (passed_of arrived) (found_at s pair r) × OptionIn r arrived
TellsFound s r _ = ⊤

-- the same of a stack, once its clock is set (own)
abbrev pub PassesAs : StackState → Reading → Heard → Type 0
PassesAs s r (heard.Told told) = TellsFound s r told
PassesAs s r (heard.Moved told) = TellsFound s r told
PassesAs s r (heard.Knocks pair) = ⊤
PassesAs s r (heard.Refused why) = ⊤
