use Rattle.std.proofs.Common.{◌≡◌, length}
use Rattle.book_cmd_node.specs.NodeRuns.{node_events_of}
use Rattle.cmd_node.proofs.EventLoop.{after}
use Rattle.cmd_node.proofs.reader.events.Given as goal

abbrev pub invariant-loop-line : goal.invariant-loop-line
invariant-loop-line l = after l.events.items (node_events_of l.own l.lines) ≡ node_events_of l.own l.fn.lines

abbrev pub decreases-loop-line : goal.decreases-loop-line
decreases-loop-line l = length l.lines
