use Rattle.std.proofs.Common.{◌≡◌, length}
use Rattle.book_cmd_link.specs.TimedRuns.{timed_event_of}
use Rattle.book_cmd_link.specs.LinkFiles.{events_of}
use Rattle.link_script.proofs.EventLoop.{after}
use Rattle.link_script.proofs.timed.timed_events.Given as goal

abbrev pub invariant-loop-line : goal.invariant-loop-line
invariant-loop-line l = after l.events.items (events_of timed_event_of l.lines) ≡ events_of timed_event_of l.fn.lines

abbrev pub decreases-loop-line : goal.decreases-loop-line
decreases-loop-line l = length l.lines
