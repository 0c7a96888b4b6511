use Rattle.std.proofs.lemmas.Result.{err_from_is_err_and}
use Rattle.book_cmd_link.specs.TimedRuns.{timed_event_of}
use Rattle.book_cmd_link.specs.LinkFiles.{events_of}
use Rattle.link_script.proofs.EventLoop.{event_read, event_refused, events_read, none_read}
use Rattle.link_script.proofs.timed.timed_events.Goals as goal

pub loop-line-init : goal.loop-line-init
loop-line-init c = rw c.new-events.ensures.items (none_read (events_of timed_event_of c.args.lines.now))

pub returns-in_err-event : goal.returns-in_err-event
returns-in_err-event c =
    let p = err_from_is_err_and c.from_residual.result c.from_residual.ensures.1 in
    rw (p.1, p.2) (event_refused timed_event_of c.loop-line.events.items
    (record { number = c.in-Some.line.number; words = c.in-Some.line.words }) c.next.new.self c.loop-line.lines
    (events_of timed_event_of c.args.lines.now) c.in-Some.ensures c.loop-line.invariant c.in_err-event.field-0.0 c.in_err-event.ensures)

pub loop-line-preserved : goal.loop-line-preserved
loop-line-preserved c =
    rw c.in_ok-push.ensures.items (event_read timed_event_of c.loop-line.events.items
    (record { number = c.in-Some.line.number; words = c.in-Some.line.words }) c.next.new.self c.loop-line.lines
    (events_of timed_event_of c.args.lines.now) c.in-Some.ensures c.loop-line.invariant c.in_ok-event.event c.in_ok-event.ensures)

pub returns : goal.returns
returns c = rw c.from_vec.ensures (events_read timed_event_of c.loop-line.events.items c.loop-line.lines
    (events_of timed_event_of c.args.lines.now) c.in_default.ensures c.loop-line.invariant)
