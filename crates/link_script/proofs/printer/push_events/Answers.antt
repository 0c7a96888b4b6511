use Rattle.link_script.proofs.TextParts.{none_printed, one_more_printed}
use Rattle.link_script.proofs.printer.push_events.Goals as goal

pub loop-event-init : goal.loop-event-init
loop-event-init c = none_printed c.args.out.now.items

pub loop-event-preserved : goal.loop-event-preserved
loop-event-preserved c =
    one_more_printed c.args.out.now.items c.loop-event.out.items c.push_event.new.out.items c.args.events.now c.loop-event.event-index c.event-item.result
    c.loop-event-test.true c.event-item.is c.loop-event.invariant c.in_ok-push_event.ensures
