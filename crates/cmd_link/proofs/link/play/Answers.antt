use Rattle.link_world.specs.Stands.{setup_of}
use Rattle.cmd_link.proofs.PlayLaws.{one_more}
use Rattle.cmd_link.proofs.link.play.Goals as goal

pub loop-event-preserved : goal.loop-event-preserved
loop-event-preserved c =
    one_more c.loop-event.world c.step.new.self (setup_of c.args.setup) c.args.events.now c.loop-event.event-index c.event-item.result
    c.loop-event-test.true c.event-item.is c.loop-event.invariant c.in_ok-step.ensures.stands c.in_ok-step.ensures.steps
