use Rattle.link_world.specs.Stands.{setup_of}
use Rattle.scope_draw.proofs.RungLaws.{all_drawn, one_drawn}
use Rattle.scope_draw.proofs.runs.rungs_of.Goals as goal

pub loop-event-preserved : goal.loop-event-preserved
loop-event-preserved c =
    one_drawn c.loop-event.world c.step.new.world (setup_of c.args.setup) c.args.events.now c.loop-event.event-index c.event-item.result
    c.loop-event.rungs.items c.step.new.rungs.items
    c.loop-event-test.true c.event-item.is c.loop-event.invariant c.in_ok-step.ensures.stands c.in_ok-step.ensures.rungs c.in_ok-step.ensures.steps

pub returns : goal.returns
returns c =
    all_drawn c.loop-event.world (setup_of c.args.setup) c.args.events.now c.loop-event.event-index c.loop-event.rungs.items c.loop-event-test.false
    c.loop-event.invariant
