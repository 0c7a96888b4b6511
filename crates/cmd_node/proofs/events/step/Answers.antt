use Rattle.std.proofs.Common.{List, ℕ, subst}
use Rattle.book_segments.specs.Segments.{reading}
use Rattle.stack_ends.specs.EndsArrivals.{Comes}
use Rattle.cmd_node.proofs.StepLaws.{came_reaches, ticked_reaches}
use Rattle.cmd_node.proofs.events.step.Goals as goal

pub returns-in-Clock-clause-reached : goal.returns-in-Clock-clause-reached
returns-in-Clock-clause-reached g c = λ n S.
    let small = rw c.in-Clock.is at c.requires.event.1 in
    rw c.in-Clock.is (ticked_reaches c.args.table.now.rows c.args.node.now c.tick.new.self c.args.clock.now c.in-Clock.seconds n c.args.room.now S small c.tick.ensures)

pub returns-in-Inject-clause-reached : goal.returns-in-Inject-clause-reached
returns-in-Inject-clause-reached g c = λ n S.
    let comes = subst (λ (b : List ℕ). Comes c.args.table.now.rows c.args.clock.now c.args.node.now c.arrive-arrival.new.self c.arrive-arrival.result (reading b)) c.as_slice.ensures c.arrive-arrival.ensures.comes in
    rw (c.in-Inject.is, c.told_of.ensures) (came_reaches c.args.table.now.rows c.args.node.now c.arrive-arrival.new.self c.args.clock.now n c.in-Inject.bytes c.args.room.now c.arrive-arrival.result S comes)
