use Rattle.std.proofs.Common.{◌≡◌, suc, ◌+◌, ◌-◌, arith}
use Rattle.book_link.specs.Runs.{run}
use Rattle.book_link.specs.Storm.{storm_setup}
use Rattle.link_world.specs.Stands.{steps_taken}
use Rattle.cmd_link.proofs.Drawing.{begins, can_happen, ends, goes_on}
use Rattle.cmd_link.proofs.storm_run.drawn_out.Goals as goal

pub loop-done-init : goal.loop-done-init
loop-done-init c = (
  begins c.in_ok-world.world c.args.seed c.args.count (c.args.count - 0) (omega arith) c.in_ok-world.ensures.stands,
  c.in_ok-world.ensures.steps,
)

pub step-requires-clause-event : goal.step-requires-clause-event
step-requires-clause-event c =
    let so_far = c.loop-done.invariant.0 in
    rw (c.event_of-event.ensures storm_setup so_far.events so_far.stands) (can_happen (run storm_setup so_far.events) c.draw.result)

pub loop-done-preserved : goal.loop-done-preserved
loop-done-preserved c =
    let so_far = c.loop-done.invariant.0 in
    let steps : steps_taken c.step.new.self ≡ steps_taken c.loop-done.world + 1 = c.in_ok-step.ensures.steps in
    let before : steps_taken c.loop-done.world ≡ c.loop-done._done + 2 = c.loop-done.invariant.1 in (
      goes_on c.loop-done.world c.step.new.self c.args.seed c.args.count c.loop-done.state c.drawn-state.result c.draw.result
          (c.args.count - c.loop-done._done) (c.args.count - (c.loop-done._done + 1)) c.event_of-event.result (omega arith) c.drawn-state.ensures c.draw.ensures so_far
          (c.event_of-event.ensures storm_setup so_far.events so_far.stands) (c.in_ok-step.ensures.stands storm_setup so_far.events so_far.stands),
      omega (arith, steps, before),
    )

pub returns : goal.returns
returns c =
    ends c.loop-done.world c.args.seed c.args.count c.loop-done.state (c.args.count - c.loop-done._done) (omega arith) c.loop-done.invariant.0
