use Rattle.std.proofs.Common.{◌++◌, arith}
use Rattle.book_scope_plan.specs.Slices.{slices_from}
use Rattle.draw_plan.proofs.SliceWalk.{last_slice, no_slice, one_slice}
use Rattle.draw_plan.proofs.slices.push_slices.Goals as goal

pub returns-then-left-width : goal.returns-then-left-width
returns-then-left-width c =
    last_slice c.loop-done.slices.items c.push.new.self.items (c.args.slices.now.items ++ slices_from c.args.width 48 c.args.low c.args.more)
    c.args.width c.loop-done._done c.loop-done.time c.loop-done.left c.loop-done-test.true (omega (arith, c.if-left-width.true))
    c.in_ok-push.ensures.items c.loop-done.invariant.1

pub loop-done-preserved : goal.loop-done-preserved
loop-done-preserved c = (
  omega (arith, c.loop-done.invariant.0, c.if-left-width.false),
  one_slice c.loop-done.slices.items c.push-in-loop-done.new.self.items (c.args.slices.now.items ++ slices_from c.args.width 48 c.args.low c.args.more)
      c.args.width c.loop-done._done c.loop-done.time c.loop-done.left c.loop-done-test.true (omega (arith, c.if-left-width.false))
      c.in_ok-push-2.ensures.items c.loop-done.invariant.1,
)

pub returns : goal.returns
returns c =
    no_slice c.loop-done.slices.items (c.args.slices.now.items ++ slices_from c.args.width 48 c.args.low c.args.more)
    c.args.width c.loop-done._done c.loop-done.time c.loop-done.left (omega (arith, c.loop-done-test.false)) c.loop-done.invariant.1
