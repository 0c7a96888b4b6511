use Rattle.std.proofs.Common.{sym, subst, arith}
use Rattle.book_segments.specs.Options.{options_of, AreListed}
use Rattle.book_segments.proofs.Walks.{passes_same, passes_step, leads, ending_at, nothing_at, short_at, long_at}
use Rattle.tcp_segment.proofs.options.fault_in.Goals as goal

pub loop-size-init : goal.loop-size-init
unfolding options_of
loop-size-init c = (omega arith, passes_same _)

pub returns-in-NoMore : goal.returns-in-NoMore
returns-in-NoMore c = c.loop-size.invariant.1.to_listed (subst AreListed (sym (nothing_at c.loop-size.place c.loop-size.rest.now c.in-NoMore.ensures)) tt)

pub returns-in-Ending : goal.returns-in-Ending
returns-in-Ending c = c.loop-size.invariant.1.to_listed (subst AreListed (sym (ending_at c.loop-size.place c.loop-size.rest.now c.in-Ending.ensures)) tt)

pub returns-in-TooShort : goal.returns-in-TooShort
returns-in-TooShort c = c.loop-size.invariant.1.faulty _ (short_at c.loop-size.place c.loop-size.rest.now c.in-TooShort.ensures)

pub returns-in-TooLong : goal.returns-in-TooLong
returns-in-TooLong c = c.loop-size.invariant.1.faulty _ (long_at c.loop-size.place c.loop-size.rest.now c.in-TooLong.ensures)

pub overflow_add-place : goal.overflow_add-place
overflow_add-place c = let l = leads c.loop-size.rest.now _ _ _ _ c.in-Leading.ensures in omega (arith, l.sizes, c.loop-size.invariant.0)

pub loop-size-smaller : goal.loop-size-smaller
loop-size-smaller c = (leads c.loop-size.rest.now _ _ _ _ c.in-Leading.ensures).less

pub loop-size-preserved : goal.loop-size-preserved
loop-size-preserved c =
    let l = leads c.loop-size.rest.now _ _ _ _ c.in-Leading.ensures in
    (omega (arith, l.sizes, c.loop-size.invariant.0), passes_step (options_of c.args.area.now) c.loop-size.place c.loop-size.rest.now _ _ _ _ c.in-Leading.ensures c.loop-size.invariant.1)
