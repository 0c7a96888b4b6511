use Rattle.book_shim.specs.Relaying.{going as gone}
use Rattle.ao_shim.proofs.RewriteLaws.{too_long, is_rewritten}
use Rattle.ao_shim.proofs.rewrite.going.Goals as goal

pub returns-then-not-push_going-clause-none : goal.returns-then-not-push_going-clause-none
returns-then-not-push_going-clause-none c =
    too_long (gone c.args.trim) c.args.options.now c.loop-option.area c.loop-option.option-iterator c.next.new.self _ c.in-Some.ensures.steps c.loop-option.invariant.2
    (rw c.if-not-push_going.true at c.push_going.ensures)

pub returns-clause-some : goal.returns-clause-some
returns-clause-some c =
    is_rewritten (gone c.args.trim) c.args.options.now c.loop-option.area c.fill.new.self c.loop-option.option-iterator c.in-None.ensures.steps.0 c.loop-option.invariant.2 c.fill.ensures
