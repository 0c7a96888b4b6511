use Rattle.book_shim.specs.Relaying.{coming as come}
use Rattle.ao_shim.proofs.RewriteLaws.{has_room, is_rewritten}
use Rattle.ao_shim.proofs.rewrite.coming.Goals as goal

pub loop-option-preserved : goal.loop-option-preserved
loop-option-preserved c = (
  tt,
  tt,
  has_room c.args.most c.args.options.now c.loop-option.area c.push_coming.new.self c.loop-option.option-iterator c.next.new.self _ c.push_coming.result
      c.requires.listed c.requires.short c.in-Some.ensures.steps c.loop-option.invariant.2 c.push_coming.ensures,
)

pub returns : goal.returns
returns c = is_rewritten (come c.args.most) c.args.options.now c.loop-option.area c.fill.new.self c.loop-option.option-iterator c.in-None.ensures.steps.0 c.loop-option.invariant.2 c.fill.ensures
