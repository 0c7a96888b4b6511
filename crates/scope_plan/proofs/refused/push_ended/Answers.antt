use Rattle.std.specs.Prelude.{codes}
use Rattle.book_scope_texts.specs.Instants.{instant_text}
use Rattle.book_scope_plan.specs.DifferenceTexts.{ended_line}
use Rattle.plan_texts.proofs.Parts.{three}
use Rattle.scope_plan.proofs.refused.push_ended.Goals as goal

pub returns : goal.returns
unfolding ended_line
returns c =
    three c.args.out.now.items (codes "    its send lifetime ended before FROM, at ") (instant_text c.args.time) (codes "\n")
    c.extend_from_slice.new.self.items c.push_instant.new.out.items _
    c.in_ok-extend_from_slice.ensures.items c.in_ok-push_instant.ensures c.in_ok-extend_from_slice-2.ensures.items
