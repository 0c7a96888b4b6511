use Rattle.std.proofs.Common.{◌++◌, ◌∷◌, [], ◌∙◌}
use Rattle.book_link.specs.Runs.{run}
use Rattle.book_link.specs.Steps.{step}
use Rattle.scope_draw.proofs.RungLaws.{same_rungs, three_rungs}
use Rattle.scope_draw.proofs.runs.step.Goals as goal

pub returns-clause-rungs : goal.returns-clause-rungs
returns-clause-rungs c = λ setup events stands.
    let after = c.in_ok-outcome.ensures.stands setup events stands in
    three_rungs c.args.rungs.now.items c.push_rung.new.rungs.items c.push_rung-2.new.rungs.items c.push_rung-3.new.rungs.items
    c.rung_of.result c.turned.result c.turned-2.result
    c.in_ok-push_rung.ensures c.in_ok-push_rung-2.ensures c.in_ok-push_rung-3.ensures
    ∙ same_rungs setup events c.args.event.now c.rung_of.result c.turned.result c.turned-2.result
    c.phase_at-a_before.result c.phase_at-b_before.result c.phase_at-a_after.result c.phase_at-b_after.result c.args.rungs.now.items
    (c.rung_of.ensures (step setup (run setup events) c.args.event.now).outcome (c.in_ok-outcome.ensures.shows setup events stands))
    c.turned.ensures c.turned-2.ensures
    (c.phase_at-a_before.ensures setup events stands) (c.phase_at-b_before.ensures setup events stands)
    (c.phase_at-a_after.ensures setup (events ++ c.args.event.now ∷ []) after) (c.phase_at-b_after.ensures setup (events ++ c.args.event.now ∷ []) after)
