use Rattle.std.proofs.Common.{ap, ◌∙◌}
use Rattle.scope_why.specs.Parts.{derived_under, input_under}
use Rattle.scope_why.specs.MacsViews.{both_view, suspect_view}
use Rattle.scope_why.proofs.PartLaws.{keyed, parts_are}
use Rattle.scope_why.proofs.changes.changed_choices.Goals as goal

pub returns : goal.returns
returns c =
    let change = c.args.change in
    let s = suspect_view c.args.suspect.now in
    c.in_ok-choices-2.ensures
    ∙ ap (input_under change s) (c.derived_under.ensures ∙ ap (derived_under change) (c.in_ok-keyed.ensures ∙ ap (keyed change) c.in_ok-choices.ensures))
    ∙ parts_are change (both_view c.args.both.now) s
