use Rattle.std.proofs.Common.{◌≡◌, ℕ, List, ◌++◌, sym, ap, ◌∙◌, subst}
use Rattle.book_base.specs.declared.end.End.TheVariants.{A, B}
use Rattle.book_link.specs.Reports.{lines_from, summary}
use Rattle.book_link.specs.Runs.{empty, outcomes_from, run}
use Rattle.link_report.specs.declared.outcome.Outcome.{Outcome}
use Rattle.link_report.specs.Outcomes.{AreShown}
use Rattle.link_world.proofs.ShowLaws.{report_is}
use Rattle.link_world.proofs.world.World.report.Goals as goal

pub returns : goal.returns
returns c = λ setup events h.
    let w = run setup events in
    let told = outcomes_from setup (empty setup) events in
    let shown = subst (λ (os : List Outcome). AreShown os told) (sym c.as_slice.ensures.value) h.shown in
    let lines : c.push_outcomes.new.out.items ≡ lines_from 1 told =
    c.in_ok-push_outcomes.ensures told shown ∙ ap (λ (xs : List ℕ). xs ++ lines_from 1 told) c.new-out.ensures.items in
    c.from_vec.ensures ∙ c.in_ok-push_summary.ensures w (h.link.side_is A) (h.link.side_is B) (c.made.ensures.segments setup events h) (c.forgeries.ensures setup events h)
    ∙ ap (λ (xs : List ℕ). xs ++ summary w) lines ∙ sym (report_is setup events)
