use Rattle.std.proofs.Common.{ℕ, List, ◌++◌, ap, ◌∙◌}
use Rattle.book_base.specs.declared.end.End.TheVariants.{A, B}
use Rattle.book_link.specs.Reports.{summary}
use Rattle.book_link.specs.Runs.{run}
use Rattle.link_world.proofs.world.World.summary.Goals as goal

pub returns : goal.returns
returns c = λ setup events h.
    let w = run setup events in
    c.from_vec.ensures ∙ c.in_ok-push_summary.ensures w (h.link.side_is A) (h.link.side_is B) (c.made.ensures.segments setup events h) (c.forgeries.ensures setup events h)
    ∙ ap (λ (xs : List ℕ). xs ++ summary w) c.new-out.ensures.items
