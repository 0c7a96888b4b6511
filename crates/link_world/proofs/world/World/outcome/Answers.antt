use Rattle.link_report.specs.declared.outcome.Outcome.{Outcome}
use Rattle.link_report.specs.Outcomes.{Shows}
use Rattle.book_link.specs.Runs.{run}
use Rattle.book_link.specs.Steps.{step}
use Rattle.std.proofs.Common.{◌≡◌, ◌-◌, ℕ, length, get_or, sym, ap, ◌∙◌, subst, arith}
use Rattle.link_world.proofs.WorldLaws.{last_is}
use Rattle.link_world.proofs.world.World.outcome.Goals as goal

pub returns : goal.returns
returns c setup events event h =
    let os = c.args.self.now.outcomes.items in
    let d : Outcome = c.index.result.now in
    let long : c.len.result ≡ length os = omega (arith, c.len.ensures) in
    let is : d ≡ get_or os (length os - 1) d = c.index.ensures ∙ ap (λ (n : ℕ). get_or os (n - 1) d) long in
    subst (λ (o : Outcome). Shows o (step setup (run setup events) event).outcome) (sym is) (last_is c.args.self.now setup events event d h)
