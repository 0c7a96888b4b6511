use Rattle.law_link.proofs.Onward.{runs_only_grow, steps_only_grow}
use Rattle.law_link.proofs.runs.sessions_only_grow.Goals as goal

pub returns-clause-step : goal.returns-clause-step
returns-clause-step c = λ setup events event fits f one. steps_only_grow setup fits events event f one

pub returns-clause-run : goal.returns-clause-run
returns-clause-run c = λ setup events more fits f g. runs_only_grow setup fits events more f g
