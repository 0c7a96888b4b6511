use Rattle.book_link.specs.Runs.{run}
use Rattle.law_link.proofs.Origin.{resets_by_abort}
use Rattle.law_link.proofs.Running.{run_inv}
use Rattle.law_link.proofs.laws.resets_by_abort.Goals as goal

pub returns : goal.returns
returns c = λ setup events event fits f g. resets_by_abort setup fits (run setup events) event g (run_inv setup fits events f)
