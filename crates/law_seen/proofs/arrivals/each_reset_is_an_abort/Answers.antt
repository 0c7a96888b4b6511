use Rattle.book_link.specs.Runs.{run}
use Rattle.law_link.proofs.Origin.{reset_if}
use Rattle.law_link.proofs.Running.{run_inv}
use Rattle.law_seen.proofs.arrivals.each_reset_is_an_abort.Goals as goal

pub returns : goal.returns
returns c = λ setup events event fits f g. reset_if setup fits (run setup events) event g (run_inv setup fits events f)
