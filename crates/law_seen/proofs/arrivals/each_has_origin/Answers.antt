use Rattle.book_link.specs.Runs.{run}
use Rattle.law_link.proofs.Origin.{origin_if}
use Rattle.law_link.proofs.Running.{run_inv}
use Rattle.law_seen.proofs.arrivals.each_has_origin.Goals as goal

pub returns : goal.returns
returns c = λ setup events event fits f g. origin_if setup fits (run setup events) event g (run_inv setup fits events f)
