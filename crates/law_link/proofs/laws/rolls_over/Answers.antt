use Rattle.book_link.specs.Runs.{run}
use Rattle.law_link.proofs.Rollover.{rolls_over}
use Rattle.law_link.proofs.Running.{run_inv}
use Rattle.law_link.proofs.laws.rolls_over.Goals as goal

pub returns : goal.returns
returns c = λ setup events e name m fits tables f h. rolls_over setup fits tables (run setup events) e name m (run_inv setup fits events f) h
