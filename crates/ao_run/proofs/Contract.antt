-- The contract of the top call, from what it reads, answers and writes.
use Rattle.std.proofs.Common.{ℕ, List}
use Rattle.ao_run.specs.Obeys.{Obeys, Sides}
use Rattle.ao_run.specs.Runs.{Runs}
use Rattle.ao_run.proofs.Completing.{completes}
use Rattle.ao_run.proofs.Headline.{commands_deliver}
use Rattle.ao_run.proofs.OutcomeLaws.{ends_as}
use Rattle.book_answer.specs.Commands.{command_of}

pub runs : (words : List (List ℕ)) (k i : List ℕ) (b n : Sides) (s : ℕ) → Obeys words k i b n s → Runs words k i b n s
runs words k i b n s x = record { ends = ends_as (command_of words) k i b n s x; delivers = commands_deliver words k i b n s x; completes = completes words k i b n s x }
