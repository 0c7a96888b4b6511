-- The contract of the top call. Its top is `Runs` (own).
use Rattle.std.specs.Prelude.{ℕ, List}
use Rattle.ao_run.specs.Completes.{Completes}
use Rattle.ao_run.specs.Delivers.{CommandsDeliver}
use Rattle.ao_run.specs.Obeys.{Sides}
use Rattle.ao_run.specs.Outcomes.{Ends}

-- in a call with these words the key file and standard input gave these bytes, and it ended with
-- this status (own)
pub record Runs (words : List (List ℕ)) (keys input : List ℕ) (before now : Sides) (status : ℕ)
    : Type 0 where
  -- how it ended, and what was read, written and told
  pub ends : Ends words keys input before now status
  -- the headlines: what the commands that run say of every input
  pub delivers : CommandsDeliver words keys input before now status
  -- the whole output, where nothing fails
  pub completes : Completes words before now status
