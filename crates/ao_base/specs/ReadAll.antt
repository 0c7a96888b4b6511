-- Reading a source to its end (own).
use Rattle.std.specs.Prelude.{◌≡◌, ◌↔◌, ℕ, ◌+◌, ◌<◌, ◌≤◌, List, length, Result, IfOk, IsErrOf}
use Rattle.ao_base.specs.Outside.{Side, Gave, Rose, IsAtEnd}
use Rattle.ao_base.specs.declared.whole.ReadProblem.{ReadProblem}
use Rattle.ao_base.specs.declared.whole.ReadProblem.TheVariants.{Fault, TooLong}

-- the source gave these bytes in the call, no more than show that there are too many: at Ok all to
-- its end (own)
pub record ReadsAll (before now : Side) (most : ℕ) (given : List ℕ) (result : Result (List ℕ) ReadProblem) : Type 0 where
  pub gave : Gave given before now
  pub few : length given ≤ most + 1
  pub whole : IfOk result (λ bytes. (bytes ≡ given) × IsAtEnd now)
  pub fault : IsErrOf result Fault → Rose before now
  pub long : IsErrOf result TooLong ↔ (most < length given)
