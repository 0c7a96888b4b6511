-- What an end that is asked for a segment costs at most (own).
use Rattle.std.specs.Prelude.{◌≡◌, ◌≤◌, ◌+◌, ℕ, Option, Some, None}
use Rattle.stack_ends.specs.declared.send.Says.{Says}
use Rattle.stack_ends.specs.declared.send.Says.TheVariants as says
use Rattle.stack_ends.specs.declared.send.Spoken.{Spoken}

-- the work of an end that said so: at most one derivation of a traffic key for its segment, and none
-- without one (own)
abbrev pub CostsSaid : Says → ℕ → ℕ → Type 0
CostsSaid (says.Segment n) old new = new ≤ old + 1
CostsSaid says.NoKey old new = new ≡ old
CostsSaid says.Nothing old new = new ≡ old

-- the same where no end may be held: then there is none (own)
abbrev pub CostsAsked : Option Spoken → ℕ → ℕ → Type 0
CostsAsked None old new = new ≡ old
CostsAsked (Some spoken) old new = CostsSaid spoken.says old new
