-- Over a source and a sink in memory of which no call is told to fail the count of faults doesn't rise.
use Rattle.std.proofs.Common.{◌≡◌, ℕ, ◌+◌, ◌-◌, ◌<◌, List, [], length, Some, refl, ap, arith}
use Rattle.std.proofs.lemmas.List.{length-append}
use Rattle.ao_base.specs.InMemory.{GivingState, TakingState, giving_side, taking_side, unless_told}
use Rattle.ao_base.specs.Outside.{Side, Gave, WasWritten, Rose, told}
use Rattle.ao_base.proofs.Sides.{no_rise, told_given}

pub quiet_source : (s : GivingState) → s.failing ≡ [] → (giving_side s).quiet ≡ Some (length s.left + 1)
quiet_source s none = ap (λ failing. unless_told failing (length s.left + 1)) none

pub quiet_sink : (s : TakingState) → s.failing ≡ [] → (taking_side s).quiet ≡ Some (s.room - length s.held)
quiet_sink s none = ap (λ failing. unless_told failing (s.room - length s.held)) none

-- a source, whatever it gave
pub source_stays : (s : GivingState) (now : Side) (given : List ℕ) → s.failing ≡ [] → s.faults < 18446744073709551615 →
    Gave given (giving_side s) now → Rose (giving_side s) now → ⊥
source_stays s now given none few gave rose =
    let left = told_given (Some s.left) now.bytes given s.left refl gave.bytes in
    let size = length-append given (told now.bytes) in
    let both : length s.left ≡ length given + length (told now.bytes) = rw size at (ap length left) in
    no_rise (length given) (length s.left + 1) (giving_side s) now gave.counts (quiet_source s none) (omega arith) few rose

-- a sink with more room than was written to it
pub sink_stays : (s : TakingState) (now : Side) (taken : List ℕ) → s.failing ≡ [] → s.faults < 18446744073709551615 → length s.held + length taken < s.room →
    WasWritten taken (taking_side s) now → Rose (taking_side s) now → ⊥
sink_stays s now taken none few less took rose =
    no_rise (length taken) (s.room - length s.held) (taking_side s) now took.counts (quiet_sink s none) (omega arith) few rose
