-- A source and a sink in memory, whose calls fail where they are told to (own).
use Rattle.std.specs.Prelude.{◌≡◌, ◌↔◌, ℕ, ◌+◌, ◌-◌, ◌<◌, ◌≤◌, ◌⊎◌, min, List, [], ◌++◌, Contains}
use Rattle.std.specs.Prelude.{◌∷◌, length, take, drop, Option, Some, None, Result, IfOk, IfErr}
use Rattle.std.specs.Prelude.{IsErr}
use Rattle.ao_base.specs.Outside.{Side, one_later}

-- what a source in memory is: the bytes left, the most that a call gives, the numbers of the calls
-- that fail, the number of the last call (they are numbered from 1, and all from 2^64 - 1 on have
-- that number), the faults (own)
pub record GivingState : Type 0 where
  pub left : List ℕ
  pub piece : ℕ
  pub failing : List ℕ
  pub calls : ℕ
  pub faults : ℕ

-- what a sink in memory is: the bytes held, the most that it can hold, the numbers of the calls
-- that fail, the number of the last call, the faults (own)
pub record TakingState : Type 0 where
  pub held : List ℕ
  pub room : ℕ
  pub failing : List ℕ
  pub calls : ℕ
  pub faults : ℕ

-- a number that is told where no call is told to fail (own)
abbrev pub unless_told : List ℕ → ℕ → Option ℕ
unless_told [] n = Some n
unless_told (call ∷ failing) n = None

-- a source in memory tells its bytes, and with no call told to fail that it gives them all without
-- a fault (own)
abbrev pub giving_side : GivingState → Side
giving_side s = record {
  bytes = Some s.left;
  faults = s.faults;
  quiet = unless_told s.failing (length s.left + 1);
}

-- a sink in memory tells its bytes, and with no call told to fail that it takes less than it has
-- room for without a fault (own)
abbrev pub taking_side : TakingState → Side
taking_side s = record {
  bytes = Some s.held;
  faults = s.faults;
  quiet = unless_told s.failing (s.room - length s.held);
}

-- one call of `read` with a buffer that held `old` and holds `new` (own)
pub record Gives {E : Type 0} (before now : GivingState) (old new : List ℕ) (result : Result ℕ E) : Type 0 where
  pub fails : IsErr result ↔ Contains before.failing (one_later before.calls)
  pub least : IfOk result (λ k. k ≡ min (min before.piece (length old)) (length before.left))
  pub buffer : IfOk result (λ k. new ≡ take k before.left ++ drop k old)
  pub after : IfOk result (λ k. now ≡ record before { left = drop k before.left; calls = one_later before.calls })
  pub faulty : IfErr result (λ _. now ≡ record before { calls = one_later before.calls; faults = one_later before.faults })

-- one call of `write` with the bytes `buf` (own)
pub record Takes {E : Type 0} (before now : TakingState) (buf : List ℕ) (result : Result ℕ E) : Type 0 where
  pub fails : IsErr result ↔ (Contains before.failing (one_later before.calls) ⊎ ((0 < length buf) × (length before.held ≡ before.room)))
  pub least : IfOk result (λ k. k ≡ min (length buf) (before.room - length before.held))
  pub after : IfOk result (λ k. now ≡ record before { held = before.held ++ take k buf; calls = one_later before.calls })
  pub faulty : IfErr result (λ _. now ≡ record before { calls = one_later before.calls; faults = one_later before.faults })

-- within its room, and with no call told to fail a fault only where it is full (own)
pub record IsTaking (s : TakingState) : Type 0 where
  pub within : length s.held ≤ s.room
  pub full : s.failing ≡ [] → 0 < s.faults → length s.held ≡ s.room
