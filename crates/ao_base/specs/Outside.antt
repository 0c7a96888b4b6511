-- What a contract says of a source or a sink (own).
use Rattle.std.specs.Prelude.{◌≡◌, ℕ, ◌+◌, ◌-◌, ◌^◌, ◌<◌, ◌≤◌, min, List, [], length, take, Option}
use Rattle.std.specs.Prelude.{Some, None, Result, IfOk, IfErr, MatchResult}
use Rattle.std.specs.Io.KnownBytes.{Appends, Consumes}
use Rattle.std.specs.Io.KnownBytes.{IsAtEnd as is_at_end}

-- the bytes that a source has left or a sink holds, where it tells them; its count of faults; and a
-- number, where it tells one: while fewer bytes than that go by, no fault comes (own)
pub record Side : Type 0 where
  pub bytes : Option (List ℕ)
  pub faults : ℕ
  pub quiet : Option ℕ

-- a side that tells no such number (own)
abbrev pub wary : Option (List ℕ) → ℕ → Side
wary bytes faults = record { bytes = bytes; faults = faults; quiet = None }

-- the bytes as far as they are told (own)
abbrev pub told : Option (List ℕ) → List ℕ
told None = []
told (Some bytes) = bytes

-- the number after, which stands still at 2^64 - 1 (own)
abbrev pub one_later : ℕ → ℕ
one_later n = min (n + 1) 18446744073709551615

-- the count rose, or stands at 2^64 - 1 (own)
abbrev pub Rose : (before now : Side) → Type 0
Rose before now = one_later before.faults ≤ now.faults

-- no byte is left, where the source tells them (own)
abbrev pub IsAtEnd : Side → Type 0
IsAtEnd side = is_at_end side.bytes

-- while so many bytes go by, a count never falls, stays at most 2^64 - 1, and stays as it was where
-- they are fewer than was told; what was told then holds of the rest (own)
pub record Counts (passed : ℕ) (before now : Side) : Type 0 where
  pub later : before.faults ≤ now.faults
  pub small : before.faults < 2 ^ 64 → now.faults < 2 ^ 64
  pub quiet : (most : ℕ) → before.quiet ≡ Some most → passed < most → (now.faults ≡ before.faults) × (now.quiet ≡ Some (most - passed))

-- one call counts one fault where it fails, and else none (own)
abbrev pub CountsOnce : {E : Type 0} → (before now : ℕ) → Result ℕ E → Type 0
CountsOnce before now result = MatchResult result (λ _. now ≡ before) (λ _. now ≡ one_later before)

-- the source gave these bytes, the next ones, and no others (own)
pub record Gave (given : List ℕ) (before now : Side) : Type 0 where
  pub bytes : Consumes before.bytes now.bytes given
  pub counts : Counts (length given) before now

-- the sink took these bytes after what it held, and no others (own)
pub record WasWritten (taken : List ℕ) (before now : Side) : Type 0 where
  pub bytes : Appends before.bytes now.bytes taken
  pub counts : Counts (length taken) before now

-- one call of `read`, after which the buffer holds `buf` (own)
pub record Reads {E : Type 0} (before now : Side) (buf : List ℕ) (result : Result ℕ E) : Type 0 where
  pub room : IfOk result (λ k. k ≤ length buf)
  pub gave : IfOk result (λ k. Gave (take k buf) before now)
  pub ends : IfOk result (λ k. k ≡ 0 → 0 < length buf → IsAtEnd now)
  pub failed : IfErr result (λ _. Gave [] before now × Rose before now)

-- one call of `write` with the bytes `buf` (own)
pub record Writes {E : Type 0} (before now : Side) (buf : List ℕ) (result : Result ℕ E) : Type 0 where
  pub room : IfOk result (λ k. k ≤ length buf)
  pub some : IfOk result (λ k. 0 < length buf → 0 < k)
  pub took : IfOk result (λ k. WasWritten (take k buf) before now)
  pub failed : IfErr result (λ _. WasWritten [] before now × Rose before now)

-- the first n bytes were written: all of them at Ok, and at a fault fewer (own)
pub record WritesAll {E : Type 0} (before now : Side) (bytes : List ℕ) (n : ℕ) (result : Result (Unit {0}) E) : Type 0 where
  pub within : n ≤ length bytes
  pub took : WasWritten (take n bytes) before now
  pub whole : IfOk result (λ _. n ≡ length bytes)
  pub failed : IfErr result (λ _. (n < length bytes) × Rose before now)
