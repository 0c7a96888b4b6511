-- The lines that are gathered, and what becomes of them (own). Its top is `WritesLines`.
use Rattle.std.specs.Prelude.{◌≡◌, ℕ, ◌<◌, List, [], length, take, Result, Ok, Err}
use Rattle.ao_base.specs.Outside.{Side, WasWritten, Rose}
use Rattle.cmd_check.specs.declared.halt.Halt.{Halt}
use Rattle.cmd_check.specs.declared.halt.Halt.TheVariants.{Line, Head, Record, TooLong, Read, Write}
use Rattle.cmd_check.specs.declared.halt.Halt.TheVariants.{Memory}

-- a write failed: of the lines that were gathered a front part was written (own)
pub record BreaksLines (lines : List ℕ) (out_before out_now : Side) : Type 0 where
  pub n : ℕ
  pub less : n < length lines
  pub wrote : WasWritten (take n lines) out_before out_now
  pub rose : Rose out_before out_now

-- the lines that were gathered are written, and none is left (own)
pub record Written (lines_before lines_now : List ℕ) (out_before out_now : Side) : Type 0 where
  pub none : lines_now ≡ []
  pub wrote : WasWritten lines_before out_before out_now

-- the lines that were gathered are written, or of a write that failed a front part (own)
abbrev pub WritesLines : {E : Type 0} → (lines_before lines_now : List ℕ) → Side → Side →
    Result (Unit {0}) E → Type 0
WritesLines lines_before lines_now out_before out_now (Ok done) =
    Written lines_before lines_now out_before out_now
WritesLines lines_before lines_now out_before out_now (Err failed) =
    BreaksLines lines_before out_before out_now

-- memory ran out, and the lines that were gathered are written, or of a write that failed a front
-- part (own)
abbrev pub RunsOut : List ℕ → (out_before out_now : Side) → Halt → Type 0
RunsOut lines out_before out_now Memory = WasWritten lines out_before out_now
RunsOut lines out_before out_now Write = BreaksLines lines out_before out_now
RunsOut lines out_before out_now (Line n kind) = ⊥
RunsOut lines out_before out_now (Head fault) = ⊥
RunsOut lines out_before out_now (Record n) = ⊥
RunsOut lines out_before out_now TooLong = ⊥
RunsOut lines out_before out_now Read = ⊥
