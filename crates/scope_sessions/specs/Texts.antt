-- What became of a text that is written at once (own). Its top is `WritesText`.
use Rattle.std.specs.Prelude.{◌≡◌, ℕ, ◌<◌, ◌≤◌, List, [], length, take, Result, Ok, Err}
use Rattle.ao_base.specs.Outside.{Side, WasWritten, Rose}
use Rattle.capture_walk.specs.declared.hearer.HearHalt.{HearHalt}
use Rattle.capture_walk.specs.declared.hearer.HearHalt.TheVariants as hear_halt

-- a write failed: a front part of this text was written, and of what stands in front in it nothing
-- is missing (own)
pub record BreaksText (front text : List ℕ) (out_before out_now : Side) : Type 0 where
  pub n : ℕ
  pub at_least : length front ≤ n
  pub not_all : n < length text
  pub wrote : WasWritten (take n text) out_before out_now
  pub rose : Rose out_before out_now

-- what became of a text (own)
abbrev pub WritesText : List ℕ → (out_before out_now : Side) → Result (Unit {0}) HearHalt → Type 0
WritesText text out_before out_now (Ok done) = WasWritten text out_before out_now
WritesText text out_before out_now (Err hear_halt.Write) = BreaksText [] text out_before out_now
WritesText text out_before out_now (Err hear_halt.Memory) = WasWritten [] out_before out_now
