-- Filling a buffer from a source until as many bytes are kept as are wanted (own).
use Rattle.std.specs.Prelude.{◌≡◌, ℕ, ◌<◌, ◌≤◌, List, ◌++◌, length}
use Rattle.std.specs.List.{All}
use Rattle.ao_base.specs.Buffered.{Buffered}
use Rattle.book_base.specs.Hexadecimal.{IsByte}
use Rattle.ao_base.specs.Outside.{Side, Gave, Rose, IsAtEnd}
use Rattle.ao_base.specs.declared.refill.Filled.{Filled}
use Rattle.ao_base.specs.declared.refill.Filled.TheVariants as filled

-- as many as wanted, or all to the end
abbrev pub IsFilled : ℕ → List ℕ → Side → Side → Filled → Type 0
IsFilled wanted kept source_before source_now filled.Enough = wanted ≤ length kept
IsFilled wanted kept source_before source_now filled.Ended = (length kept < wanted) × IsAtEnd source_now
IsFilled wanted kept source_before source_now filled.Fault = Rose source_before source_now

-- taking so far
pub record Filling (before now : Buffered) (source_before source_now : Side)
    (given : List ℕ) : Type 0 where
  pub gave : Gave given source_before source_now
  pub kept : now.kept ≡ before.kept ++ given
  pub size : now.size ≡ before.size

-- taking until enough bytes are kept
pub record Fills (wanted : ℕ) (before now : Buffered) (source_before source_now : Side)
    (given : List ℕ) (result : Filled) : Type 0 where
  pub gave : Gave given source_before source_now
  pub bytes : All IsByte given
  pub kept : now.kept ≡ before.kept ++ given
  pub size : now.size ≡ before.size
  pub fits : length now.kept ≤ now.size
  pub fills : IsFilled wanted now.kept source_before source_now result
