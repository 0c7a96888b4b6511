-- What a search for the next line finds (own).
use Rattle.std.specs.Prelude.{◌≡◌, ℕ, ◌<◌, ◌≤◌, List, [], ◌++◌, length, take}
use Rattle.std.specs.List.{position_or_len}
use Rattle.ao_base.specs.Buffered.{Buffered}
use Rattle.book_base.specs.Lines.{is_newline}
use Rattle.ao_base.specs.Outside.{Side, Gave, Rose, IsAtEnd}
use Rattle.ao_base.specs.declared.search.Found.{Found}
use Rattle.ao_base.specs.declared.search.Found.TheVariants.{Line, End, Fault, TooLong, LongLine}

-- among the kept bytes, with so many that may still be handed out
abbrev pub IsFound : ℕ → ℕ → List ℕ → Side → Side → Found → Type 0
IsFound longest allowed kept source_before source_now (Line len) =
    (len ≡ position_or_len is_newline kept) × (len ≤ longest) × (0 < length kept) × (len < length kept → len < allowed) × (len ≡ length kept → IsAtEnd source_now × (len ≤ allowed))
IsFound longest allowed kept source_before source_now End = (kept ≡ []) × IsAtEnd source_now
IsFound longest allowed kept source_before source_now Fault = Rose source_before source_now
IsFound longest allowed kept source_before source_now TooLong = allowed < length kept
IsFound longest allowed kept source_before source_now LongLine = longest < position_or_len is_newline kept

-- one search, in which the source gave these bytes
pub record Finds (longest allowed : ℕ) (before now : Buffered) (source_before source_now : Side) (given : List ℕ) (result : Found) : Type 0 where
  pub gave : Gave given source_before source_now
  pub kept : now.kept ≡ before.kept ++ given
  pub size : now.size ≡ before.size
  pub fits : length now.kept ≤ now.size
  pub found : IsFound longest allowed now.kept source_before source_now result

-- a search so far, in which the first `seen` bytes have no newline
pub record Searching (before now : Buffered) (source_before source_now : Side) (given : List ℕ) (seen : ℕ) : Type 0 where
  pub gave : Gave given source_before source_now
  pub kept : now.kept ≡ before.kept ++ given
  pub size : now.size ≡ before.size
  pub within : seen ≤ length now.kept
  pub none : position_or_len is_newline (take seen now.kept) ≡ seen
