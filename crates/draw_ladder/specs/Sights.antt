-- What is kept of the rungs that were seen.
use Rattle.std.specs.Prelude.{◌≡◌, ℕ, Bool, false, List, get_or}
use Rattle.book_base.specs.declared.end.End.{End}
use Rattle.book_draw.specs.declared.rung.Rung.{Rung}
use Rattle.book_draw.specs.Fates.{has_come, newest_at}
use Rattle.book_draw.specs.Ladders.{first_rung}
use Rattle.both_ends.specs.Values.{at}
use Rattle.draw_ladder.specs.declared.fates.Seen.{Seen}

-- the mark at each number says whether the segment of this number came; past the marks none did (own)
pub record Marks (marks : List Bool) (rs : List Rung) : Type 0 where
  pub marked : (n : ℕ) → get_or marks n false ≡ has_come n rs

-- what is kept of these rungs, the newest first (own)
pub record Saw (seen : Seen) (rs : List Rung) : Type 0 where
  pub marks : Marks seen.marks.items rs
  pub newest : (end : End) → at end seen.newest ≡ newest_at end rs
  pub last : seen.last ≡ first_rung rs
