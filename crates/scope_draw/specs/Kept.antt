-- What is kept of the rungs above.
use Rattle.std.specs.Prelude.{◌≡◌, ℕ, List, None, get_or, length}
use Rattle.book_draw.specs.declared.rung.Rung.{Rung}
use Rattle.page_draw_svg.specs.Placements.{arrow_start}
use Rattle.draw_ladder.specs.Sights.{Saw}
use Rattle.scope_draw.specs.declared.past.Past.{Past}

-- what is kept of these rungs, the newest first, so many as this (own)
pub record Keeps (past : Past) (count : ℕ) (rs : List Rung) : Type 0 where
  pub saw : Saw past.seen rs
  pub starts : (n : ℕ) → get_or past.starts.items n None ≡ arrow_start n rs
  pub counted : count ≡ length rs
