-- A block by its place (own).
use Rattle.std.specs.Prelude.{ℕ, ◌-◌, List, drop, slice_range}
use Rattle.book_captures.specs.Blocks.{Block}
use Rattle.capture_reader.specs.declared.blocks.BlockPlace.{BlockPlace}

-- the block at the front of these bytes that has this place, and the bytes behind it
abbrev pub placed : List ℕ → BlockPlace → Block × List ℕ
placed text p = (
  record { order = p.order; kind = p.kind; body = slice_range text 8 (p.len - 4) },
  drop p.len text,
)
