-- Which rows go with a row (own).
use Rattle.std.specs.Prelude.{Bool}
use Rattle.book_keys.specs.Rows.{Row}
use Rattle.book_sessions.specs.Retiring.{is_partner, is_same_row}
use Rattle.capture_listener.specs.declared.left.Going.{Going}
use Rattle.capture_listener.specs.declared.left.Going.TheVariants as going

-- at a node the twins of its row; at its peer the partners of it (own)
abbrev pub goes_with : Going → (one : Row) → Row → Bool
goes_with going.Twins r = is_same_row r
goes_with going.Partners r = is_partner r
