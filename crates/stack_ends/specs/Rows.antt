-- Rows of the table of a stack are added and withdrawn while its ends live (own).
use Rattle.std.specs.Prelude.{◌≡◌, ℕ, List, Option, Some, None, Result, Ok, Err}
use Rattle.book_keys.specs.Rows.{Row}
use Rattle.book_keys.specs.Tables.{Adding, AddedAs, OverlapsRow, TooMany}
use Rattle.book_keys.specs.declared.new_row.AddRefusal.{AddRefusal}
use Rattle.book_keys.specs.declared.new_row.AddRefusal.TheVariants as refused
use Rattle.book_keys.specs.declared.new_row.NoRow.{NoRow}
use Rattle.book_cmd_node.specs.NodeRuns.{NodeState}
use Rattle.stack_ends.specs.declared.ends.Ends.{Ends}
use Rattle.stack_ends.specs.Stands.{Stands}

-- a row was added, and all ends go on under the rows with it; or why not (own)
abbrev pub RowAdded : Ends → NodeState → List Row → Result ℕ AddRefusal → Adding → Type 0
RowAdded k n rows (Ok number) answer =
    (new : List Row) × (answer ≡ AddedAs number new) × Stands k new n
RowAdded k n rows (Err refused.Memory) answer = Stands k rows n
RowAdded k n rows (Err refused.TooMany) answer = (answer ≡ TooMany) × Stands k rows n
RowAdded k n rows (Err (refused.Overlap number)) answer =
    (answer ≡ OverlapsRow number) × Stands k rows n

-- a row was withdrawn, and all ends go on under the rows where it is; or there is no such row (own)
abbrev pub RowWithdrawn : Ends → NodeState → List Row → Result (Unit {0}) NoRow → Option (List Row) → Type 0
RowWithdrawn k n rows (Ok done) answer = (new : List Row) × (answer ≡ Some new) × Stands k new n
RowWithdrawn k n rows (Err none) answer = (answer ≡ None) × Stands k rows n
