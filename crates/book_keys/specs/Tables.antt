-- A row is added to a table, and one is withdrawn (own): `adding` and `withdrawn` are the file's
-- tops.
use Rattle.std.specs.Prelude.{◌≡◌, ℕ, zero, suc, ◌+◌, ◌≤◌, nat_lt, nat_le, List, [], ◌∷◌, ◌++◌}
use Rattle.std.specs.Prelude.{length, Option, Some, None, Result, Ok, Err, if◌then◌else◌}
use Rattle.std.specs.List.{position_from}
use Rattle.book_keys.specs.declared.direction.Direction.TheVariants.{Disabled}
use Rattle.book_keys.specs.declared.new_row.NewRow.{NewRow}
use Rattle.book_keys.specs.declared.new_row.NoRow.{NoRow}
use Rattle.book_keys.specs.declared.new_row.AddRefusal.{AddRefusal}
use Rattle.book_keys.specs.declared.new_row.AddRefusal.TheVariants as refusal
use Rattle.book_keys.specs.Lifetimes.{greatest_time}
use Rattle.book_keys.specs.MasterKeys.{IsMasterKey}
use Rattle.book_keys.specs.Rows.{Row, Table, row_limit}
use Rattle.book_keys.specs.Overlaps.{overlaps}

-- what may be added: a master key, and two lifetimes of times that can be written, neither of
-- which ends before it begins (RFC 7210, section 2)
pub record IsNewRow (r : NewRow) : Type 0 where
  pub master : IsMasterKey r.master
  pub sending : r.sending.first ≤ r.sending.last
  pub sent : r.sending.last ≤ greatest_time
  pub accepting : r.accepting.first ≤ r.accepting.last
  pub accepted : r.accepting.last ≤ greatest_time

-- the row that is added, which matches every pair: any peer, any ports (own)
abbrev pub row_of_new : NewRow → Row
row_of_new new = record {
  recv_id = new.recv_id;
  send_id = new.send_id;
  peers = None ∷ [];
  local_port = None;
  peer_port = None;
  algorithm = new.algorithm;
  master = new.master;
  with_options = new.with_options;
  direction = new.direction;
  sending = new.sending;
  accepting = new.accepting;
}

-- what comes of adding a row: its number and the rows with it behind the last; the table is full;
-- the lowest row that overlaps it (own)
pub data Adding : Type 0 where
  AddedAs : (number : ℕ) (rows : List Row) → Adding
  TooMany : Adding
  OverlapsRow : (number : ℕ) → Adding

-- the row is added behind the last one, unless a row overlaps it (own)
abbrev pub added_unless : Option ℕ → List Row → Row → Adding
added_unless (Some n) rows r = OverlapsRow n
added_unless None rows r = AddedAs (length rows + 1) (rows ++ r ∷ [])

-- what comes of adding a row: it is added where the table stays valid, with at most 64 rows of
-- which no two overlap (own)
unfoldable pub adding : List Row → Row → Adding
adding rows r =
    if nat_le row_limit (length rows) then TooMany
    else added_unless (position_from (λ a. overlaps a r) 1 rows) rows r

-- the row as it stands once it is withdrawn: for neither way (RFC 7210, section 2, Direction)
abbrev pub disabled : Row → Row
disabled r = record r { direction = Disabled }

-- the rows where row n, counted from 0, is withdrawn: it keeps its number (own)
abbrev pub without_row : List Row → ℕ → List Row
without_row [] n = []
without_row (r ∷ rs) zero = disabled r ∷ rs
without_row (r ∷ rs) (suc n) = r ∷ without_row rs n

-- the rows where row n, counted from 1, is withdrawn, where there is such a row (own)
unfoldable pub withdrawn : List Row → ℕ → Option (List Row)
withdrawn rows zero = None
withdrawn rows (suc n) = if nat_lt n (length rows) then Some (without_row rows n) else None

-- a table with these rows in place of its own (own)
abbrev pub with_rows : Table → List Row → Table
with_rows t rows = record { name = t.name; address = t.address; rows = rows }

-- what an addition left and answered: the new number with the rows after it, or a refusal and the
-- table as it was (own)
abbrev pub Addition : (old new : Table) → Result ℕ AddRefusal → Adding → Type 0
Addition old new (Ok n) answer =
    (rows : List Row) × (answer ≡ AddedAs n rows) × (new ≡ with_rows old rows)
Addition old new (Err refusal.Memory) answer = new ≡ old
Addition old new (Err refusal.TooMany) answer = (answer ≡ TooMany) × (new ≡ old)
Addition old new (Err (refusal.Overlap n)) answer = (answer ≡ OverlapsRow n) × (new ≡ old)

-- what a withdrawal left and answered: the rows where it is withdrawn, or that there is no such row
-- and the table as it was (own)
abbrev pub Withdrawn : (old new : Table) → Result (Unit {0}) NoRow → Option (List Row) → Type 0
Withdrawn old new (Ok u) answer =
    (rows : List Row) × (answer ≡ Some rows) × (new ≡ with_rows old rows)
Withdrawn old new (Err e) answer = (answer ≡ None) × (new ≡ old)
