-- Which of the usable rows of a table is chosen: `send_row`, `next_row`, `named_send` and
-- `accept_row` are the file's tops.
use Rattle.std.specs.Prelude.{◌≡◌, ℕ, ◌+◌, ◌-◌, ◌≤◌, ◌<◌, ◌==◌, ◌&&◌, nat_lt, Bool, true, false}
use Rattle.std.specs.Prelude.{List, [], ◌∷◌, length, slice_index_or, Option, Some, None}
use Rattle.std.specs.Prelude.{if◌then◌else◌}
use Rattle.std.specs.List.{list_any, All}
use Rattle.std.specs.Option.{option_or}
use Rattle.book_base.specs.declared.address.Pair.{Pair}
use Rattle.book_keys.specs.Rows.{Row, matches, receives, sendable, acceptable}

-- a row with its number in the table, from 1 on (own)
pub record Numbered : Type 0 where
  pub number : ℕ
  pub row : Row

-- of two rows in order, the one with the later start; the earlier row where the starts are equal
-- (own)
abbrev pub later : (Row → ℕ) → (first second : Option Numbered) → Option Numbered
later start None two = two
later start (Some one) None = Some one
later start (Some one) (Some two) =
    if nat_lt (start one.row) (start two.row) then Some two else Some one

-- the row with its number, where it qualifies (own)
abbrev pub qualified : (Row → Bool) → ℕ → Row → Option Numbered
qualified good n r = if good r then Some (record { number = n; row = r }) else None

-- the row with the greatest start among those that qualify, the first row having number n; ties go
-- to the lowest row (own)
abbrev pub latest : (Row → Bool) → (Row → ℕ) → ℕ → List Row → Option Numbered
latest good start n [] = None
latest good start n (r ∷ rs) = later start (qualified good n r) (latest good start (n + 1) rs)

-- the lowest row that qualifies, the first row having number n (own)
abbrev pub lowest : (Row → Bool) → ℕ → List Row → Option Numbered
lowest good n [] = None
lowest good n (r ∷ rs) = option_or (qualified good n r) (lowest good (n + 1) rs)

-- the SendLifetimeStart of a row (RFC 7210, section 2)
abbrev pub send_start : Row → ℕ
send_start r = r.sending.first

-- the AcceptLifetimeStart of a row (RFC 7210, section 2)
abbrev pub accept_start : Row → ℕ
accept_start r = r.accepting.first

-- the sendable row with the greatest send start (RFC 7210, section 3, and own)
abbrev pub send_row : List Row → Pair → ℕ → Option Numbered
send_row rows pair now = latest (sendable pair now) send_start 1 rows

-- the acceptable row with the greatest accept start (own)
abbrev pub next_row : List Row → Pair → ℕ → Option Numbered
next_row rows pair now = latest (acceptable pair now) accept_start 1 rows

-- the row is sendable, and has this SendID (RFC 5925, section 6.1)
abbrev pub sendable_as : Pair → (id now : ℕ) → Row → Bool
sendable_as pair id now r = sendable pair now r && (r.send_id == id)

-- the row is acceptable, and has this RecvID (RFC 5925, section 7.5)
abbrev pub acceptable_as : Pair → (id now : ℕ) → Row → Bool
acceptable_as pair id now r = acceptable pair now r && (r.recv_id == id)

-- the sendable row with this SendID (RFC 5925, section 6.1)
abbrev pub named_send : List Row → Pair → (id now : ℕ) → Option Numbered
named_send rows pair id now = lowest (sendable_as pair id now) 1 rows

-- the acceptable row with this RecvID (RFC 5925, section 7.5)
abbrev pub accept_row : List Row → Pair → (id now : ℕ) → Option Numbered
accept_row rows pair id now = lowest (acceptable_as pair id now) 1 rows

-- the row accepts for the pair under this RecvID, at whatever time (RFC 5925, section 7.5)
abbrev pub accepts_as : Pair → ℕ → Row → Bool
accepts_as pair id r = matches r pair && (receives r.direction && (r.recv_id == id))

-- some row accepts for the pair under this RecvID, at whatever time (RFC 5925, section 7.5)
abbrev pub has_id : List Row → Pair → ℕ → Bool
has_id rows pair id = list_any (accepts_as pair id) rows

-- this row of the table qualifies, has the greatest start, and is the lowest with that start (own)
pub record IsLatest (good : Row → Bool) (start : Row → ℕ) (rows : List Row)
    (n : Numbered) : Type 0 where
  pub low : 1 ≤ n.number
  pub high : n.number ≤ length rows
  pub here : (d : Row) → slice_index_or rows (n.number - 1) d ≡ n.row
  pub qualifies : good n.row ≡ true
  pub greatest : All (λ r. good r ≡ true → start r ≤ start n.row) rows
  pub lowest : (k : ℕ) (d : Row) → k + 1 < n.number → good (slice_index_or rows k d) ≡ true
      → start (slice_index_or rows k d) < start n.row

-- this row of the table qualifies, and none before it does (own)
pub record IsLowest (good : Row → Bool) (rows : List Row) (n : Numbered) : Type 0 where
  pub low : 1 ≤ n.number
  pub high : n.number ≤ length rows
  pub here : (d : Row) → slice_index_or rows (n.number - 1) d ≡ n.row
  pub qualifies : good n.row ≡ true
  pub before : (k : ℕ) (d : Row) → k + 1 < n.number → good (slice_index_or rows k d) ≡ false
