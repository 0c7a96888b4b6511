-- Key coordination: which key an end sends with, and how it follows the RNextKeyID that it hears
-- (RFC 5925, section 6.1). `choose` and `follow` are the file's tops.
use Rattle.std.specs.Prelude.{◌≡◌, ◌≤◌, ℕ, ◌+◌, ◌==◌, Bool, List, [], ◌∷◌, length}
use Rattle.std.specs.Prelude.{Option, Some, None, option_map, if◌then◌else◌}
use Rattle.std.specs.Option.{option_or}
use Rattle.book_base.specs.declared.address.Pair.{Pair}
use Rattle.book_keys.specs.Rows.{Row, sendable}
use Rattle.book_keys.specs.Choices.{Numbered, qualified, send_row, next_row, named_send}
use Rattle.book_keys.specs.Lookups.{number_of}

-- the row to send with, and the KeyID and RNextKeyID that go with it (RFC 5925, section 7.4)
pub record Sending : Type 0 where
  pub number : ℕ
  pub row : Row
  pub key_id : ℕ
  pub rnext_key_id : ℕ

-- the row with this number, where it qualifies; the first row has number n (own)
abbrev pub numbered : (Row → Bool) → (first number : ℕ) → List Row → Option Numbered
numbered good n number [] = None
numbered good n number (r ∷ rs) =
    if n == number then qualified good n r else numbered good (n + 1) number rs

-- the current row, while it is sendable (RFC 5925, section 7.4)
abbrev pub still_current : Option ℕ → List Row → Pair → ℕ → Option Numbered
still_current None rows pair now = None
still_current (Some number) rows pair now = numbered (sendable pair now) 1 number rows

-- the current row while it is sendable, else the sendable row with the greatest send start (RFC
-- 5925, section 7.4, and own)
abbrev pub row_to_send : Option ℕ → List Row → Pair → ℕ → Option Numbered
row_to_send current rows pair now =
    option_or (still_current current rows pair now) (send_row rows pair now)

-- the RecvID of the row that is preferred for what comes in, else of the own row (RFC 5925, section
-- 7.4, and own)
abbrev pub rnext_key_id_of : Option Numbered → Row → ℕ
rnext_key_id_of None own = own.recv_id
rnext_key_id_of (Some preferred) own = preferred.row.recv_id

-- a row to send with, and the two ids that go with it (RFC 5925, section 7.4)
abbrev pub sending_by : Option Numbered → Numbered → Sending
sending_by preferred n = record {
  number = n.number;
  row = n.row;
  key_id = n.row.send_id;
  rnext_key_id = rnext_key_id_of preferred n.row;
}

-- what a segment is sent with, where some row is sendable (RFC 5925, sections 6.1 and 7.4)
unfoldable pub choose : Option ℕ → List Row → Pair → ℕ → Option Sending
choose current rows pair now =
    option_map (sending_by (next_row rows pair now)) (row_to_send current rows pair now)

-- the current row after a choice: the one that is sent with, else the one before (RFC 5925, section
-- 7.4)
abbrev pub current_after : Option ℕ → Option Sending → Option ℕ
current_after before None = before
current_after before (Some s) = Some s.number

-- the number, where there is one, is that of a row of the table (own)
abbrev pub IsRowOf : List Row → Option ℕ → Type 0
IsRowOf rows current = (n : ℕ) → current ≡ Some n → (1 ≤ n) × (n ≤ length rows)

-- the current row after an RNextKeyID was heard: the sendable row with this SendID, else the one
-- before (RFC 5925, sections 6.1 and 7.5)
unfoldable pub follow : Option ℕ → List Row → Pair → (id now : ℕ) → Option ℕ
follow current rows pair id now = option_or (number_of (named_send rows pair id now)) current
