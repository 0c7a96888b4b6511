-- What the look-ups of a table answer, in the numbers of its rows.
use Rattle.std.specs.Prelude.{ℕ, Bool, true, false, List, Option, Some, None}
use Rattle.book_base.specs.declared.address.Pair.{Pair}
use Rattle.book_keys.specs.declared.accept.Accept.{Accept}
use Rattle.book_keys.specs.declared.accept.Accept.TheVariants as found
use Rattle.book_keys.specs.Rows.{Row}
use Rattle.book_keys.specs.Choices.{Numbered, accept_row, has_id}

-- the number of the row that was found, where one was (own)
abbrev pub number_of : Option Numbered → Option ℕ
number_of None = None
number_of (Some n) = Some n.number

-- what a look-up by RecvID answers, by whether some row accepts under it and which row is
-- acceptable now (RFC 5925, section 7.5)
abbrev pub accept_answer : Bool → Option Numbered → Accept
accept_answer false row = found.Absent
accept_answer true None = found.Expired
accept_answer true (Some n) = found.Row n.number

-- what a look-up by RecvID answers: no row accepts under it; or some does, and it is the one that
-- is acceptable now, or none is (RFC 5925, section 7.5)
abbrev pub accept_of : List Row → Pair → (id now : ℕ) → Accept
accept_of rows pair id now = accept_answer (has_id rows pair id) (accept_row rows pair id now)
