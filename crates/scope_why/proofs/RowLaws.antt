-- What a look-up of a row tells of the row that takes a segment.
use Rattle.std.proofs.Common.{◌≡◌, ℕ, ◌-◌, List, None, Ok, get_or, refl}
use Rattle.book_base.specs.declared.address.Pair.{Pair}
use Rattle.book_keys.specs.Rows.{Row}
use Rattle.book_keys.specs.Choices.{accept_row, has_id}
use Rattle.book_keys.specs.Lookups.{accept_of}
use Rattle.book_keys.specs.declared.accept.Accept.TheVariants as found
use Rattle.book_endpoint.specs.Verdicts.{row_taking}
use Rattle.ao_check.proofs.KeyLaws.{AtPlace, accepted_at, same_row}
use Rattle.ao_check.proofs.VerdictLaws.{absent_is, accepted, expired_is, no_row}
use Rattle.scope_why.specs.Finding.{Lacking}

untaken : (rows : List Row) (pair : Pair) (id now : ℕ) → accept_row rows pair id now ≡ None → Lacking (row_taking rows pair id now)
untaken rows pair id now e = rw e tt

pub absent : (rows : List Row) (pair : Pair) (id now : ℕ) → found.Absent ≡ accept_of rows pair id now → Lacking (row_taking rows pair id now)
absent rows pair id now e =
    untaken rows pair id now (no_row pair id now 1 rows (absent_is (has_id rows pair id) (accept_row rows pair id now) e))

pub expired : (rows : List Row) (pair : Pair) (id now : ℕ) → found.Expired ≡ accept_of rows pair id now → Lacking (row_taking rows pair id now)
expired rows pair id now e = untaken rows pair id now (expired_is (has_id rows pair id) (accept_row rows pair id now) e).1

-- the row is at its place
pub at_place : (rows : List Row) (pair : Pair) (id now n : ℕ) → found.Row n ≡ accept_of rows pair id now → (r : Row) × AtPlace rows n r
at_place rows pair id now n e =
    let a = accepted rows pair id now n e in
    (a.row, accepted_at rows pair id now n a.row a.is)

pub taken : (rows : List Row) (pair : Pair) (id now n : ℕ) (x : Row) → found.Row n ≡ accept_of rows pair id now → ((e : Row) → x ≡ get_or rows (n - 1) e)
    → row_taking rows pair id now ≡ Ok (record { number = n; row = x })
taken rows pair id now n x e at =
    let a = accepted rows pair id now n e in
    let same = same_row rows n a.row x (accepted_at rows pair id now n a.row a.is) at in
    rw (a.is, same) refl
