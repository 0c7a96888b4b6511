-- A table that changed goes on fitting the live end.
use Rattle.std.proofs.Common.{◌≡◌, ℕ, List, Result, Ok, Err, sym, subst}
use Rattle.std.specs.Prelude.{Option}
use Rattle.book_keys.specs.declared.new_row.NoRow.{NoRow}
use Rattle.book_keys.specs.declared.new_row.AddRefusal.{AddRefusal}
use Rattle.book_keys.specs.declared.new_row.AddRefusal.TheVariants as refusal
use Rattle.book_keys.specs.Rows.{Row, Table}
use Rattle.book_keys.specs.Tables.{Addition, adding, withdrawn, Withdrawn}
use Rattle.tcp_endpoint.specs.declared.endpoint.Endpoint.{Endpoint}
use Rattle.tcp_endpoint.specs.Ends.{FitsEnd}
use Rattle.tcp_endpoint.proofs.FitLaws.{end_fits_added, end_fits_withdrawn}

-- where a row was added, or wasn't
pub fits_added_to : (old new : Table) (result : Result ℕ AddRefusal) (r : Row) (e : Endpoint) → Addition old new result (adding old.rows r)
    → FitsEnd old.rows e → FitsEnd new.rows e
fits_added_to old new (Ok n) r e s f =
    let rows : List Row = s.0 in
    subst (λ (t : Table). FitsEnd t.rows e) (sym s.2) (end_fits_added old.rows rows r n e s.1 f)
fits_added_to old new (Err refusal.Memory) r e s f = subst (λ (t : Table). FitsEnd t.rows e) (sym s) f
fits_added_to old new (Err refusal.TooMany) r e s f = subst (λ (t : Table). FitsEnd t.rows e) (sym s.1) f
fits_added_to old new (Err (refusal.Overlap n)) r e s f = subst (λ (t : Table). FitsEnd t.rows e) (sym s.1) f

-- where a row was withdrawn, or wasn't
pub fits_withdrawn_from : (old new : Table) (result : Result (Unit {0}) NoRow) (n : ℕ) (e : Endpoint) → Withdrawn old new result (withdrawn old.rows n)
    → FitsEnd old.rows e → FitsEnd new.rows e
fits_withdrawn_from old new (Ok u) n e s f =
    let rows : List Row = s.0 in
    subst (λ (t : Table). FitsEnd t.rows e) (sym s.2) (end_fits_withdrawn old.rows rows n e s.1 f)
fits_withdrawn_from old new (Err none) n e s f = subst (λ (t : Table). FitsEnd t.rows e) (sym s.1) f
