-- Tables that fit an end go on fitting.
use Rattle.std.proofs.Common.{◌≡◌, ◌<◌, ℕ, false, List, length, Some, arith}
use Rattle.std.specs.Prelude.{nat_le}
use Rattle.std.proofs.lemmas.Bool.Decides.{nat_tests}
use Rattle.book_keys.specs.Rows.{Row}
use Rattle.book_keys.specs.Tables.{adding, AddedAs, withdrawn}
use Rattle.book_keys.proofs.TableLaws.{added_rows}
use Rattle.ao_check.proofs.FitLaws.{fits_added, fits_withdrawn}
use Rattle.tcp_endpoint.specs.declared.endpoint.Endpoint.{Endpoint}
use Rattle.tcp_endpoint.specs.Ends.{FitsEnd}

below : (n room : ℕ) → nat_le 64 n ≡ false → room ≡ 64 → n < room
below n room h e = grind (arith, nat_tests, e)

pub end_fits_added : (rows new : List Row) (r : Row) (n : ℕ) (e : Endpoint) → adding rows r ≡ AddedAs n new → FitsEnd rows e → FitsEnd new e
end_fits_added rows new r n e is fits =
    let low = below (length rows) e.association.keys.rows (added_rows rows r n new is).2 e.bound.room in
    fits_added rows new r n e.association is low fits

pub end_fits_withdrawn : (rows new : List Row) (n : ℕ) (e : Endpoint) → withdrawn rows n ≡ Some new → FitsEnd rows e → FitsEnd new e
end_fits_withdrawn rows new n e is fits = fits_withdrawn rows new n e.association is fits
