-- A table is lent, and written.
use Rattle.std.specs.Prelude.{ℕ, ◌+◌, Option, List, [], ◌∷◌, slice_set, if◌then◌else◌}
use Rattle.std.specs.Borrow.{LendsIf, MutBor, Fml}
use Rattle.book_base.specs.declared.address.Address.{Address}
use Rattle.book_keys.specs.Rows.{Table, has_address}
use Rattle.key_table.specs.contracts.tables.Tables.{the_row}
use Rattle.key_table.specs.contracts.table.Table.{the_row as table_row}

-- the place of the first table of this address, from 0; their number where there is none
abbrev pub place_of : Address → List Table → ℕ
place_of address [] = 0
place_of address (t ∷ ts) = if has_address address t then 0 else place_of address ts + 1

-- the tables after the loan are those with what was written at this place
abbrev pub LendsAt : MutBor (List Table) → ℕ → Option (MutBor Table) → Fml
LendsAt s at r = LendsIf the_row table_row s r (λ w. slice_set s.now at w) s.now
