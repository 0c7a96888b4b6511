-- The table of an end, as the book chooses it.
use Rattle.std.specs.Prelude.{◌≡◌, refl}
use Rattle.std.specs.Borrow.{Bor}
use Rattle.book_base.specs.declared.end.End.{End}
use Rattle.book_base.specs.declared.end.End.TheVariants.{A, B}
use Rattle.book_scope_plan.specs.CalendarTexts.{side_of}
use Rattle.both_ends.specs.declared.values.BothEnds.{BothEnds}
use Rattle.both_ends.specs.Values.{at}
use Rattle.key_table.specs.declared.table.Table.{Table}

-- what is shared at an end is one of the two
pub table_at : (end : End) (tables : BothEnds (Bor Table)) → (at end tables).now ≡ side_of end tables.a.now tables.b.now
table_at A tables = refl
table_at B tables = refl
