use Rattle.std.proofs.Common.{◌≡◌, ◌++◌, drop}
use Rattle.std.specs.Prelude.{flat_map}
use Rattle.book_scope_plan.specs.Bars.{slice_mark}
use Rattle.draw_plan.proofs.wrong.push_wrong_bytes.Given as goal

abbrev pub invariant-loop-slice : goal.invariant-loop-slice
invariant-loop-slice l =
    l.out.items ++ flat_map (slice_mark l.ends.tables.a.now l.ends.tables.b.now l.ends.pair l.findings) (drop l.slice-index l.slices)
    ≡ l.fn.out.items ++ flat_map (slice_mark l.ends.tables.a.now l.ends.tables.b.now l.ends.pair l.findings) l.slices
