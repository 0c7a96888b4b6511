use Rattle.std.proofs.Common.{◌≡◌, ◌≤◌, ◌+◌, ◌*◌, drop}
use Rattle.book_scope_texts.specs.FileFindings.{row_total}
use Rattle.scope_keys.proofs.file.row_total.Given as goal

abbrev pub invariant-loop-i : goal.invariant-loop-i
invariant-loop-i l = (l.total + row_total (drop l.i l.tables) ≡ row_total l.tables) × (l.total ≤ 64 * l.i)
