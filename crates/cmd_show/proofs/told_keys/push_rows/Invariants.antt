use Rattle.std.proofs.Common.{◌≡◌, ◌++◌, ◌+◌, drop}
use Rattle.book_cmd_link.specs.KeyTexts.{row_lines}
use Rattle.cmd_show.proofs.told_keys.push_rows.Given as goal

abbrev pub invariant-loop-i : goal.invariant-loop-i
invariant-loop-i l = l.out.items ++ row_lines l.time (l.i + 1) (drop l.i l.rows) ≡ l.fn.out.items ++ row_lines l.time 1 l.rows
