use Rattle.std.proofs.Common.{◌≡◌, ◌++◌, ◌+◌, drop}
use Rattle.book_cmd_link.specs.KeyTexts.{nodes_lines}
use Rattle.cmd_show.proofs.told_keys.keys_text.Given as goal

abbrev pub invariant-loop-i : goal.invariant-loop-i
invariant-loop-i l = l.out.items ++ nodes_lines l.time (l.i + 1) (drop l.i l.tables) ≡ nodes_lines l.time 1 l.tables
