use Rattle.std.proofs.Common.{◌≡◌, ◌++◌, map}
use Rattle.book_lines.specs.Texts.{spaced}
use Rattle.book_cmd_check.specs.DatagramTexts.{option_text}
use Rattle.cmd_show.proofs.datagram_text.push_others.Given as goal

abbrev pub invariant-loop-option : goal.invariant-loop-option
invariant-loop-option l =
    (goal.iterator-loop-option).can_next l.options ×
    (goal.iterator-loop-option).is_finite l.options ×
    (l.out.items ++ spaced (map option_text l.options) ≡ l.fn.out.items ++ spaced (map option_text l.fn.options))
