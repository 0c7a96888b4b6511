use Rattle.std.proofs.Common.{◌≡◌}
use Rattle.book_segments.specs.Options.{options_of, listed, plains}
use Rattle.tcp_segment.proofs.KindLaws.{mss_plain}
use Rattle.tcp_segment.proofs.options.Options.mss.Given as goal

abbrev pub invariant-loop-option : goal.invariant-loop-option
invariant-loop-option l =
    (goal.iterator-loop-option).can_next l.option-iterator ×
    (goal.iterator-loop-option).is_finite l.option-iterator ×
    (mss_plain l.option-iterator ≡ mss_plain (plains (listed (options_of l.fn.self))))
