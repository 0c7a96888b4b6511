use Rattle.std.proofs.Common.{◌≡◌}
use Rattle.std.specs.List.{list_any}
use Rattle.book_segments.specs.Options.{options_of, listed, plains}
use Rattle.book_sessions.specs.Sessions.{is_md5}
use Rattle.scope_ladder.proofs.protections.carries_md5.Given as goal

abbrev pub invariant-loop-option : goal.invariant-loop-option
invariant-loop-option l =
    (goal.iterator-loop-option).can_next l.option-iterator ×
    (goal.iterator-loop-option).is_finite l.option-iterator ×
    (list_any is_md5 l.option-iterator ≡ list_any is_md5 (plains (listed (options_of l.datagram.area))))
