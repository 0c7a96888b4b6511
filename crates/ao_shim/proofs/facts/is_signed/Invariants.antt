use Rattle.std.proofs.Common.{◌≡◌}
use Rattle.std.specs.List.{list_any}
use Rattle.book_segments.specs.Options.{options_of, listed, plains}
use Rattle.book_shim.specs.Leaving.{signs}
use Rattle.ao_shim.proofs.facts.is_signed.Given as goal

abbrev pub invariant-loop-option : goal.invariant-loop-option
invariant-loop-option l =
    (goal.iterator-loop-option).can_next l.option-iterator ×
    (goal.iterator-loop-option).is_finite l.option-iterator ×
    (list_any signs l.option-iterator ≡ list_any signs (plains (listed (options_of l.options))))
