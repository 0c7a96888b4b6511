use Rattle.std.proofs.Common.{◌≡◌, ◌++◌}
use Rattle.book_segments.specs.Options.{options_of, listed, plains}
use Rattle.book_shim.specs.Relaying.{coming as come}
use Rattle.ao_shim.proofs.rewrite.coming.Given as goal
use Rattle.std.specs.Prelude.{flat_map}

abbrev pub invariant-loop-option : goal.invariant-loop-option
invariant-loop-option l =
    (goal.iterator-loop-option).can_next l.option-iterator ×
    (goal.iterator-loop-option).is_finite l.option-iterator ×
    (l.area ++ flat_map (come l.most) l.option-iterator ≡ flat_map (come l.most) (plains (listed (options_of l.options))))
