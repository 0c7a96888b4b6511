use Rattle.std.proofs.Common.{◌≡◌, drop}
use Rattle.std.specs.Prelude.{None}
use Rattle.shim_pairs.proofs.EldestLaws.{lowest}
use Rattle.shim_pairs.proofs.eldest.eldest.Given as goal

abbrev pub invariant-loop-at : goal.invariant-loop-at
invariant-loop-at l = lowest l.oldest (drop l.at l.entries.entries) ≡ lowest None l.fn.entries.entries
