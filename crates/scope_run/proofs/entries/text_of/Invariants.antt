use Rattle.std.proofs.Common.{◌≡◌, drop}
use Rattle.scope_run.specs.Meanings.{pairs, text_of}
use Rattle.scope_run.proofs.entries.text_of.Given as goal

abbrev pub invariant-loop-entry : goal.invariant-loop-entry
invariant-loop-entry l =
    text_of l.name (pairs (drop l.entry-index l.given)) ≡ text_of l.name (pairs l.given)
