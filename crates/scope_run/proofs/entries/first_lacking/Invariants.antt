use Rattle.std.proofs.Common.{◌≡◌, drop, map}
use Rattle.scope_run.specs.Meanings.{pairs}
use Rattle.scope_run.specs.Steps.{first_lacking}
use Rattle.scope_run.proofs.entries.first_lacking.Given as goal

abbrev pub invariant-loop-name : goal.invariant-loop-name
invariant-loop-name l =
    first_lacking (map (λ n. n.now) (drop l.name-index l.names)) (pairs l.given)
    ≡ first_lacking (map (λ n. n.now) l.names) (pairs l.given)
