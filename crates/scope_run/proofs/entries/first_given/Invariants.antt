use Rattle.std.proofs.Common.{◌≡◌, drop, map}
use Rattle.std.specs.List.{find}
use Rattle.scope_run.specs.Meanings.{has, pairs}
use Rattle.scope_run.proofs.entries.first_given.Given as goal

abbrev pub invariant-loop-name : goal.invariant-loop-name
invariant-loop-name l =
    find (λ n. has n (pairs l.given)) (map (λ n. n.now) (drop l.name-index l.names))
    ≡ find (λ n. has n (pairs l.given)) (map (λ n. n.now) l.names)
