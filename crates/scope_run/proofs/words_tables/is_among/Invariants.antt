use Rattle.std.proofs.Common.{◌≡◌, drop, map}
use Rattle.std.specs.List.{list_any}
use Rattle.std.specs.Str.{bytes_eq}
use Rattle.scope_run.proofs.words_tables.is_among.Given as goal

abbrev pub invariant-loop-name : goal.invariant-loop-name
invariant-loop-name l =
    list_any (λ n. bytes_eq l.text n) (map (λ n. n.now) (drop l.name-index l.names))
    ≡ list_any (λ n. bytes_eq l.text n) (map (λ n. n.now) l.names)
