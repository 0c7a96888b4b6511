use Rattle.std.proofs.Common.{◌≡◌, ◌++◌, map, string_bytes}
use Rattle.toml.specs.View.{table_view}
use Rattle.book_scope_texts.specs.RowFindings.{keys_in, unknown_findings}
use Rattle.scope_texts.proofs.unknown.push_unknown.Given as goal

abbrev pub invariant-loop-key : goal.invariant-loop-key
invariant-loop-key l =
    l.findings.items ++ unknown_findings (map (λ w. w.now) l.known) l.place (map (λ k. string_bytes k) l.key-iterator)
    ≡ l.fn.findings.items ++ unknown_findings (map (λ w. w.now) l.known) l.place (keys_in (table_view l.table))
