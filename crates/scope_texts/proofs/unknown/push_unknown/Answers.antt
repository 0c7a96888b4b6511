use Rattle.std.proofs.Common.{◌++◌, ◌∙◌, ap, map, string_bytes, List, ℕ}
use Rattle.book_scope_texts.specs.RowFindings.{unknown_findings}
use Rattle.scope_texts.proofs.KeyLaws.{keys_seen}
use Rattle.scope_texts.proofs.unknown.push_unknown.Goals as goal

pub loop-key-init : goal.loop-key-init
loop-key-init c =
    ap (λ (ks : List (List ℕ)). c.args.findings.now.items ++ unknown_findings (map (λ w. w.now) c.args.known.now) c.args.place.now ks)
    (ap (map (λ k. string_bytes k)) (c.into_iter-key-iterator.ensures.into_iter_gives ∙ c.keys-key-items.ensures.rest) ∙ keys_seen c.args.table.now.entries)
