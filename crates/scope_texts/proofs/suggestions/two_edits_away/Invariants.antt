use Rattle.std.proofs.Common.{◌≡◌, drop, map}
use Rattle.std.specs.List.{find}
use Rattle.book_scope_texts.specs.Suggestions.{is_edit_within}
use Rattle.scope_texts.proofs.suggestions.two_edits_away.Given as goal

abbrev pub invariant-loop-known_word : goal.invariant-loop-known_word
invariant-loop-known_word l =
    find (λ k. is_edit_within 2 l.word k) (map (λ w. w.now) (drop l.known_word-index l.known))
    ≡ find (λ k. is_edit_within 2 l.word k) (map (λ w. w.now) l.known)
