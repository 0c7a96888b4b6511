use Rattle.std.proofs.Common.{◌≡◌, ◌≤◌, drop}
use Rattle.book_scope_texts.specs.Suggestions.{parted}
use Rattle.scope_texts.proofs.suggestions.common_length.Given as goal

abbrev pub invariant-loop-at : goal.invariant-loop-at
invariant-loop-at l = record {
  so_far : parted (drop l.at l.one) (drop l.at l.other) ≡ parted l.one l.other;
  within : l.at ≤ l.most;
}
