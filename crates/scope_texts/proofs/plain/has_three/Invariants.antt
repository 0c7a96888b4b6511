use Rattle.std.proofs.Common.{◌≡◌, ◌≤◌, drop}
use Rattle.book_scope_texts.specs.Places.{has_three}
use Rattle.scope_texts.proofs.plain.has_three.Given as goal

abbrev pub invariant-loop-other : goal.invariant-loop-other
invariant-loop-other l = record {
  so_far : has_three l.byte l.seen (drop l.other-index l.text) ≡ has_three l.byte 0 l.text;
  few : l.seen ≤ 2;
}
