use Rattle.std.proofs.Common.{◌≡◌, ◌+◌, ◌≤◌, drop}
use Rattle.book_scope_texts.specs.Places.{place_past}
use Rattle.scope_texts.proofs.places.place_behind.Given as goal

abbrev pub invariant-loop-byte : goal.invariant-loop-byte
invariant-loop-byte l = record {
  so_far : place_past l.place (drop l.byte-index l.text) ≡ place_past (record { line = 1; column = 1 }) l.text;
  line : l.place.line ≤ l.byte-index + 1;
  column : l.place.column ≤ l.byte-index + 1;
}
