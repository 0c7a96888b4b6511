use Rattle.std.proofs.Common.{◌≡◌, ◌+◌, ◌≤◌, drop, length}
use Rattle.std.specs.Prelude.{option_map}
use Rattle.book_base.specs.Lines.{lines_of}
use Rattle.book_scope_texts.specs.Places.{place_among, spot_place}
use Rattle.scope_texts.proofs.places.spot_place.Given as goal

abbrev pub invariant-loop-cut : goal.invariant-loop-cut
invariant-loop-cut l = record {
  within : l.from ≤ length l.text;
  so_far : place_among l.wanted (option_map (λ f. f.now) l.field) l.number l.spot (lines_of (drop l.from l.text)) ≡ spot_place l.wanted (option_map (λ f. f.now) l.field) l.text;
  lines : l.number + length (lines_of (drop l.from l.text)) ≤ length l.text;
  node : l.spot.node ≤ l.number;
  row : l.spot.row ≤ l.number;
}

abbrev pub decreases-loop-cut : goal.decreases-loop-cut
decreases-loop-cut l = length (lines_of (drop l.from l.text))
