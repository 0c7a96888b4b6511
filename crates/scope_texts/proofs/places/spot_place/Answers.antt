use Rattle.std.proofs.Common.{◌≡◌, ℕ, suc, ◌+◌, List, length, drop, refl, sym, ap, ◌∙◌, arith}
use Rattle.std.specs.Prelude.{option_map, slice_range}
use Rattle.book_base.specs.Lines.{lines_of}
use Rattle.book_scope_texts.specs.Places.{spot_place}
use Rattle.scope_texts.proofs.PlaceLaws.{few_lines, no_place, place_here, place_later}
use Rattle.scope_texts.proofs.places.spot_place.Goals as goal

pub loop-cut-init : goal.loop-cut-init
unfolding spot_place
loop-cut-init c =
    let few = few_lines c.args.text.now in
    record { within = omega arith; so_far = refl; lines = omega (arith, few); node = omega arith; row = omega arith }

pub returns-then-is_spot : goal.returns-then-is_spot
returns-then-is_spot c =
    let text = c.args.text.now in
    let cut = c.in-Some.cut in
    rw c.blanks_length.ensures.length
    (place_here c.args.wanted (option_map (λ f. f.now) c.args.field) c.loop-cut.number c.loop-cut.spot c.spot_past-spot.result (slice_range text cut.first cut.after) c.line_key-key.result.now
    (lines_of (drop c.loop-cut.from text)) (lines_of (drop (cut.after + 1) text)) _ c.in-Some.ensures.parts c.line_key-key.ensures c.spot_past-spot.ensures.spot
    (sym c.is_spot.ensures ∙ c.if-is_spot.true) c.loop-cut.invariant.so_far)

pub loop-cut-preserved : goal.loop-cut-preserved
loop-cut-preserved c =
    let text = c.args.text.now in
    let cut = c.in-Some.cut in
    let kept = c.loop-cut.invariant in
    let place = c.past_line-from.ensures.place in
    let lines = kept.lines in
    let node = c.spot_past-spot.ensures.node in
    let row = c.spot_past-spot.ensures.row in
    let node_kept = kept.node in
    let row_kept = kept.row in
    let size : length (lines_of (drop c.loop-cut.from text)) ≡ suc (length (lines_of (drop (cut.after + 1) text))) = ap (λ (ls : List (List ℕ)). length ls) c.in-Some.ensures.parts in
    record {
      within = omega (arith, place);
      so_far = rw c.past_line-from.ensures.rest
          (place_later c.args.wanted (option_map (λ f. f.now) c.args.field) c.loop-cut.number c.loop-cut.spot c.spot_past-spot.result (slice_range text cut.first cut.after) c.line_key-key.result.now
          (lines_of (drop c.loop-cut.from text)) (lines_of (drop (cut.after + 1) text)) _ c.in-Some.ensures.parts c.line_key-key.ensures c.spot_past-spot.ensures.spot
          (sym c.is_spot.ensures ∙ c.if-is_spot.false) kept.so_far);
      lines = rw c.past_line-from.ensures.rest (omega (arith, size, lines));
      node = omega (arith, node, node_kept);
      row = omega (arith, row, row_kept);
    }

pub returns : goal.returns
returns c =
    no_place c.args.wanted (option_map (λ f. f.now) c.args.field) c.loop-cut.number c.loop-cut.spot (lines_of (drop c.loop-cut.from c.args.text.now)) _ c.in_default.ensures c.loop-cut.invariant.so_far
