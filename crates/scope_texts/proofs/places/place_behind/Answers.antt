use Rattle.std.proofs.Common.{arith}
use Rattle.scope_texts.proofs.PlaceLaws.{no_byte, one_byte}
use Rattle.scope_texts.proofs.places.place_behind.Goals as goal

pub loop-byte-preserved : goal.loop-byte-preserved
loop-byte-preserved c =
    let past = c.past_byte-place.ensures in
    let kept = c.loop-byte.invariant in
    let line = past.line in
    let column = past.column in
    let line_kept = kept.line in
    let column_kept = kept.column in
    record {
      so_far = one_byte c.loop-byte.place c.past_byte-place.result _ c.args.text.now c.loop-byte.byte-index c.loop-byte-test.true past.place kept.so_far;
      line = omega (arith, line, line_kept);
      column = omega (arith, column, column_kept);
    }

pub returns : goal.returns
returns c = no_byte c.loop-byte.place _ c.args.text.now c.loop-byte.byte-index c.loop-byte-test.false c.loop-byte.invariant.so_far
