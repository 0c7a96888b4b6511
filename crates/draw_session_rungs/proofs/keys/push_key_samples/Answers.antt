use Rattle.std.proofs.Common.{drop}
use Rattle.draw_session_rungs.proofs.Parts.{samples_end}
use Rattle.draw_session_rungs.proofs.keys.push_key_samples.Goals as goal

pub returns-then-place-ge-MOST_SAMPLES : goal.returns-then-place-ge-MOST_SAMPLES
returns-then-place-ge-MOST_SAMPLES c =
    samples_end c.loop-place.out.items _ c.loop-place.place (drop c.loop-place.place c.args.keys.now) c.if-place-ge-MOST_SAMPLES.true c.loop-place.invariant
