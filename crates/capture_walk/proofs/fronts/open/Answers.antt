use Rattle.std.proofs.Common.{[]}
use Rattle.capture_walk.proofs.FrontFinds.{opened_before, opened_ended, opened_enough}
use Rattle.capture_walk.proofs.fronts.open.Goals as goal

pub returns-in-Some : goal.returns-in-Some
returns-in-Some g c =
    ([], rw c.in-Some.is (opened_before c.in-Some.format c.args.interfaces.now c.args.buffer.now _ (rw c.kept-kept.ensures.value at c.kept-kept.ensures.fits)))

pub returns-in-Enough : goal.returns-in-Enough
returns-in-Enough g c =
    (c.in-Enough.ensures.0, rw c.in_default.is (opened_enough c.args.interfaces.now _ c.fill.new.buffer _ _ _ _ c.open_here-in-Enough.result (c.requires.first c.in_default.is) c.in-Enough.ensures.1 c.open_here-in-Enough.ensures))
