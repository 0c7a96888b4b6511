use Rattle.std.proofs.Common.{arith}
use Rattle.std.proofs.lemmas.Int.{ints}
use Rattle.tcp_segment.proofs.Differences.{ahead_of_difference}
use Rattle.tcp_segment.proofs.ring.ahead.Goals as goal

pub returns : goal.returns
returns c = ahead_of_difference c.args.a c.args.b _ c.ranges.a.fits c.ranges.b.fits (omega (arith, ints))
