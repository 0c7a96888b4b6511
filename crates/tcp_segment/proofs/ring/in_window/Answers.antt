use Rattle.std.proofs.Common.{arith}
use Rattle.tcp_segment.proofs.Differences.{in_window_of, of_in_window}
use Rattle.tcp_segment.proofs.ring.in_window.Goals as goal

pub returns : goal.returns
returns c = (λ t. in_window_of c.args.seq c.args.start c.args.size c.ranges.seq.fits c.ranges.start.fits (grind arith), λ w. grind (arith, of_in_window c.args.seq c.args.start c.args.size c.ranges.seq.fits c.ranges.start.fits c.ranges.size.fits w))
