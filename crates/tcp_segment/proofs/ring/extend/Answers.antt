use Rattle.std.proofs.Common.{arith, refl}
use Rattle.tcp_segment.proofs.Differences.{above_found, above_none, below_found, below_none}
use Rattle.tcp_segment.proofs.ring.extend.Goals as goal

pub returns-then-ahead-lt-HALF-clause-found : goal.returns-then-ahead-lt-HALF-clause-found
returns-then-ahead-lt-HALF-clause-found c =
    above_found c.args.seq c.args.expected c.from.result c.checked_add.result c.ranges.expected.fits (omega arith) (omega arith) c.checked_add.ensures

pub returns-then-ahead-lt-HALF-clause-none : goal.returns-then-ahead-lt-HALF-clause-none
returns-then-ahead-lt-HALF-clause-none c =
    above_none c.args.seq c.args.expected c.from.result c.checked_add.result c.ranges.expected.fits (omega arith) (omega arith) c.checked_add.ensures

pub returns-else-ahead-lt-HALF-clause-found : goal.returns-else-ahead-lt-HALF-clause-found
returns-else-ahead-lt-HALF-clause-found c =
    below_found c.args.seq c.args.expected _ c.from-else-ahead-lt-HALF.result c.checked_sub.result refl c.if-ahead-lt-HALF.false (omega arith) c.checked_sub.ensures

pub returns-else-ahead-lt-HALF-clause-none : goal.returns-else-ahead-lt-HALF-clause-none
returns-else-ahead-lt-HALF-clause-none c =
    below_none c.args.seq c.args.expected _ c.from-else-ahead-lt-HALF.result c.checked_sub.result refl c.if-ahead-lt-HALF.false (omega arith) c.checked_sub.ensures
