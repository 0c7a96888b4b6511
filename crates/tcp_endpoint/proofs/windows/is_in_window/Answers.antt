use Rattle.std.proofs.Common.{refl}
use Rattle.tcp_segment.specs.Counter.{number}
use Rattle.tcp_endpoint.proofs.RingLaws.{window_test}
use Rattle.tcp_endpoint.proofs.windows.is_in_window.Goals as goal

pub returns : goal.returns
returns c = λ n m.
    let x = c.args.expected in
    window_test c.in_window.result _ c.args.sequence x.low x.extension (number x) n c.args.ahead c.args.window refl c.ranges.sequence.fits refl c.requires c.ranges.window.fits m (rw c.from.ensures at c.in_window.ensures)
