use Rattle.std.proofs.Common.{◌<◌, ◌^◌, refl, rules}
use Rattle.tcp_segment.specs.Counter.{number}
use Rattle.tcp_endpoint.proofs.RingLaws.{expected_test}
use Rattle.tcp_endpoint.proofs.windows.is_expected.Goals as goal

pub returns : goal.returns
returns c = λ n m.
    let x = c.args.expected in
    let low : x.low < 2 ^ 32 = search rules in
    expected_test c.args.sequence x.low x.extension (number x) n refl low c.ranges.sequence.fits m
