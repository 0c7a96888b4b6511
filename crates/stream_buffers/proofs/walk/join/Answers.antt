use Rattle.std.proofs.Common.{arith}
use Rattle.stream_buffers.proofs.Joining.{made_short, joined_ready, joined_kept}
use Rattle.stream_buffers.proofs.walk.join.Goals as goal

pub returns-then-low-expected-clause-joined : goal.returns-then-low-expected-clause-joined
returns-then-low-expected-clause-joined g c = λ before x after e r.
    joined_ready (c.absorb-span.ensures before x after e r) c.if-low-expected.true c.remove.new.self c.remove.ensures.rest

pub of-requires-clause-short : goal.of-requires-clause-short
of-requires-clause-short g c =
    let r = c.requires.reached in
    made_short (c.absorb-span.ensures r.before r.run r.after r.parts r.reached) r.reached c.requires.begins

pub returns-clause-joined : goal.returns-clause-joined
returns-clause-joined g c = λ before x after e r.
    joined_kept (c.absorb-span.ensures before x after e r) (omega (arith, c.requires.begins, c.if-low-expected.false)) c.of.result c.of.ensures c.set.new.self c.set.ensures.item
