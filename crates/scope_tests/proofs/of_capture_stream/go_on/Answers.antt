use Rattle.std.proofs.Common.{arith}
use Rattle.scope_tests.proofs.of_capture_stream.go_on.Goals as goal

pub parts-smaller-in-Ok-Block : goal.parts-smaller-in-Ok-Block
parts-smaller-in-Ok-Block c =
    let more = rw c.in-Ok-Block.field-0-is at c.in-Ok-Block.ensures.steps in
    let passes = more.1.answers.1 in
    omega (arith, passes.some, passes.bytes, passes.within)

pub parts-preserved-in-Ok-Block : goal.parts-preserved-in-Ok-Block
parts-preserved-in-Ok-Block c =
    let more = rw c.in-Ok-Block.field-0-is at c.in-Ok-Block.ensures.steps in
    more.1.answers.1.going

pub parts-smaller : goal.parts-smaller
parts-smaller c =
    let more = rw c.in-Ok-Packet.field-0-is at c.in-Ok-Packet.ensures.steps in
    let passes = more.1.answers.1 in
    omega (arith, passes.some, passes.bytes, passes.within)

pub parts-preserved : goal.parts-preserved
parts-preserved c =
    let more = rw c.in-Ok-Packet.field-0-is at c.in-Ok-Packet.ensures.steps in
    more.1.answers.1.going
