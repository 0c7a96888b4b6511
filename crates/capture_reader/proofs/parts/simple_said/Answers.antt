use Rattle.std.proofs.Common.{◌+◌, ◌≤◌, length, sym, arith}
use Rattle.capture_reader.specs.Found.{seen_plain}
use Rattle.capture_reader.proofs.PartPlaces.{plain_lies, plain_is}
use Rattle.capture_reader.proofs.parts.simple_said.Goals as goal

pub returns-in-Ok-clause-exact : goal.returns-in-Ok-clause-exact
returns-in-Ok-clause-exact c =
    let lies = plain_lies c.args.order c.in-Some.interface.now.snapshot c.args.body.now (seen_plain c.in-Ok.packet) c.in-Ok.ensures in
    plain_is c.args.order c.args.kind c.args.interfaces.now c.in-Some.interface.now c.args.body.now (seen_plain c.in-Ok.packet) (sym c.in-Some.ensures.value) c.in-Ok.ensures lies.here

pub returns-in-Ok-clause-within : goal.returns-in-Ok-clause-within
returns-in-Ok-clause-within c =
    let lies = plain_lies c.args.order c.in-Some.interface.now.snapshot c.args.body.now (seen_plain c.in-Ok.packet) c.in-Ok.ensures in
    (omega arith, lies.within)
