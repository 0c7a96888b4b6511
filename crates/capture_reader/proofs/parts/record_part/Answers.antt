use Rattle.std.proofs.Common.{◌+◌, ◌≤◌, length, refl, ap, sym, ◌∙◌, arith}
use Rattle.capture_reader.specs.Found.{seen_record}
use Rattle.capture_reader.proofs.PartPlaces.{record_lies, record_is}
use Rattle.capture_reader.proofs.parts.record_part.Goals as goal

pub overflow_add-size : goal.overflow_add-size
overflow_add-size c =
    let lies = record_lies c.args.head c.args.text.now (seen_record c.in-Ok.record) c.in-Ok._rest.now c.in-Ok.ensures in
    let within = lies.within in omega (arith, c.type_inv.text)

pub returns-in-Ok-clause-exact : goal.returns-in-Ok-clause-exact
returns-in-Ok-clause-exact c =
    let lies = record_lies c.args.head c.args.text.now (seen_record c.in-Ok.record) c.in-Ok._rest.now c.in-Ok.ensures in
    record_is c.args.head c.args.text.now (seen_record c.in-Ok.record) c.in-Ok._rest.now c.in-Ok.ensures lies.here

pub returns-in-Ok-clause-within : goal.returns-in-Ok-clause-within
returns-in-Ok-clause-within c =
    let lies = record_lies c.args.head c.args.text.now (seen_record c.in-Ok.record) c.in-Ok._rest.now c.in-Ok.ensures in
    (lies.within, (omega arith, omega arith))
