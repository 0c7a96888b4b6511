use Rattle.std.proofs.Common.{ap, ◌∙◌, arith, rules}
use Rattle.std.proofs.lemmas.Int.{to_z-of_z}
use Rattle.std.specs.Int.{w64}
use Rattle.book_segments.specs.Meant.{meant}
use Rattle.tcp_endpoint.proofs.RingLaws.{ahead_is}
use Rattle.tcp_endpoint.proofs.segment_arrives.acknowledged_by.Goals as goal

pub returns : goal.returns
returns c =
    let a = c.args.acknowledgement in
    let una = c.args.una in
    let distance = c.ahead.result in
    ahead_is c.checked_add_signed.result a una.low una.extension c.value.result distance _ c.ranges.acknowledgement.fits c.value.ensures (omega (arith, c.requires, c.value.ensures)) c.ahead.ensures (to_z-of_z w64 distance (search rules)) c.checked_add_signed.ensures
    ∙ ap (meant a) c.value.ensures
