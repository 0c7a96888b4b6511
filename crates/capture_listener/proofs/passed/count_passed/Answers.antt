use Rattle.std.proofs.Common.{◌∙◌, sym, arith}
use Rattle.capture_listener.proofs.ReasonLaws.{reason_counted, reason_new}
use Rattle.capture_listener.proofs.passed.count_passed.Goals as goal

pub returns-then-place-len-clause-counted : goal.returns-then-place-len-clause-counted
returns-then-place-len-clause-counted c =
    let place = rw c.as_slice.ensures.value at c.place_of_reason-place.ensures in
    c.in_ok-push.ensures.items ∙ sym (reason_new c.args.why c.args.passed.now.items (omega (arith, place, c.len.ensures, c.if-place-len.true)))

pub returns-clause-counted : goal.returns-clause-counted
returns-clause-counted c =
    let place = rw c.as_slice.ensures.value at c.place_of_reason-place.ensures in
    let sum = rw c.in_ok-packets.ensures.ok_part at c.checked_add.ensures in
    reason_counted c.args.why c.args.passed.now.items c.place_of_reason-place.result c.index-before.result.now c.in_ok-packets.packets place (omega (arith, c.len.ensures, c.if-place-len.false)) c.index-before.ensures sum.1
