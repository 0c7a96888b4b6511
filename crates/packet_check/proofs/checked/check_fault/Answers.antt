use Rattle.std.proofs.Common.{None, Some, sym, ◌∙◌}
use Rattle.packet_check.proofs.ContentLaws.{cut_found, cut_read}
use Rattle.packet_check.proofs.checked.check_fault.Goals as goal

pub returns-in-None : goal.returns-in-None
returns-in-None c = λ s is.
    cut_found c.say_bad.result c.args.tables.now s c.args.fault c.args.bytes.now c.args.line.now.items _ None is (rw c.in-None.is at c.in_ok-found.ensures) (c.say_bad.ensures c.args.tables.now s is)

pub returns-in-Err : goal.returns-in-Err
returns-in-Err c = λ s is.
    let whole = rw c.in-Some.is at c.in_ok-found.ensures in
    let read = rw (← c.as_slice.ensures.value) at whole.1 in
    let impossible = sym c.in-Err.ensures.refused ∙ read in absurd (cc)

pub returns : goal.returns
returns c = λ s is.
    let whole = rw c.in-Some.is at c.in_ok-found.ensures in
    let read = rw (← c.as_slice.ensures.value) at whole.1 in
    cut_found c.say_cut.result c.args.tables.now s c.args.fault c.args.bytes.now c.args.line.now.items _ (Some c.in-Ok.datagram) is (cut_read c.args.bytes.now whole.0 c.in-Ok.datagram whole.2 (sym c.in-Ok.ensures.read ∙ read)) (c.say_cut.ensures s)
