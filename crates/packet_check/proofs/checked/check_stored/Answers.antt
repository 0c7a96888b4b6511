use Rattle.std.proofs.Common.{◌∙◌}
use Rattle.packet_check.proofs.ContentLaws.{mended_checked, whole_is}
use Rattle.packet_check.proofs.checked.check_stored.Goals as goal

pub returns-in-None-clause-checks : goal.returns-in-None-clause-checks
returns-in-None-clause-checks g c = λ held number stands.
    mended_checked c.check_judged.result c.args.checker.now.tables held _ c.args.line.now.items _ number c.args.stored.time c.args.stored.bytes.now c.args.stored.bytes.now
    (whole_is c.args.stored.bytes.now (rw c.in-None.is at c.in_ok-found.ensures)) (c.check_judged.ensures.checks held number stands)

pub returns-in-Some-clause-checks : goal.returns-in-Some-clause-checks
returns-in-Some-clause-checks g c = λ held number stands.
    let h = rw c.in-Some.is at c.in_ok-found.ensures in
    mended_checked c.check_judged-in-Some.result c.args.checker.now.tables held _ c.args.line.now.items _ number c.args.stored.time c.args.stored.bytes.now c.as_slice.result.now
    (c.as_slice.ensures.value ∙ h.1) (c.check_judged-in-Some.ensures.checks held number stands)
