use Rattle.std.proofs.Common.{◌∙◌}
use Rattle.scope_why.proofs.FrontLaws.{mended_behind, whole_is}
use Rattle.scope_why.proofs.front.hear_stored.Goals as goal

pub returns-in-None-clause-stands : goal.returns-in-None-clause-stands
returns-in-None-clause-stands g c = λ b number stands.
    mended_behind c.hear_judged.result c.args.checker.now.tables c.hear_judged.new.checker.entries c.hear_judged.new.told.items b number c.args.stored.time c.args.stored.bytes.now c.args.stored.bytes.now
    (whole_is c.args.stored.bytes.now (rw c.in-None.is at c.in_ok-found.ensures)) (c.hear_judged.ensures.stands b number stands)

pub returns-in-Some-clause-stands : goal.returns-in-Some-clause-stands
returns-in-Some-clause-stands g c = λ b number stands.
    let h = rw c.in-Some.is at c.in_ok-found.ensures in
    mended_behind c.hear_judged-in-Some.result c.args.checker.now.tables c.hear_judged-in-Some.new.checker.entries c.hear_judged-in-Some.new.told.items b number c.args.stored.time c.args.stored.bytes.now c.as_slice.result.now
    (c.as_slice.ensures.value ∙ h.1) (c.hear_judged-in-Some.ensures.stands b number stands)
