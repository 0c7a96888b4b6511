use Rattle.std.proofs.Common.{[], refl}
use Rattle.scope_run.proofs.plan.read_and_answer.Goals as goal

pub returns-in-Ok : goal.returns-in-Ok
returns-in-Ok g c = λ isns.
    let file = c.in-Ok.ensures in
    let rest = c.answer_by.ensures in
    (record { keys = file.0; isns = []; input = rest.0 }, ((refl, refl), (_, file.1, rest.1)))

pub returns-in-Err : goal.returns-in-Err
returns-in-Err g c = λ isns.
    let file = c.in-Err.ensures in
    (record { keys = file.0; isns = []; input = [] }, ((refl, refl), (_, file.1, record { is = refl; input = (refl, refl); out = refl })))
