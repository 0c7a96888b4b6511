use Rattle.std.proofs.Common.{[], refl}
use Rattle.scope_run.proofs.check.act.Goals as goal

pub returns-in-Ok : goal.returns-in-Ok
returns-in-Ok g c =
    let judged = c.in-Ok.ensures in
    let rest = rw c.as_slice.ensures.value at c.write_lines.ensures in
    (record { keys = judged.0; isns = judged.1; input = rest.0 }, (_, judged.2, rest.1))

pub returns-in-Err : goal.returns-in-Err
returns-in-Err g c =
    let judged = c.in-Err.ensures in
    (record { keys = judged.0; isns = judged.1; input = [] }, (_, judged.2, record { is = refl; input = (refl, refl); out = refl }))
