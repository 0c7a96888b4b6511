use Rattle.std.proofs.Common.{[], refl}
use Rattle.scope_run.proofs.plan.act.Goals as goal

pub returns-in-Err : goal.returns-in-Err
returns-in-Err g c = λ isns. (
  record { keys = []; isns = []; input = [] },
  rw (← c.in-Err.ensures) (record { is = refl; keys = (refl, refl); isns = (refl, refl); input = (refl, refl); out = refl }),
)

pub returns-in-Ok : goal.returns-in-Ok
returns-in-Ok g c = λ isns.
    let rest = c.read_and_answer.ensures isns in
    (rest.0, rw (← c.in-Ok.ensures) (rw c.form_of.ensures at rest.1))
