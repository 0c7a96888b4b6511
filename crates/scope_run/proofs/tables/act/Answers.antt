use Rattle.std.proofs.Common.{[], refl}
use Rattle.scope_run.proofs.tables.act.Goals as goal

pub returns-in-Err : goal.returns-in-Err
returns-in-Err g c = (
  record { keys = []; isns = []; input = [] },
  rw (← c.in-Err.ensures) (record { is = refl; keys = (refl, refl); isns = (refl, refl); input = (refl, refl); out = refl }),
)
