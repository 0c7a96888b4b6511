use Rattle.std.proofs.Common.{[], refl}
use Rattle.scope_run.proofs.Given.{is_asked, not_asked}
use Rattle.scope_run.proofs.echo.act.Goals as goal

pub returns-then-not-asked : goal.returns-then-not-asked
returns-then-not-asked g c = λ isns.
    let rest = c.echo_shared.ensures in
    (record { keys = []; isns = []; input = rest.0 }, rw (not_asked c.args.asked.has_keys c.if-not-asked.true) ((refl, refl), rest.1))

pub returns-in-Ok : goal.returns-in-Ok
returns-in-Ok g c = λ isns.
    let file = c.in-Ok.ensures in
    let rest = c.echo_over.ensures in
    (record { keys = file.0; isns = []; input = rest.0 }, rw (is_asked c.args.asked.has_keys c.if-not-asked.false) (_, file.1, rest.1))

pub returns-in-Err : goal.returns-in-Err
returns-in-Err g c = λ isns.
    let file = c.in-Err.ensures in
    (record { keys = file.0; isns = []; input = [] }, rw (is_asked c.args.asked.has_keys c.if-not-asked.false) (_, file.1, record { is = refl; input = (refl, refl); out = refl }))
