use Rattle.std.proofs.Common.{[], refl}
use Rattle.scope_run.proofs.Given.{draws_without, echoes_without}
use Rattle.scope_run.proofs.top.act.Goals as goal

pub returns-in-Lines : goal.returns-in-Lines
returns-in-Lines g c =
    let rest = c.act.ensures in
    (record { keys = []; isns = []; input = rest.0 }, rw c.in-Lines.is ((refl, refl), ((refl, refl), rest.1)))

pub returns-in-Keys : goal.returns-in-Keys
returns-in-Keys g c =
    let rest = c.act-in-Keys.ensures in
    (record { keys = rest.0; isns = []; input = [] }, rw c.in-Keys.is ((refl, refl), ((refl, refl), rest.1)))

pub returns-in-Plan : goal.returns-in-Plan
returns-in-Plan g c =
    let rest = c.act-in-Plan.ensures (g.J.Source.side c.args.isns.now) in
    (rest.0, rw c.in-Plan.is rest.1)

pub returns-in-Draw : goal.returns-in-Draw
returns-in-Draw g c =
    let rest = c.act-in-Draw.ensures (g.J.Source.side c.args.isns.now) in
    (record { keys = rest.0.keys; isns = []; input = rest.0.input }, rw c.in-Draw.is ((refl, refl), draws_without c.in-Draw.asked.has_keys _ rest.0 _ _ _ rest.1))

pub returns-in-Echo : goal.returns-in-Echo
returns-in-Echo g c =
    let rest = c.act-in-Echo.ensures (g.J.Source.side c.args.isns.now) in
    (record { keys = rest.0.keys; isns = []; input = rest.0.input }, rw c.in-Echo.is ((refl, refl), echoes_without c.in-Echo.asked.has_keys rest.0 _ _ _ rest.1))
