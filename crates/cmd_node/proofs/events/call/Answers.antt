use Rattle.std.proofs.Common.{sym, refl}
use Rattle.cmd_node.proofs.StepLaws.{called_reaches}
use Rattle.cmd_node.proofs.events.call.Goals as goal

pub returns-in_ok-act_on-in-Some-clause-reached : goal.returns-in_ok-act_on-in-Some-clause-reached
returns-in_ok-act_on-in-Some-clause-reached g c = λ n S.
    let e = c.in-Some.end.now in
    called_reaches c.args.table.now.rows c.args.node.now _ c.args.clock n c.args.pair.now e.pair c.args.act.now c.act_on.new.room c.in_ok-act_on-in-Some.field-0
    e c.act_on.new.end S (sym c.in-Some.ensures.end) refl refl c.in_ok-act_on-in-Some.ensures.acted c.act_on.ensures.pair c.act_on.ensures.fits
