use Rattle.std.proofs.Common.{[]}
use Rattle.scope_ladder.specs.Drawing.{request_of}
use Rattle.scope_ladder.proofs.Walk.{ends_none, no_text, stands_first, writes_by}
use Rattle.scope_ladder.proofs.draw.draw_session.Goals as goal

pub returns-in-Err : goal.returns-in-Err
returns-in-Err g c = ([], ends_none (request_of c.args.asked c.args.tables c.args.isns.now) _ _)

pub returns-in-Err-new : goal.returns-in-Err-new
returns-in-Err-new g c = ([], ends_none (request_of c.args.asked c.args.tables c.args.isns.now) _ _)

pub walk-walked-requires : goal.walk-walked-requires
walk-walked-requires g c = c.in-Ok.ensures

pub returns : goal.returns
returns g c =
    let q = request_of c.args.asked c.args.tables c.args.isns.now in
    let walked = c.walk-walked.ensures q (stands_first q c.in-Ok-new.drawer c.in-Ok-new.ensures) (no_text q) in
    (walked.0, writes_by q c.walk-walked.new.hearer _ walked.0 _ _ _ _ _ _ _ walked.1 c.finish.ensures)
