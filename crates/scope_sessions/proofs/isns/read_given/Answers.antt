use Rattle.std.proofs.Common.{◌∙◌}
use Rattle.std.proofs.lemmas.Result.{err_from_is_err_and}
use Rattle.scope_sessions.proofs.GivenLaws.{count_refused, few_by}
use Rattle.scope_sessions.proofs.isns.read_given.Goals as goal

pub returns-in_err-_count : goal.returns-in_err-_count
returns-in_err-_count c =
    let p = err_from_is_err_and c.from_residual.result c.from_residual.ensures.1 in
    rw (p.1, p.2) (count_refused c.args.text.now c.in_err-_count.field-0.0 c.in_err-_count.ensures.counted c.in_err-_count.ensures.few)

pub returns-in-Ok : goal.returns-in-Ok
returns-in-Ok c =
    few_by c.args.text.now c.in_ok-_count._count c.in_ok-_count.ensures.counted c.in_ok-_count.ensures.few ∙ (rw c.new.ensures at c.in-Ok.ensures)

pub returns-in-Err : goal.returns-in-Err
returns-in-Err c =
    rw (few_by c.args.text.now c.in_ok-_count._count c.in_ok-_count.ensures.counted c.in_ok-_count.ensures.few) (rw c.new.ensures at c.in-Err.ensures)
