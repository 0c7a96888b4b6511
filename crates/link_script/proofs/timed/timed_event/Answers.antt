use Rattle.std.proofs.Common.{sym, ◌∙◌}
use Rattle.std.proofs.lemmas.Result.{err_from_is_err_and}
use Rattle.link_script.proofs.TimedWords.{is_wait, isnt_wait}
use Rattle.link_script.proofs.timed.timed_event.Goals as goal

pub returns-in_err-wait-in-Ok : goal.returns-in_err-wait-in-Ok
returns-in_err-wait-in-Ok c =
    let p = err_from_is_err_and c.from_residual.result c.from_residual.ensures.1 in
    let here = is_wait c.args.words.now c.literal.new.self (rw c.ahead-behind.ensures at c.in-Ok.ensures) in
    rw (p.1, p.2) (here ∙ sym c.in_err-wait-in-Ok.ensures)

pub returns-in_ok-wait-in-Ok : goal.returns-in_ok-wait-in-Ok
returns-in_ok-wait-in-Ok c =
    is_wait c.args.words.now c.literal.new.self (rw c.ahead-behind.ensures at c.in-Ok.ensures) ∙ sym c.in_ok-wait-in-Ok.ensures

pub returns-in-Err : goal.returns-in-Err
returns-in-Err c =
    rw (isnt_wait c.args.words.now c.in-Err.field-0 (rw c.ahead-behind.ensures at c.in-Err.ensures)) c.plain.ensures
