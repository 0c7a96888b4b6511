use Rattle.std.proofs.Common.{[], Ok, Err}
use Rattle.std.proofs.lemmas.Result.{err_from_is_err_and}
use Rattle.toml.specs.View.{table_view}
use Rattle.scope_sessions.specs.Reading.{series_of}
use Rattle.scope_sessions.proofs.Walk.{counts_ended, early_none, ends_none, stands_first}
use Rattle.scope_sessions.proofs.count.count_capture.Goals as goal

pub returns-in-Err : goal.returns-in-Err
returns-in-Err g c = ([], ends_none (series_of (table_view c.args.document.now) c.args.tables c.args.laps c.args.isns.now c.args.request) _ _)

pub returns-in-Err-behind : goal.returns-in-Err-behind
returns-in-Err-behind g c = ([], ends_none (series_of (table_view c.args.document.now) c.args.tables c.args.laps c.args.isns.now c.args.request) _ _)

pub walk-requires : goal.walk-requires
walk-requires g c = c.in-Ok.ensures

pub returns-in_err-fault : goal.returns-in_err-fault
returns-in_err-fault g c =
    let s = series_of (table_view c.args.document.now) c.args.tables c.args.laps c.args.isns.now c.args.request in
    let walked = c.walk.ensures s (stands_first s c.in-Ok-behind.listener c.new-index.result c.in-Ok-behind.ensures.judging c.in-Ok-behind.ensures.knows c.new-index.ensures) (early_none s) in
    let e = err_from_is_err_and c.from_residual.result c.from_residual.ensures.1 in
    (walked.0, rw (e.1, e.2) (counts_ended s _ _ _ _ _ _ walked.0 _ _ _ _ _ (Err c.in_err-fault.field-0.0) c.in_err-fault.ensures walked.1))

pub returns : goal.returns
returns g c =
    let s = series_of (table_view c.args.document.now) c.args.tables c.args.laps c.args.isns.now c.args.request in
    let walked = c.walk.ensures s (stands_first s c.in-Ok-behind.listener c.new-index.result c.in-Ok-behind.ensures.judging c.in-Ok-behind.ensures.knows c.new-index.ensures) (early_none s) in
    (walked.0, counts_ended s _ _ _ _ _ _ walked.0 _ _ _ _ _ (Ok c.in_ok-fault.fault) c.in_ok-fault.ensures walked.1)
