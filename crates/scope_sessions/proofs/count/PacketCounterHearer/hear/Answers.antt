use Rattle.std.proofs.Common.{inr}
use Rattle.std.proofs.lemmas.Result.{err_from_is_err_and}
use Rattle.scope_sessions.proofs.Walk.{adds_due, hears_halt, stands_more}
use Rattle.scope_sessions.proofs.count.PacketCounterHearer.hear.Goals as goal

pub returns-in_err-write_due : goal.returns-in_err-write_due
returns-in_err-write_due g c = λ q before p is stood.
    let e = err_from_is_err_and c.from_residual.result c.from_residual.ensures.1 in
    rw (e.1, e.2) (hears_halt q _ _ _ _ _ before stood c.args.shown.now.packet p c.time.result c.second_of-now.result c.tables.result.now is c.time.ensures c.second_of-now.ensures c.tables.ensures _ _ c.in_err-write_due.field-0.0 c.in_err-write_due.ensures)

pub returns-in-Ok : goal.returns-in-Ok
returns-in-Ok g c = λ q before p is stood. (
  stands_more q _ _ _ _ _ before stood c.args.shown.now.packet p c.time.result c.second_of-now.result c.tables.result.now is c.time.ensures c.second_of-now.ensures c.tables.ensures _ _ _ c.counted_since-self.ensures
      c.in-Ok.ensures.judging (c.in-Ok.ensures.counts stood.known p is stood.knows),
  adds_due q _ _ _ _ _ before stood c.args.shown.now.packet p c.time.result c.second_of-now.result c.tables.result.now is c.time.ensures c.second_of-now.ensures c.tables.ensures _ _ c.in_ok-write_due.ensures,
)

pub returns-in-Err : goal.returns-in-Err
returns-in-Err g c = λ q before p is stood.
    inr (adds_due q _ _ _ _ _ before stood c.args.shown.now.packet p c.time.result c.second_of-now.result c.tables.result.now is c.time.ensures c.second_of-now.ensures c.tables.ensures _ _ c.in_ok-write_due.ensures)
