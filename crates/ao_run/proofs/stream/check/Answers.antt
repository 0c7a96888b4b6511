use Rattle.ao_run.proofs.Streaming.{check_done, check_stopped}
use Rattle.ao_run.proofs.stream.check.Goals as goal

-- all segments were judged
pub returns-in-Ok : goal.returns-in-Ok
returns-in-Ok g c =
    let i = c.in-Ok.ensures in
    (i.0, record { behind = λ k k0 k1 keyed. rw c.status_of.ensures (check_done k k0 k1 i.0 _ _ _ _ c.args.tables c.args.form c.in-Ok.amiss keyed i.1) })

-- they weren't
pub returns-in-Err : goal.returns-in-Err
returns-in-Err g c =
    let i = c.in-Err.ensures in
    (i.0, record { behind = λ k k0 k1 keyed. check_stopped k k0 k1 i.0 _ _ _ _ c.args.tables c.args.form c.in-Err.halt c.of_check.result keyed i.1 c.of_check.ensures })
