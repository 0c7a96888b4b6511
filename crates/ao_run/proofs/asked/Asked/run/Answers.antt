use Rattle.ao_run.proofs.Contract.{runs}
use Rattle.ao_run.proofs.Telling.{offered}
use Rattle.ao_run.proofs.asked.Asked.run.Goals as goal

-- done
pub returns-in-Ok : goal.returns-in-Ok
returns-in-Ok g c =
    let got = c.in-Ok.ensures in
    let obeys = rw c.command.ensures.command at got.2 in
    (got.0, got.1, runs c.args.self.now got.0 got.1 _ _ _ (obeys _))

-- stopped, and its text is told
pub returns-in-Err : goal.returns-in-Err
returns-in-Err g c =
    let got = c.in-Err.ensures in
    let obeys = rw c.command.ensures.command at got.2 in
    let told = rw c.text.ensures at c.write_all.ensures.1 in
    (got.0, got.1, rw c.status.ensures (runs c.args.self.now got.0 got.1 _ _ _ (obeys _ _ (offered _ _ _ _ _ told))))
