use Rattle.ao_run.specs.Jobs.{whole_tables}
use Rattle.ao_run.proofs.Gathering.{input_stopped, made_gathered}
use Rattle.ao_run.proofs.JobLaws.{whole_last}
use Rattle.ao_run.proofs.gather.gather.Goals as goal

-- the input wasn't read
pub returns-in-Err : goal.returns-in-Err
returns-in-Err g c =
    let i = c.in-Err.ensures in
    (i.0, record { behind = λ k k0 k1 keyed. input_stopped _ k i.0 k0 k1 _ _ (whole_tables c.args.whole) keyed c.in-Err.stop (whole_last c.args.whole) i.1 })

-- it was, and the output made of it
pub returns : goal.returns
returns g c =
    let i = c.in-Ok.ensures in
    let m = rw c.as_slice.ensures at c.answer.ensures in
    (i.0, record { behind = λ k k0 k1 keyed. made_gathered _ k i.0 k0 k1 _ _ (whole_tables c.args.whole) keyed c.in-Ok.text i.1 c.answer.result m })
