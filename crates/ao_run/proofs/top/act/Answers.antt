use Rattle.std.proofs.Common.{[], refl, None}
use Rattle.ao_run.specs.declared.stop.Stop.TheVariants.{Usage}
use Rattle.ao_run.specs.Jobs.{job_command, job_tables}
use Rattle.ao_run.proofs.Gathering.{usage_gathered}
use Rattle.ao_run.proofs.Streaming.{done_behind, unprepared}
use Rattle.ao_run.proofs.Telling.{refused_ends}
use Rattle.ao_run.proofs.top.act.Goals as goal

-- the words name no command
pub returns-in_default : goal.returns-in_default
returns-in_default g c = ([], [], rw c.in_default.is (refused_ends None [] [] _ _ _ _ refl _ Usage (usage_gathered _ _)))

-- the key file gave no tables
pub returns-in-Err : goal.returns-in-Err
returns-in-Err g c =
    let k = c.in-Err.ensures in
    (k.0, [], rw c.in-Some.is (unprepared c.in-Some.command k.0 _ _ (g.I.Source.side c.args.input.now) (g.O.Sink.side c.args.out.now) c.in-Err.stop k.1.reads))

-- the job is done, or stopped
pub returns-in-Ok : goal.returns-in-Ok
returns-in-Ok g c =
    let k = c.in-Ok.ensures in
    let i = c.do_job.ensures in
    (k.0, i.0, rw c.in-Some.is (done_behind c.in-Some.command (job_command c.in-Ok.job) (job_tables c.in-Ok.job) k.1.same k.0 i.0 _ _ _ _ _ _ c.do_job.result k.1.reads i.1))
