use Rattle.std.proofs.Common.{[], refl}
use Rattle.std.proofs.lemmas.Result.{err_from_is_err_and}
use Rattle.book_answer.specs.declared.command.Command.TheVariants as commands
use Rattle.cmd_check.specs.declared.answers.Form.TheVariants as form
use Rattle.ao_run.specs.declared.job.Job.TheVariants as job
use Rattle.ao_run.specs.declared.job.Whole.TheVariants as whole
use Rattle.ao_run.proofs.JobLaws.{keyed_prepared, keyless, plain_prepared}
use Rattle.ao_run.proofs.job.prepare.Goals as goal

pub returns-in_ok-tables_in-in-LinkKeys : goal.returns-in_ok-tables_in-in-LinkKeys
returns-in_ok-tables_in-in-LinkKeys g c =
    let k = c.in_ok-tables_in-in-LinkKeys.ensures in
    (k.0, rw c.in-LinkKeys.is (keyed_prepared commands.LinkKeys k.0 _ _ c.in_ok-tables_in-in-LinkKeys.field-0 (job.Whole (whole.LinkKeys c.in_ok-tables_in-in-LinkKeys.field-0)) refl refl refl k.1))

pub returns-in_err-tables_in-in-LinkKeys : goal.returns-in_err-tables_in-in-LinkKeys
returns-in_err-tables_in-in-LinkKeys g c =
    let k = c.in_err-tables_in-in-LinkKeys.ensures in
    let p = err_from_is_err_and c.from_residual.result c.from_residual.ensures.1 in
    (k.0, rw (c.in-LinkKeys.is, p.1, p.2) (keyless commands.LinkKeys k.0 _ _ c.in_err-tables_in-in-LinkKeys.field-0.0 refl k.1))

pub returns-in_ok-tables_in-in-Check : goal.returns-in_ok-tables_in-in-Check
returns-in_ok-tables_in-in-Check g c =
    let k = c.in_ok-tables_in-in-Check.ensures in
    (k.0, rw c.in-Check.is (keyed_prepared commands.Check k.0 _ _ c.in_ok-tables_in-in-Check.field-0 (job.Check form.Lines c.in_ok-tables_in-in-Check.field-0) refl refl refl k.1))

pub returns-in_err-tables_in-in-Check : goal.returns-in_err-tables_in-in-Check
returns-in_err-tables_in-in-Check g c =
    let k = c.in_err-tables_in-in-Check.ensures in
    let p = err_from_is_err_and c.from_residual-in_err-tables_in-in-Check.result c.from_residual-in_err-tables_in-in-Check.ensures.1 in
    (k.0, rw (c.in-Check.is, p.1, p.2) (keyless commands.Check k.0 _ _ c.in_err-tables_in-in-Check.field-0.0 refl k.1))

pub returns-in_ok-tables_in-in-CheckPcap : goal.returns-in_ok-tables_in-in-CheckPcap
returns-in_ok-tables_in-in-CheckPcap g c =
    let k = c.in_ok-tables_in-in-CheckPcap.ensures in
    (k.0, rw c.in-CheckPcap.is (keyed_prepared commands.CheckPcap k.0 _ _ c.in_ok-tables_in-in-CheckPcap.field-0 (job.Check form.Pcap c.in_ok-tables_in-in-CheckPcap.field-0) refl refl refl k.1))

pub returns-in_err-tables_in-in-CheckPcap : goal.returns-in_err-tables_in-in-CheckPcap
returns-in_err-tables_in-in-CheckPcap g c =
    let k = c.in_err-tables_in-in-CheckPcap.ensures in
    let p = err_from_is_err_and c.from_residual-in_err-tables_in-in-CheckPcap.result c.from_residual-in_err-tables_in-in-CheckPcap.ensures.1 in
    (k.0, rw (c.in-CheckPcap.is, p.1, p.2) (keyless commands.CheckPcap k.0 _ _ c.in_err-tables_in-in-CheckPcap.field-0.0 refl k.1))

pub returns-in_ok-tables_in-in-Keys : goal.returns-in_ok-tables_in-in-Keys
returns-in_ok-tables_in-in-Keys g c =
    let k = c.in_ok-tables_in-in-Keys.ensures in
    (k.0, rw c.in-Keys.is (keyed_prepared (commands.Keys c.in-Keys.time) k.0 _ _ c.in_ok-tables_in-in-Keys.field-0 (job.Whole (whole.Keys c.in_ok-tables_in-in-Keys.field-0 c.in-Keys.time)) refl refl refl k.1))

pub returns-in_err-tables_in-in-Keys : goal.returns-in_err-tables_in-in-Keys
returns-in_err-tables_in-in-Keys g c =
    let k = c.in_err-tables_in-in-Keys.ensures in
    let p = err_from_is_err_and c.from_residual-in_err-tables_in-in-Keys.result c.from_residual-in_err-tables_in-in-Keys.ensures.1 in
    (k.0, rw (c.in-Keys.is, p.1, p.2) (keyless (commands.Keys c.in-Keys.time) k.0 _ _ c.in_err-tables_in-in-Keys.field-0.0 refl k.1))

pub returns-in_ok-tables_in-in-Lint : goal.returns-in_ok-tables_in-in-Lint
returns-in_ok-tables_in-in-Lint g c =
    let k = c.in_ok-tables_in-in-Lint.ensures in
    (k.0, rw c.in-Lint.is (keyed_prepared (commands.Lint c.in-Lint.plan) k.0 _ _ c.in_ok-tables_in-in-Lint.field-0 (job.Whole (whole.Lint c.in_ok-tables_in-in-Lint.field-0 c.in-Lint.plan)) refl refl refl k.1))

pub returns-in_err-tables_in-in-Lint : goal.returns-in_err-tables_in-in-Lint
returns-in_err-tables_in-in-Lint g c =
    let k = c.in_err-tables_in-in-Lint.ensures in
    let p = err_from_is_err_and c.from_residual-in_err-tables_in-in-Lint.result c.from_residual-in_err-tables_in-in-Lint.ensures.1 in
    (k.0, rw (c.in-Lint.is, p.1, p.2) (keyless (commands.Lint c.in-Lint.plan) k.0 _ _ c.in_err-tables_in-in-Lint.field-0.0 refl k.1))

pub returns-in_ok-tables_in-in-Bgp : goal.returns-in_ok-tables_in-in-Bgp
returns-in_ok-tables_in-in-Bgp g c =
    let k = c.in_ok-tables_in-in-Bgp.ensures in
    (k.0, rw c.in-Bgp.is (keyed_prepared commands.Bgp k.0 _ _ c.in_ok-tables_in-in-Bgp.field-0 (job.Whole (whole.Bgp c.in_ok-tables_in-in-Bgp.field-0)) refl refl refl k.1))

pub returns-in_err-tables_in-in-Bgp : goal.returns-in_err-tables_in-in-Bgp
returns-in_err-tables_in-in-Bgp g c =
    let k = c.in_err-tables_in-in-Bgp.ensures in
    let p = err_from_is_err_and c.from_residual-in_err-tables_in-in-Bgp.result c.from_residual-in_err-tables_in-in-Bgp.ensures.1 in
    (k.0, rw (c.in-Bgp.is, p.1, p.2) (keyless commands.Bgp k.0 _ _ c.in_err-tables_in-in-Bgp.field-0.0 refl k.1))

pub returns-in_ok-tables_in-in-Timed : goal.returns-in_ok-tables_in-in-Timed
returns-in_ok-tables_in-in-Timed g c =
    let k = c.in_ok-tables_in-in-Timed.ensures in
    (k.0, rw c.in-Timed.is (keyed_prepared commands.Timed k.0 _ _ c.in_ok-tables_in-in-Timed.field-0 (job.Whole (whole.Timed c.in_ok-tables_in-in-Timed.field-0)) refl refl refl k.1))

pub returns-in_err-tables_in-in-Timed : goal.returns-in_err-tables_in-in-Timed
returns-in_err-tables_in-in-Timed g c =
    let k = c.in_err-tables_in-in-Timed.ensures in
    let p = err_from_is_err_and c.from_residual-in_err-tables_in-in-Timed.result c.from_residual-in_err-tables_in-in-Timed.ensures.1 in
    (k.0, rw (c.in-Timed.is, p.1, p.2) (keyless commands.Timed k.0 _ _ c.in_err-tables_in-in-Timed.field-0.0 refl k.1))

pub returns-in_ok-tables_in-in-Node : goal.returns-in_ok-tables_in-in-Node
returns-in_ok-tables_in-in-Node g c =
    let k = c.in_ok-tables_in-in-Node.ensures in
    (k.0, rw c.in-Node.is (keyed_prepared commands.Node k.0 _ _ c.in_ok-tables_in-in-Node.field-0 (job.Whole (whole.Node c.in_ok-tables_in-in-Node.field-0)) refl refl refl k.1))

pub returns-in_err-tables_in-in-Node : goal.returns-in_err-tables_in-in-Node
returns-in_err-tables_in-in-Node g c =
    let k = c.in_err-tables_in-in-Node.ensures in
    let p = err_from_is_err_and c.from_residual-in_err-tables_in-in-Node.result c.from_residual-in_err-tables_in-in-Node.ensures.1 in
    (k.0, rw (c.in-Node.is, p.1, p.2) (keyless commands.Node k.0 _ _ c.in_err-tables_in-in-Node.field-0.0 refl k.1))

pub returns-in-Storm : goal.returns-in-Storm
returns-in-Storm g c = ([], rw c.in-Storm.is (plain_prepared (commands.Storm c.in-Storm.seed c.in-Storm.count) _ (job.Whole (whole.Storm c.in-Storm.seed c.in-Storm.count)) refl refl refl))
