-- A command with the tables of its key file, where it reads one (own).
use Rattle.std.specs.Prelude.{List, Option, Some, None}
use Rattle.book_keys.specs.Rows.{Table}
use Rattle.book_answer.specs.declared.command.Command.{Command}
use Rattle.book_answer.specs.declared.command.Command.TheVariants as command
use Rattle.cmd_check.specs.declared.answers.Form.{Form}
use Rattle.cmd_check.specs.declared.answers.Form.TheVariants as form
use Rattle.ao_run.specs.declared.job.Job.{Job}
use Rattle.ao_run.specs.declared.job.Job.TheVariants as job
use Rattle.ao_run.specs.declared.job.Whole.{Whole}
use Rattle.ao_run.specs.declared.job.Whole.TheVariants as whole

-- the command of a job that writes when all was read (own)
abbrev pub whole_command : Whole → Command
whole_command whole.Link = command.Link
whole_command (whole.LinkKeys tables) = command.LinkKeys
whole_command whole.Show = command.Show
whole_command whole.Vectors = command.Vectors
whole_command (whole.Keys tables time) = command.Keys time
whole_command (whole.Lint tables plan) = command.Lint plan
whole_command (whole.Storm seed count) = command.Storm seed count
whole_command (whole.Bgp tables) = command.Bgp
whole_command (whole.Timed tables) = command.Timed
whole_command (whole.Node tables) = command.Node

-- its tables (own)
abbrev pub whole_tables : Whole → Option (List Table)
whole_tables whole.Link = None
whole_tables (whole.LinkKeys tables) = Some tables
whole_tables whole.Show = None
whole_tables whole.Vectors = None
whole_tables (whole.Keys tables time) = Some tables
whole_tables (whole.Lint tables plan) = Some tables
whole_tables (whole.Storm seed count) = None
whole_tables (whole.Bgp tables) = Some tables
whole_tables (whole.Timed tables) = Some tables
whole_tables (whole.Node tables) = Some tables

-- the command that judges stored segments that are given so (own)
abbrev pub check_command : Form → Command
check_command form.Lines = command.Check
check_command form.Pcap = command.CheckPcap

-- the command of a job (own)
abbrev pub job_command : Job → Command
job_command (job.Whole w) = whole_command w
job_command (job.Check f tables) = check_command f

-- the tables of a job (own)
abbrev pub job_tables : Job → Option (List Table)
job_tables (job.Whole w) = whole_tables w
job_tables (job.Check f tables) = Some tables
