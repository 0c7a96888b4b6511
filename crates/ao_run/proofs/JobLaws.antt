-- A command with the tables of its key file.
use Rattle.std.proofs.Common.{◌≡◌, ℕ, true, false, List, [], Option, Some, None, Result, Ok, Err, refl, sym, subst}
use Rattle.ao_base.specs.Outside.{Side}
use Rattle.ao_base.specs.declared.whole.ReadProblem.{ReadProblem}
use Rattle.ao_base.specs.declared.whole.ReadProblem.TheVariants as problem
use Rattle.ao_base.specs.ReadAll.{ReadsAll}
use Rattle.book_keys.specs.declared.fault.TableFault.{TableFault}
use Rattle.book_keys.specs.declared.fault.TableFault.TheVariants as fault
use Rattle.book_keys.specs.Nodes.{tables_of}
use Rattle.book_keys.specs.Reading.{ReadingGives}
use Rattle.book_keys.specs.Rows.{Table}
use Rattle.book_answer.specs.declared.command.Command.{Command}
use Rattle.book_answer.specs.Answers.{most_input, refusal}
use Rattle.book_answer.specs.Commands.{reads_input, reads_keys}
use Rattle.book_cmd_link.specs.KeyTexts.{table_fault_line}
use Rattle.ao_run.specs.declared.job.Job.{Job}
use Rattle.ao_run.specs.declared.job.Whole.{Whole}
use Rattle.ao_run.specs.declared.job.Whole.TheVariants as whole
use Rattle.ao_run.specs.declared.stop.Stop.{Stop}
use Rattle.ao_run.specs.declared.stop.Stop.TheVariants.{KeysTooLong, TooLong, Memory, Read}
use Rattle.ao_run.specs.Gathered.{InputGathered, KeysGathered, KeysRead, Prepares, is_ready}
use Rattle.ao_run.specs.Jobs.{job_command, job_tables, whole_command}
use Rattle.ao_run.specs.Obeys.{writes_along}
use Rattle.ao_run.specs.Stops.{Stopped}
use Rattle.ao_run.proofs.Gathering.{fault_gathered, fault_keys, faulty_gathered, long_gathered, long_keys_gathered, memory_gathered, memory_keys, tables_gathered, text_gathered, unread_keys}

-- it writes when all was read
pub whole_last : (w : Whole) → writes_along (Some (whole_command w)) ≡ false
whole_last whole.Link = refl
whole_last w = refl

-- and reads so much at most
pub whole_most : (w : Whole) → most_input (whole_command w) ≡ 33554432
whole_most whole.Link = refl
whole_most w = refl

-- the key file was read, or not, whichever command reads it
module _ (k : List ℕ) (k0 k1 : Side) where
  pub memory_read : {r : Result (List ℕ) ReadProblem} → ReadsAll k0 k1 1048576 k r → KeysRead k k0 k1 (Err Memory)
  memory_read r = record { for_each = λ c holds. memory_keys c k k0 k1 holds r }

  pub fault_read : ReadsAll k0 k1 1048576 k (Err problem.Fault) → KeysRead k k0 k1 (Err Read)
  fault_read r = record { for_each = λ c holds. fault_keys c k k0 k1 holds r }

  pub long_read : ReadsAll k0 k1 1048576 k (Err problem.TooLong) → KeysRead k k0 k1 (Err KeysTooLong)
  long_read r = record { for_each = λ c holds. long_keys_gathered c k k0 k1 holds r }

  pub tables_read : (text : List ℕ) (tables : List Table) → ReadsAll k0 k1 1048576 k (Ok text) → tables_of text ≡ Ok tables → KeysRead k k0 k1 (Ok tables)
  tables_read text tables r is = record { for_each = λ c holds. tables_gathered c k k0 k1 holds text tables r is }

  pub faulty_read : (text : List ℕ) (e : TableFault) (stop : Stop) → ReadsAll k0 k1 1048576 k (Ok text) → ReadingGives {X = List Table} (λ t. t) (Err e) (tables_of text) →
      Stopped stop (refusal 3 (table_fault_line e)) → (e ≡ fault.Memory → stop ≡ Memory) → KeysRead k k0 k1 (Err stop)
  faulty_read text e stop r is stopped none = record { for_each = λ c holds. faulty_gathered c k k0 k1 holds text e stop r is stopped none }

-- the input was read, or not
module _ (w : Whole) (i : List ℕ) (i0 i1 : Side) (holds : reads_input (whole_command w) ≡ true) where
  pub whole_text : (text : List ℕ) → ReadsAll i0 i1 33554432 i (Ok text) → InputGathered (whole_command w) i i0 i1 (Ok text)
  whole_text text r = text_gathered (whole_command w) i i0 i1 holds text (rw (whole_most w) r)

  pub whole_memory : ReadsAll i0 i1 33554432 i (Err problem.Memory) → InputGathered (whole_command w) i i0 i1 (Err Memory)
  whole_memory r = memory_gathered (whole_command w) i i0 i1 holds (rw (whole_most w) r)

  pub whole_fault : ReadsAll i0 i1 33554432 i (Err problem.Fault) → InputGathered (whole_command w) i i0 i1 (Err Read)
  whole_fault r = fault_gathered (whole_command w) i i0 i1 holds (rw (whole_most w) r)

  pub whole_long : ReadsAll i0 i1 33554432 i (Err problem.TooLong) → InputGathered (whole_command w) i i0 i1 (Err TooLong)
  whole_long r = long_gathered (whole_command w) i i0 i1 holds (rw (whole_most w) r)

-- a command that stands on no tables
pub plain_prepared : (c : Command) (s : Side) (job : Job) → reads_keys c ≡ false → job_tables job ≡ None → job_command job ≡ c → Prepares c [] s s (Ok job)
plain_prepared c s job lacks none same =
    record { reads = subst (λ (t : Option (List Table)). KeysGathered c [] s s (Ok t)) (sym none) (unread_keys c s lacks); same = same }

-- one that does, with its tables
pub keyed_prepared : (c : Command) (k : List ℕ) (k0 k1 : Side) (tables : List Table) (job : Job) → reads_keys c ≡ true → job_tables job ≡ Some tables → job_command job ≡ c →
    KeysRead k k0 k1 (Ok tables) → Prepares c k k0 k1 (Ok job)
keyed_prepared c k k0 k1 tables job holds some same read =
    record { reads = subst (λ (t : Option (List Table)). KeysGathered c k k0 k1 (Ok t)) (sym some) (read.for_each c holds); same = same }

-- and without them
pub keyless : (c : Command) (k : List ℕ) (k0 k1 : Side) (stop : Stop) → reads_keys c ≡ true → KeysRead k k0 k1 (Err stop) → Prepares c k k0 k1 (Err stop)
keyless c k k0 k1 stop holds read = record { reads = read.for_each c holds; same = tt }

-- a command that draws few events does so as a job
pub job_ready : (command : Option Command) (c : Command) (job : Job) → is_ready command ≡ true → command ≡ Some c → job_command job ≡ c → is_ready (Some (job_command job)) ≡ true
job_ready command c job ready is same = rw same (rw is at ready)
