-- That what a command made of its input is the answer of the definitions (own).
use Rattle.std.specs.Prelude.{◌≡◌, Result, Ok, Err}
use Rattle.book_lines.specs.declared.text_fault.TextFault.{TextFault}
use Rattle.book_lines.specs.declared.text_fault.TextFault.TheVariants as fault
use Rattle.book_lines.specs.Faults.{input_fault_text}
use Rattle.book_answer.specs.Answers.{Answer, done, refusal, too_many_events}
use Rattle.command_report.specs.declared.report.Report.{Report}
use Rattle.command_report.specs.declared.stop.Stop.{Stop}
use Rattle.command_report.specs.declared.stop.Stop.TheVariants.{Input, TooManyEvents, Memory}

-- why a command made no report of an input with this fault (own)
abbrev pub stop_of : TextFault → Stop
stop_of fault.Memory = Memory
stop_of fault.TooManyLines = Input fault.TooManyLines
stop_of (fault.Line n kind) = Input (fault.Line n kind)

-- a command made no report, as the answer has none, unless memory ran out (own)
abbrev pub Stopped : Stop → Answer → Type 0
Stopped Memory a = Unit {0}
Stopped (Input fault) a = a ≡ refusal 4 (input_fault_text fault)
Stopped TooManyEvents a = a ≡ refusal 4 too_many_events

-- what a command made of its input is the answer (own)
abbrev pub Reports : Result Report Stop → Answer → Type 0
Reports (Ok r) a = a ≡ done r.is_amiss r.text
Reports (Err stop) a = Stopped stop a
