-- The status and the text of each way to end without output (own).
use Rattle.std.specs.Prelude.{◌≡◌, ◌<◌, ℕ, List, [], Result, Ok, Err}
use Rattle.ao_run.specs.declared.stop.Stop.{Stop}
use Rattle.ao_run.specs.declared.stop.Stop.TheVariants.{Usage, KeysTooLong, Keys, TooLong, Input}
use Rattle.ao_run.specs.declared.stop.Stop.TheVariants.{TooManyEvents, Read, Write, Memory}
use Rattle.ao_run.specs.declared.stop.Output.{Output}
use Rattle.book_lines.specs.declared.text_fault.TextFault.TheVariants.{Line}
use Rattle.book_lines.specs.Faults.{input_fault_text}
use Rattle.book_pcap.specs.Packets.{BadHead, BadRecord}
use Rattle.cmd_check.specs.declared.halt.Halt.{Halt}
use Rattle.cmd_check.specs.declared.halt.Halt.TheVariants as halt
use Rattle.book_answer.specs.Answers.{Answer, refusal, keys_too_long, too_long, too_many_events}
use Rattle.book_answer.specs.Answers.{pcap_fault_line, read_fault, write_fault, memory}
use Rattle.book_answer.specs.Commands.{usage}

-- the exit status of each way to end without output (own)
abbrev pub status_of : Stop → ℕ
status_of Usage = 2
status_of KeysTooLong = 3
status_of (Keys text) = 3
status_of TooLong = 4
status_of (Input text) = 4
status_of TooManyEvents = 4
status_of Read = 5
status_of Write = 6
status_of Memory = 7

-- the text that each of them writes to standard error (own)
abbrev pub text_of : Stop → List ℕ
text_of Usage = usage
text_of KeysTooLong = keys_too_long
text_of (Keys text) = text
text_of TooLong = too_long
text_of (Input text) = text
text_of TooManyEvents = too_many_events
text_of Read = read_fault
text_of Write = write_fault
text_of Memory = memory

-- the answer that an output makes (own)
abbrev pub made : Output → Answer
made o = record { status = o.status; output = o.bytes; text = [] }

-- a command ends without output as the answer does, unless memory ran out; it ends in no other
-- way (own)
abbrev pub Stopped : Stop → Answer → Type 0
Stopped Memory a = Unit {0}
Stopped (Keys text) a = a ≡ refusal 3 text
Stopped (Input text) a = a ≡ refusal 4 text
Stopped TooManyEvents a = a ≡ refusal 4 too_many_events
Stopped _ a = ⊥

-- what a command made of its input is the answer, and an output has the status 0 or 1 (own)
abbrev pub Makes : Result Output Stop → Answer → Type 0
Makes (Ok o) a = (a ≡ made o) × (o.status < 2)
Makes (Err stop) a = Stopped stop a

-- a check of stored segments that stopped so has this stop; there may be no memory for the text of
-- a fault (own)
abbrev pub IsHalted : Halt → Stop → Type 0
IsHalted (halt.Line n kind) stop = Stopped stop (refusal 4 (input_fault_text (Line n kind)))
IsHalted (halt.Head fault) stop = Stopped stop (refusal 4 (pcap_fault_line (BadHead fault)))
IsHalted (halt.Record n) stop = Stopped stop (refusal 4 (pcap_fault_line (BadRecord n)))
IsHalted halt.TooLong stop = stop ≡ TooLong
IsHalted halt.Read stop = stop ≡ Read
IsHalted halt.Write stop = stop ≡ Write
IsHalted halt.Memory stop = stop ≡ Memory
