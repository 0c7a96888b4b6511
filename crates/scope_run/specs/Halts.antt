-- Why a run ends early, by what the calls below answer (own).
use Rattle.std.specs.Prelude.{ℕ, Bool, true, false, not, Result, Ok, Err}
use Rattle.ao_base.specs.declared.whole.ReadProblem.{ReadProblem}
use Rattle.ao_base.specs.declared.whole.ReadProblem.TheVariants as problem
use Rattle.book_keys.specs.declared.fault.TableFault.{TableFault}
use Rattle.book_keys.specs.declared.fault.TableFault.TheVariants as fault
use Rattle.book_lines.specs.declared.text_fault.TextFault.{TextFault}
use Rattle.book_lines.specs.declared.text_fault.TextFault.TheVariants as lines
use Rattle.book_scope_run.specs.declared.halt.Halt.{Halt}
use Rattle.book_scope_run.specs.declared.halt.Halt.TheVariants as halt
use Rattle.book_scope_run.specs.declared.halt.Origin.{Origin}
use Rattle.book_scope_run.specs.declared.halt.Origin.TheVariants.{Input}
use Rattle.book_sessions.specs.declared.retiring.Retiring.{Retiring}
use Rattle.book_sessions.specs.declared.retiring.Retiring.TheVariants as retiring
use Rattle.capture_walk.specs.declared.walking.WalkHalt.{WalkHalt}
use Rattle.capture_walk.specs.declared.walking.WalkHalt.TheVariants as walk
use Rattle.command_report.specs.declared.stop.Stop.{Stop}
use Rattle.command_report.specs.declared.stop.Stop.TheVariants as stop
use Rattle.scope_ladder.specs.declared.draw.LadderHalt.{LadderHalt}
use Rattle.scope_ladder.specs.declared.draw.LadderHalt.TheVariants as ladder
use Rattle.scope_lines.specs.declared.write.LinesHalt.{LinesHalt}
use Rattle.scope_lines.specs.declared.write.LinesHalt.TheVariants as written

-- reading from there came to no end (own)
abbrev pub halt_of_reading : Origin → ReadProblem → Halt
halt_of_reading from problem.Memory = halt.Memory
halt_of_reading from problem.Fault = halt.Read from
halt_of_reading from problem.TooLong = halt.TooLong from

-- the key file has this fault (own)
abbrev pub halt_of_keys : TableFault → Halt
halt_of_keys fault.Memory = halt.Memory
halt_of_keys why = halt.Keys why

-- the given initial sequence numbers have this fault (own)
abbrev pub halt_of_isns : TextFault → Halt
halt_of_isns lines.Memory = halt.Memory
halt_of_isns lines.TooManyLines = halt.TooManyIsns
halt_of_isns (lines.Line n kind) = halt.IsnLine n kind

-- the words of the input have this fault (own)
abbrev pub halt_of_words : TextFault → Halt
halt_of_words lines.Memory = halt.Memory
halt_of_words lines.TooManyLines = halt.TooManyLines
halt_of_words (lines.Line n kind) = halt.InputLine n kind

-- no report is made (own)
abbrev pub halt_of_stop : Stop → Halt
halt_of_stop (stop.Input fault) = halt_of_words fault
halt_of_stop stop.TooManyEvents = halt.TooManyEvents
halt_of_stop stop.Memory = halt.Memory

-- the lines of a capture ended so (own)
abbrev pub halt_of_lines : LinesHalt → Halt
halt_of_lines (written.Broken fault) = halt.Broken fault
halt_of_lines written.TooLong = halt.TooLong Input
halt_of_lines written.Read = halt.Read Input
halt_of_lines written.Write = halt.Write
halt_of_lines written.Memory = halt.Memory

-- the walk over a capture ended so (own)
abbrev pub halt_of_walk : WalkHalt → Halt
halt_of_walk (walk.Broken fault) = halt.Broken fault
halt_of_walk walk.TooLong = halt.TooLong Input
halt_of_walk walk.Read = halt.Read Input
halt_of_walk walk.Write = halt.Write
halt_of_walk walk.Memory = halt.Memory

-- the ladder of the session of this number ended so (own)
abbrev pub halt_of_ladder : (number : ℕ) → LadderHalt → Halt
halt_of_ladder number (ladder.NoSession many) = halt.NoSession number many
halt_of_ladder number (ladder.Walk why) = halt_of_walk why

-- how a run ends whose lines of a capture ended so; nothing is amiss in them (own)
abbrev pub lines_end : Result (Unit {0}) LinesHalt → Result Bool Halt
lines_end (Ok done) = Ok false
lines_end (Err why) = Err (halt_of_lines why)

-- how a run ends whose lines or tables of a capture that is judged ended so (own)
abbrev pub judged_end : Result Bool WalkHalt → Result Bool Halt
judged_end (Ok amiss) = Ok amiss
judged_end (Err why) = Err (halt_of_walk why)

-- how a run ends that says of keys whether they may go: unless all may, that is amiss; where there
-- are none, it ends early (own)
abbrev pub retiring_end : Result Retiring WalkHalt → Result Bool Halt
retiring_end (Ok retiring.Yes) = Ok false
retiring_end (Ok retiring.NotYes) = Ok true
retiring_end (Ok retiring.NoSuchRow) = Err halt.NoSuchKey
retiring_end (Err why) = Err (halt_of_walk why)

-- how a run ends whose ladder ended so; nothing is amiss in it (own)
abbrev pub ladder_end : (number : ℕ) → Result (Unit {0}) LadderHalt → Result Bool Halt
ladder_end number (Ok done) = Ok false
ladder_end number (Err why) = Err (halt_of_ladder number why)

-- how a run ends whose answer on a packet ended so: it is amiss where the packet doesn't pass (own)
abbrev pub why_end : Result Bool WalkHalt → Result Bool Halt
why_end (Ok passes) = Ok (not passes)
why_end (Err why) = Err (halt_of_walk why)
