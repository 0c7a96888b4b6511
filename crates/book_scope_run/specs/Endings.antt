-- The status and the text of each way in which a run of `aoscope` ends. Its tops are `status_at`
-- and `halt_text`.
use Rattle.std.specs.Prelude.{ℕ, Bool, List, [], ◌∷◌, ◌++◌, codes, decimal, Result, Ok, Err}
use Rattle.std.specs.Prelude.{if◌then◌else◌}
use Rattle.book_lines.specs.Faults.{input_fault_text, kind_text}
use Rattle.book_lines.specs.Texts.{line_text}
use Rattle.book_lines.specs.declared.text_fault.TextFault.TheVariants as lines
use Rattle.book_cmd_link.specs.KeyTexts.{table_fault_line}
use Rattle.book_captures.specs.FaultTexts.{capture_fault_text}
use Rattle.book_scope_texts.specs.FieldTexts.{text_shown}
use Rattle.book_scope_run.specs.declared.halt.Argument.{Argument}
use Rattle.book_scope_run.specs.declared.halt.Argument.TheVariants as argument
use Rattle.book_scope_run.specs.declared.halt.Wanted.{Wanted}
use Rattle.book_scope_run.specs.declared.halt.Wanted.TheVariants as wanted
use Rattle.book_scope_run.specs.declared.halt.Misuse.{Misuse}
use Rattle.book_scope_run.specs.declared.halt.Misuse.TheVariants as misuse
use Rattle.book_scope_run.specs.declared.halt.Origin.{Origin}
use Rattle.book_scope_run.specs.declared.halt.Origin.TheVariants as origin
use Rattle.book_scope_run.specs.declared.halt.Halt.{Halt}
use Rattle.book_scope_run.specs.declared.halt.Halt.TheVariants as halt

-- the most bytes that may come from there: 2^20, 2^22 and 2^25. A capture has another limit (own)
abbrev pub most_from : Origin → ℕ
most_from origin.KeyFile = 1048576
most_from origin.IsnFile = 4194304
most_from origin.Input = 33554432

-- the status where more bytes come from there than may: the key file's is 3, as where it is
-- refused, and else 4 (own)
abbrev pub long_status : Origin → ℕ
long_status origin.KeyFile = 3
long_status origin.IsnFile = 4
long_status origin.Input = 4

-- the status of each way to end early (own)
abbrev pub halt_status : Halt → ℕ
halt_status (halt.Misused why) = 2
halt_status (halt.IsNo name what) = 2
halt_status halt.NoSuchKey = 2
halt_status (halt.NoSession number many) = 1
halt_status halt.NoNode = 1
halt_status halt.NoConnection = 1
halt_status (halt.Keys fault) = 3
halt_status (halt.IsnLine n kind) = 4
halt_status halt.TooManyIsns = 4
halt_status (halt.Broken fault) = 4
halt_status (halt.InputLine n kind) = 4
halt_status halt.TooManyLines = 4
halt_status halt.TooManyEvents = 4
halt_status (halt.TooLong from) = long_status from
halt_status (halt.Read from) = 5
halt_status halt.Write = 6
halt_status halt.Memory = 7

-- the status of a run: where it is done, whether something is amiss (own)
abbrev pub status_at : Result Bool Halt → ℕ
status_at (Ok amiss) = if amiss then 1 else 0
status_at (Err why) = halt_status why

-- an argument by its name (own)
abbrev pub argument_text : Argument → List ℕ
argument_text argument.Lead = codes "LEAD"
argument_text argument.Lag = codes "LAG"
argument_text argument.From = codes "FROM"
argument_text argument.To = codes "TO"
argument_text argument.N = codes "N"

-- what is wanted of it (own)
abbrev pub wanted_name : Wanted → List ℕ
wanted_name wanted.LengthOfTime = codes "length of time"
wanted_name wanted.Time = codes "time"
wanted_name wanted.Laps = codes "number of laps from 0 to 255"
wanted_name wanted.SessionNumber = codes "number of a session"
wanted_name wanted.PacketNumber = codes "number from 1"

-- why arguments can't be taken together, or so far (own)
abbrev pub misuse_text : Misuse → List ℕ
misuse_text misuse.LongLead = codes "LEAD is more than 253402300799 seconds"
misuse_text misuse.LongLag = codes "LAG is more than 253402300799 seconds"
misuse_text misuse.FromAfterTo = codes "FROM is after TO"
misuse_text misuse.DrawAndTable = codes "--draw goes with none of --json, --every and --all"
misuse_text misuse.RetireAndMore =
    codes "--retire goes with none of --draw, --json, --every and --all"

-- from where bytes are read (own)
abbrev pub origin_text : Origin → List ℕ
origin_text origin.KeyFile = codes "keys"
origin_text origin.IsnFile = codes "isn"
origin_text origin.Input = codes "input"

-- the text that each way to end early tells on standard error; `--retire` names keys by the word
-- (own)
abbrev pub halt_text : (word : List ℕ) → Halt → List ℕ
halt_text word (halt.Misused why) = codes "usage: " ++ misuse_text why ++ 10 ∷ []
halt_text word (halt.IsNo name what) =
    codes "usage: " ++ argument_text name ++ codes " is no " ++ wanted_name what ++ 10 ∷ []
halt_text word halt.NoSuchKey =
    codes "no row has the AdminKeyName or KeyID " ++ text_shown word ++ 10 ∷ []
halt_text word (halt.NoSession number many) =
    codes "no session " ++ decimal number ++ (codes ": the capture has " ++ decimal many) ++ 10 ∷ []
halt_text word halt.NoNode = codes "no node: the key file names none\n"
halt_text word halt.NoConnection = codes "no connection: the input names none\n"
halt_text word (halt.Keys fault) = table_fault_line fault
halt_text word (halt.IsnLine n kind) =
    line_text (codes "isn: line" ∷ decimal n ∷ kind_text kind ∷ [])
halt_text word halt.TooManyIsns = codes "isn: too many lines\n"
halt_text word (halt.Broken fault) = capture_fault_text fault
halt_text word (halt.InputLine n kind) = input_fault_text (lines.Line n kind)
halt_text word halt.TooManyLines = input_fault_text lines.TooManyLines
halt_text word halt.TooManyEvents = codes "input: too many events\n"
halt_text word (halt.TooLong from) = origin_text from ++ codes ": too long\n"
halt_text word (halt.Read from) = origin_text from ++ codes ": read fault\n"
halt_text word halt.Write = codes "write fault\n"
halt_text word halt.Memory = codes "memory\n"
