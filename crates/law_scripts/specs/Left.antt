-- What a call that reads lines answered, beside what is said.
use Rattle.std.specs.Prelude.{List, Result, Ok, Err}
use Rattle.book_lines.specs.declared.text_fault.TextFault.{TextFault}
use Rattle.book_lines.specs.Lines.{Line}
use Rattle.book_cmd_link.specs.LinkFiles.{Left}

-- what a reading answered, with the lines that are left
abbrev pub leaves : {A : Type 0} → Result A TextFault → List Line → Result (Left A) TextFault
leaves (Ok x) rest = Ok (record { value = x; rest = rest })
leaves (Err e) rest = Err e
