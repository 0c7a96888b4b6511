-- What is written of an input that isn't read. Our own format. Its top is `input_fault_text`.
use Rattle.std.specs.Prelude.{ℕ, List, [], ◌∷◌, codes, decimal}
use Rattle.book_lines.specs.declared.line_kind.LineKind.{LineKind}
use Rattle.book_lines.specs.declared.line_kind.LineKind.TheVariants.{Word, Number, Hex, Range}
use Rattle.book_lines.specs.declared.line_kind.LineKind.TheVariants.{Header}
use Rattle.book_lines.specs.declared.line_kind.LineKind.TheVariants.{Shared}
use Rattle.book_lines.specs.declared.text_fault.TextFault.{TextFault}
use Rattle.book_lines.specs.declared.text_fault.TextFault.TheVariants as fault
use Rattle.book_lines.specs.Texts.{line_text}

-- the word for the kind of a line's fault (own)
abbrev pub kind_text : LineKind → List ℕ
kind_text Word = codes "word"
kind_text Number = codes "number"
kind_text Hex = codes "hex"
kind_text Range = codes "range"
kind_text Header = codes "header"
kind_text Shared = codes "shared"

-- the text of an input's fault: the faulty line with its kind, or too many lines; want of memory
-- has a text of its own (own)
abbrev pub input_fault_text : TextFault → List ℕ
input_fault_text fault.Memory = codes "memory\n"
input_fault_text fault.TooManyLines = codes "input: too many lines\n"
input_fault_text (fault.Line n kind) =
    line_text (codes "input: line" ∷ decimal n ∷ kind_text kind ∷ [])
