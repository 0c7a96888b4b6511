-- What the lines of an input say, or its first faulty line. Our own format. Its top is `said_in`.
use Rattle.std.specs.Prelude.{ℕ, nat_lt, if◌then◌else◌, List, [], ◌∷◌, length, Result, Ok, Err}
use Rattle.book_lines.specs.declared.line_kind.LineKind.{LineKind}
use Rattle.book_base.specs.Lines.{lines_of}
use Rattle.book_lines.specs.declared.text_fault.TextFault.{TextFault}
use Rattle.book_lines.specs.declared.text_fault.TextFault.TheVariants as fault
use Rattle.book_lines.specs.Lines.{Line, most_lines, saying_lines}
use Rattle.book_base.specs.Results.{◌>>=◌}

-- what a line says, with its number among all lines (own)
pub record Said (A : Type 0) : Type 0 where
  pub number : ℕ
  pub value : A

-- a line's fault, whose kind is known, with the line's number (own)
abbrev pub at_number : {A : Type 0} → ℕ → Result A LineKind → Result A TextFault
at_number n (Ok x) = Ok x
at_number n (Err kind) = Err (fault.Line n kind)

-- what each line says by this meaning of its words, or the first faulty line (own)
unfoldable pub said_by : {A : Type 0} → (List (List ℕ) → Result A LineKind) → List Line →
    Result (List (Said A)) TextFault
said_by meaning [] = Ok []
said_by meaning (l ∷ ls) = do
  value ← at_number l.number (meaning l.words)
  others ← said_by meaning ls
  Ok (record { number = l.number; value = value } ∷ others)

-- what is made of the lines of a text, where they aren't too many (own)
abbrev pub if_few_lines : {A : Type 0} → List ℕ → Result A TextFault → Result A TextFault
if_few_lines text made =
    if nat_lt most_lines (length (lines_of text)) then Err fault.TooManyLines else made

-- what the lines of a text say (own)
unfoldable pub said_in : {A : Type 0} → (List (List ℕ) → Result A LineKind) → List ℕ →
    Result (List (Said A)) TextFault
said_in meaning text = if_few_lines text (said_by meaning (saying_lines text))
