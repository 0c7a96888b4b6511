-- What is found of a value that may be missing (own).
use Rattle.std.specs.Prelude.{◌≡◌, ◌≤◌, ◌^◌, ℕ, List, [], ◌++◌, Option, Some, None, Result, Ok, Err, IfSome, codes, decimal, ◌∷◌}
use Rattle.ao_check.specs.Verdicts.{Verdict}
use Rattle.book_cmd_check.specs.Captures.{most_connections}
use Rattle.book_keys.specs.Choices.{Numbered}
use Rattle.book_why.specs.Inquiries.{Inquiry, passing_values, refusal_lines}
use Rattle.capture_check.specs.declared.answer.CheckLine.{CheckLine}
use Rattle.capture_check.specs.declared.answer.CheckLine.TheVariants as line
use Rattle.scope_why.specs.declared.inquiry.Inquiry as code
use Rattle.scope_why.specs.declared.sight.NumberedRow.{NumberedRow}

-- there is no value
abbrev pub Lacking : {V F : Type 0} → Result V F → Type 0
Lacking (Ok v) = ⊥
Lacking (Err why) = Unit {0}

-- the value was found, or there is none
abbrev pub Finds : {X V F : Type 0} → (X → V) → Option X → Result V F → Type 0
Finds view None r = Lacking r
Finds view (Some x) r = r ≡ Ok (view x)

-- a row with its number
abbrev pub numbered_of : NumberedRow → Numbered
numbered_of n = record { number = n.number; row = n.row.now }

-- what is expected is at most 2^63
abbrev pub IsWithin : code.Inquiry → Type 0
IsWithin i = IfSome i.known (λ k. k.expected ≤ 2 ^ 63)

-- what decided a verdict
abbrev pub lines_of_verdict : Inquiry → Verdict → List ℕ
lines_of_verdict q (Ok p) = passing_values q
lines_of_verdict q (Err why) = refusal_lines q why

-- what decided what is said of a segment
abbrev pub lines_of_said : Inquiry → CheckLine → List ℕ
lines_of_said q (line.Bad fault) = []
lines_of_said q line.UnknownNode = codes "source and destination are one socket\n"
lines_of_said q (line.Verdict v checksum) = lines_of_verdict q v
lines_of_said q (line.Full checksum) =
    codes "connections held " ++ (decimal most_connections ++ (10 ∷ passing_values q))
