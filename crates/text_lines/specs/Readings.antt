-- What a call that reads answered, beside what is said.
use Rattle.std.specs.Prelude.{◌≡◌, ℕ, List, Result, Ok, Err}
use Rattle.book_lines.specs.declared.line_kind.LineKind.{LineKind}
use Rattle.book_lines.specs.declared.text_fault.TextFault.{TextFault}
use Rattle.book_lines.specs.declared.text_fault.TextFault.TheVariants as fault
use Rattle.book_lines.specs.Words.{Taken}
use Rattle.text_lines.specs.declared.word_problem.WordProblem.{WordProblem}
use Rattle.text_lines.specs.declared.word_problem.WordProblem.TheVariants as refusal

-- what a reading of words answered, with the words that are left
abbrev pub gives : {A F : Type 0} → Result A F → List (List ℕ) → Result (Taken A) F
gives (Ok x) rest = Ok (record { value = x; rest = rest })
gives (Err e) rest = Err e

-- what a reading of words that takes memory answered is what they say, unless memory ran out
abbrev pub Tells : {A : Type 0} → Result A WordProblem → Result A LineKind → Type 0
Tells (Ok x) said = said ≡ Ok x
Tells (Err refusal.Memory) said = Unit {0}
Tells (Err (refusal.Kind kind)) said = said ≡ Err kind

-- why a line isn't read, with its number
abbrev pub fault_at : ℕ → WordProblem → TextFault
fault_at n refusal.Memory = fault.Memory
fault_at n (refusal.Kind kind) = fault.Line n kind

-- the fault that a call answered is what is said, unless memory ran out
abbrev pub Fails : {A : Type 0} → TextFault → Result A TextFault → Type 0
Fails fault.Memory said = Unit {0}
Fails e said = said ≡ Err e

-- what a reading of lines answered, a value or a fault, is what they say, unless memory ran out
abbrev pub Answers : {A : Type 0} → Result A TextFault → Result A TextFault → Type 0
Answers (Ok x) said = said ≡ Ok x
Answers (Err e) said = Fails e said
