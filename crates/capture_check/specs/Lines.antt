-- What a call that reads a line answered, beside what the line has (own).
use Rattle.std.specs.Prelude.{◌≡◌, ℕ, Option, Some, None, Result, Ok, Err}
use Rattle.book_lines.specs.declared.line_kind.LineKind.{LineKind}
use Rattle.book_cmd_check.specs.Captures as book
use Rattle.text_lines.specs.declared.word_problem.WordProblem.{WordProblem}
use Rattle.text_lines.specs.declared.word_problem.WordProblem.TheVariants as refusal
use Rattle.capture_check.specs.declared.stored.LineProblem.{LineProblem}
use Rattle.capture_check.specs.declared.stored.LineProblem.TheVariants as problem
use Rattle.capture_check.specs.declared.stored.Stored.{Stored}
use Rattle.capture_check.specs.declared.stored.Stored.TheVariants.{Empty, Segment}

-- what a line has, with its number, or nothing
abbrev pub stored_as : ℕ → Stored → Option book.Stored
stored_as n Empty = None
stored_as n (Segment time bytes) = Some (record { number = n; time = time; bytes = bytes })

-- what the words of a line were read as is what they say, unless memory ran out
abbrev pub IsStoredAs : ℕ → Result Stored WordProblem → Result book.Stored LineKind → Type 0
IsStoredAs n (Ok Empty) said = ⊥
IsStoredAs n (Ok (Segment time bytes)) said = said ≡ Ok (record { number = n; time = time; bytes = bytes })
IsStoredAs n (Err refusal.Memory) said = Unit {0}
IsStoredAs n (Err (refusal.Kind kind)) said = said ≡ Err kind

-- what a line was read as is what it has, or the kind of its first faulty word, unless memory ran out
abbrev pub IsRead : ℕ → Result Stored LineProblem → Result (Option book.Stored) LineKind → Type 0
IsRead n (Ok stored) said = said ≡ Ok (stored_as n stored)
IsRead n (Err problem.Memory) said = Unit {0}
IsRead n (Err (problem.Bad kind)) said = said ≡ Err kind
