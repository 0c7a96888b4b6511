-- The words after the program's word, read from the left (own).
use Rattle.std.specs.Prelude.{ℕ, List, [], ◌∷◌, ◌++◌, codes, false, true, Option, Some, None}
use Rattle.std.specs.Prelude.{Result, Ok, Err, if◌then◌else◌}
use Rattle.std.specs.List.{find}
use Rattle.book_base.specs.Results.{◌>>=◌}
use Rattle.scope_run.specs.declared.step.Change.{Change}
use Rattle.scope_run.specs.declared.step.Change.TheVariants as change
use Rattle.scope_run.specs.declared.step.Ending.{Ending}
use Rattle.scope_run.specs.declared.step.Ending.TheVariants as ending
use Rattle.scope_run.specs.declared.usage.Cause.TheVariants as cause
use Rattle.scope_run.specs.declared.word.Word.{Word}
use Rattle.scope_run.specs.Meanings.{Given, State, has}
use Rattle.scope_run.specs.Steps.{first_lacking, step_of}
use Rattle.scope_run.specs.Tables.{options_with_draw_of, required_of}

-- what the words of a reading give, or how it ends (own)
abbrev pub Reads : Type 0
Reads = Result Given (Ending (List ℕ))

-- the first option that is there only beside `--draw`, where that isn't given (own)
abbrev pub first_alone : Word → Given → Option (List ℕ)
first_alone word given =
    if has (codes "--draw") given then None
    else find (λ name. has name given) (options_with_draw_of word)

-- what is given is whole: each argument that must be there is (own)
abbrev pub whole : Option (List ℕ) → Given → Reads
whole (Some name) given = Err (ending.Refuses cause.Missing name)
whole None given = Ok given

-- no option is there that needs `--draw`, or it is there too (own)
abbrev pub drawn : Option (List ℕ) → Word → Given → Reads
drawn (Some name) word given = Err (ending.Refuses cause.WithoutDraw name)
drawn None word given = whole (first_lacking (required_of word) given) given

-- the end of the words: no option waits for its value (own)
abbrev pub ended : Option (List ℕ) → Word → Given → Reads
ended (Some name) word given = Err (ending.Refuses cause.NoValue name)
ended None word given = drawn (first_alone word given) word given

-- where the reading stands after a change (own)
abbrev pub changed : State → Change (List ℕ) → State
changed state (change.Gives name text) =
    record state { given = state.given ++ (name, text) ∷ []; waiting = None }
changed state (change.Waits name) = record state { waiting = Some name }
changed state change.OnlyArguments = record state { only_arguments = true }

-- nothing is read yet (own)
abbrev pub start : State
start = record { given = []; waiting = None; only_arguments = false }

-- the words from a state on: an ending ends them, and the words behind it say nothing (own)
unfoldable pub reading : Word → State → List (List ℕ) → Reads
reading word state [] = ended state.waiting word state.given
reading word state (text ∷ rest) = do
  change ← step_of word state text
  reading word (changed state change) rest
