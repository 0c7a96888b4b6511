-- What one word of the command line says, after those before it (own).
use Rattle.std.specs.Prelude.{ℕ, Bool, not, List, [], codes, Option, Some, None}
use Rattle.std.specs.Prelude.{◌||◌, Result, Ok, Err, if◌then◌else◌}
use Rattle.std.specs.List.{find, list_any}
use Rattle.std.specs.Str.{bytes_eq}
use Rattle.scope_run.specs.declared.step.Change.{Change}
use Rattle.scope_run.specs.declared.step.Change.TheVariants as change
use Rattle.scope_run.specs.declared.step.Ending.{Ending}
use Rattle.scope_run.specs.declared.step.Ending.TheVariants as ending
use Rattle.scope_run.specs.declared.usage.Cause.TheVariants as cause
use Rattle.scope_run.specs.declared.word.Word.{Word}
use Rattle.scope_run.specs.Meanings.{Given, State, has}
use Rattle.scope_run.specs.Tables.{arguments_of, flags_of, valued_options_of}
use Rattle.scope_run.specs.Texts.{asks_help, head_of, is_dashed, value_of}

-- what a word says (own)
abbrev pub Said : Type 0
Said = Result (Change (List ℕ)) (Ending (List ℕ))

-- one of the names is this text (own)
abbrev pub is_among : List ℕ → List (List ℕ) → Bool
is_among text names = list_any (λ name. bytes_eq text name) names

-- the first of the names that isn't given (own)
abbrev pub first_lacking : List (List ℕ) → Given → Option (List ℕ)
first_lacking names given = find (λ name. not (has name given)) names

-- a text is that of the first argument that has none yet; one that is left over is refused (own)
abbrev pub argument_by : Option (List ℕ) → List ℕ → Said
argument_by None text = Err (ending.Refuses cause.TooMany text)
argument_by (Some name) text = Ok (change.Gives name text)

abbrev pub argument_step : Word → Given → List ℕ → Said
argument_step word given text = argument_by (first_lacking (arguments_of word) given) text

-- an option's value stands in its word, or is the next word (own)
abbrev pub valued_step : List ℕ → Option (List ℕ) → Said
valued_step name (Some value) = Ok (change.Gives name value)
valued_step name None = Ok (change.Waits name)

-- a flag has no value (own)
abbrev pub flag_step : List ℕ → Option (List ℕ) → Said
flag_step name (Some value) = Err (ending.Refuses cause.ValueOfFlag name)
flag_step name None = Ok (change.Gives name [])

-- an option that the word has, at most once (own)
abbrev pub known_step : Word → Given → List ℕ → Option (List ℕ) → Said
known_step word given name value =
    if has name given then Err (ending.Refuses cause.Twice name)
    else if is_among name (valued_options_of word) then valued_step name value
    else flag_step name value

-- an option; one that the word doesn't have is refused (own)
abbrev pub option_step : Word → Given → List ℕ → Said
option_step word given text =
    if is_among (head_of text) (valued_options_of word) || is_among (head_of text) (flags_of word)
    then known_step word given (head_of text) (value_of text)
    else Err (ending.Refuses cause.UnknownOption text)

-- a word where no option waits for its value (own)
abbrev pub plain_step : Word → Given → (only_arguments : Bool) → List ℕ → Said
plain_step word given only_arguments text =
    if only_arguments then argument_step word given text
    else if bytes_eq text (codes "--") then Ok change.OnlyArguments
    else if asks_help text then Err ending.Help
    else if is_dashed text then option_step word given text
    else argument_step word given text

-- the value of the option that waits for it, which isn't written as an option is (own)
abbrev pub value_step : List ℕ → List ℕ → Said
value_step name text =
    if is_dashed text then Err (ending.Refuses cause.NoValue name)
    else Ok (change.Gives name text)

-- a word after those before it (own)
abbrev pub step_by : Word → Given → Option (List ℕ) → (only_arguments : Bool) → List ℕ → Said
step_by word given (Some name) only_arguments text = value_step name text
step_by word given None only_arguments text = plain_step word given only_arguments text

abbrev pub step_of : Word → State → List ℕ → Said
step_of word state text = step_by word state.given state.waiting state.only_arguments text
