-- The options and arguments that words give, and what is changed or ended by a word (own).
use Rattle.std.specs.Prelude.{ℕ, Bool, List, map, Option, Some, None, option_map, is_some}
use Rattle.std.specs.Prelude.{Result, Ok, Err}
use Rattle.std.specs.Borrow.{Bor}
use Rattle.std.specs.List.{find}
use Rattle.std.specs.Str.{bytes_eq}
use Rattle.scope_run.specs.declared.entries.Entry.{Entry}
use Rattle.scope_run.specs.declared.words_reading.Reading.{Reading}
use Rattle.scope_run.specs.declared.step.Change.{Change}
use Rattle.scope_run.specs.declared.step.Change.TheVariants as change
use Rattle.scope_run.specs.declared.step.Ending.{Ending}
use Rattle.scope_run.specs.declared.step.Ending.TheVariants as ending

-- options and arguments with the text of each, by their names; of a flag the text is empty (own)
abbrev pub Given : Type 0
Given = List (List ℕ × List ℕ)

-- the text of the name, if it is given (own)
abbrev pub text_of : List ℕ → Given → Option (List ℕ)
text_of name given = option_map (λ e. e.1) (find (λ e. bytes_eq name e.0) given)

-- the name is given (own)
abbrev pub has : List ℕ → Given → Bool
has name given = is_some (text_of name given)

-- the entries by their bytes
abbrev pub pairs : List Entry → Given
pairs entries = map (λ e. (e.name.now, e.text.now)) entries

-- where a reading of words stands: what is given so far, the option whose value is the next word,
-- and whether `--` was read, after which every word is an argument (own)
pub record State : Type 0 where
  pub given : Given
  pub waiting : Option (List ℕ)
  pub only_arguments : Bool

-- the same of the code's record
abbrev pub state_of : Reading → State
state_of r = record {
  given = pairs r.entries.items;
  waiting = option_map (λ w. w.now) r.waiting;
  only_arguments = r.only_arguments;
}

-- a change by its bytes
abbrev pub change_now : Change (Bor (List ℕ)) → Change (List ℕ)
change_now (change.Gives name text) = change.Gives name.now text.now
change_now (change.Waits name) = change.Waits name.now
change_now change.OnlyArguments = change.OnlyArguments

-- an ending by its bytes
abbrev pub ending_now : Ending (Bor (List ℕ)) → Ending (List ℕ)
ending_now ending.Help = ending.Help
ending_now (ending.Refuses cause text) = ending.Refuses cause text.now

-- a change or an ending by its bytes
abbrev pub step_now : Result (Change (Bor (List ℕ))) (Ending (Bor (List ℕ))) →
    Result (Change (List ℕ)) (Ending (List ℕ))
step_now (Ok change) = Ok (change_now change)
step_now (Err ending) = Err (ending_now ending)

-- what a reading of words answered: what is given, or how it ended
abbrev pub reads_now : Option (Ending (Bor (List ℕ))) → Reading → Result Given (Ending (List ℕ))
reads_now None reading = Ok (pairs reading.entries.items)
reads_now (Some ending) reading = Err (ending_now ending)
