-- A whole command line, and the line that tells why one is refused (own).
use Rattle.std.specs.Prelude.{ℕ, List, [], ◌∷◌, ◌++◌, ◌||◌, codes, Option, Some, None}
use Rattle.std.specs.Prelude.{Ok, Err, if◌then◌else◌}
use Rattle.std.specs.Str.{bytes_eq}
use Rattle.scope_run.specs.declared.step.Ending.TheVariants as ending
use Rattle.scope_run.specs.declared.usage.Cause.{Cause}
use Rattle.scope_run.specs.declared.usage.Cause.TheVariants as cause
use Rattle.scope_run.specs.declared.word.Page.{Page}
use Rattle.scope_run.specs.declared.word.Page.TheVariants as page
use Rattle.scope_run.specs.declared.word.Word.{Word}
use Rattle.scope_run.specs.declared.word.Word.TheVariants as word
use Rattle.scope_run.specs.Meanings.{Given}
use Rattle.scope_run.specs.WordsReadings.{Reads, reading, start}
use Rattle.scope_run.specs.Tables.{word_named}
use Rattle.scope_run.specs.Texts.{asks_help, is_dashed}

-- what a command line says (own)
pub data Meant : Type 0 where
  nothing_meant : Meant
  help_meant : Page → Meant
  version_meant : Meant
  refusal_meant : Page → Cause → List ℕ → Meant
  word_meant : Word → Given → Meant

-- what a word and those after it say (own)
abbrev pub meant_by : Word → Reads → Meant
meant_by word (Ok given) = word_meant word given
meant_by word (Err ending.Help) = help_meant (page.Of word)
meant_by word (Err (ending.Refuses cause text)) = refusal_meant (page.Of word) cause text

-- a first word that is none of the program's (own)
abbrev pub unknown_first : List ℕ → Meant
unknown_first text =
    if is_dashed text then refusal_meant page.Program cause.UnknownOption text
    else refusal_meant page.Program cause.UnknownWord text

-- what a first word and those after it say (own)
abbrev pub meant_from : Option Word → List ℕ → List (List ℕ) → Meant
meant_from None first rest = unknown_first first
meant_from (Some word) first rest = meant_by word (reading word start rest)

-- the page that `help WORD` names (own)
abbrev pub page_named : Option Word → List ℕ → Meant
page_named None name = unknown_first name
page_named (Some word) name = help_meant (page.Of word)

-- what the words after `help` say (own)
abbrev pub helped : List (List ℕ) → Meant
helped [] = help_meant page.Program
helped (name ∷ []) = page_named (word_named name) name
helped (name ∷ other ∷ rest) = refusal_meant page.Program cause.TooMany other

-- what the words of a command line say, without the program's name (own)
abbrev pub command_line_of : List (List ℕ) → Meant
command_line_of [] = nothing_meant
command_line_of (first ∷ rest) =
    if asks_help first then help_meant page.Program
    else if bytes_eq first (codes "-V") || bytes_eq first (codes "--version") then version_meant
    else if bytes_eq first (codes "help") then helped rest
    else meant_from (word_named first) first rest

-- what is told in front of the text at fault (own)
abbrev pub front_of : Cause → List ℕ
front_of cause.UnknownWord = codes "unknown word "
front_of cause.UnknownOption = codes "unknown option "
front_of cause.TooMany = codes "one argument too many, "
front_of other = []

-- what is told behind it (own)
abbrev pub behind_of : Cause → List ℕ
behind_of cause.Twice = codes " is given twice"
behind_of cause.NoValue = codes " lacks its value"
behind_of cause.ValueOfFlag = codes " takes no value"
behind_of cause.Missing = codes " is missing"
behind_of cause.WithoutDraw = codes " needs --draw"
behind_of other = []

-- the word of a page (own)
abbrev pub name_of : Page → List ℕ
name_of page.Program = []
name_of (page.Of word.Lines) = codes " lines"
name_of (page.Of word.Check) = codes " check"
name_of (page.Of word.Sessions) = codes " sessions"
name_of (page.Of word.Why) = codes " why"
name_of (page.Of word.Keys) = codes " keys"
name_of (page.Of word.Plan) = codes " plan"
name_of (page.Of word.Draw) = codes " draw"
name_of (page.Of word.Echo) = codes " echo"

-- the line that tells why words are refused (own)
abbrev pub usage_text : Page → Cause → List ℕ → List ℕ
usage_text page cause text =
    codes "usage: " ++ front_of cause ++ text ++ behind_of cause
    ++ codes " (aoscope" ++ name_of page ++ codes " --help)\n"
