-- The words of the command line, and the options and arguments of each, by the names that users
-- write (own).
use Rattle.std.specs.Prelude.{ℕ, List, [], ◌∷◌, codes, Option, Some, None, if◌then◌else◌}
use Rattle.std.specs.Str.{bytes_eq}
use Rattle.scope_run.specs.declared.word.Word.{Word}
use Rattle.scope_run.specs.declared.word.Word.TheVariants as word

-- the word that is written so (own)
abbrev pub word_named : List ℕ → Option Word
word_named name =
    if bytes_eq name (codes "lines") then Some word.Lines
    else if bytes_eq name (codes "check") then Some word.Check
    else if bytes_eq name (codes "sessions") then Some word.Sessions
    else if bytes_eq name (codes "why") then Some word.Why
    else if bytes_eq name (codes "keys") then Some word.Keys
    else if bytes_eq name (codes "plan") then Some word.Plan
    else if bytes_eq name (codes "draw") then Some word.Draw
    else if bytes_eq name (codes "echo") then Some word.Echo
    else None

-- the options of a word that have a value (own)
abbrev pub valued_options_of : Word → List (List ℕ)
valued_options_of word.Lines = codes "-r" ∷ []
valued_options_of word.Check = codes "--isn" ∷ codes "-r" ∷ []
valued_options_of word.Sessions =
    codes "--draw" ∷ codes "--from" ∷ codes "--to" ∷ codes "--isn" ∷ codes "-r"
    ∷ codes "--retire" ∷ codes "--every" ∷ codes "--laps" ∷ []
valued_options_of word.Why = codes "--isn" ∷ codes "-r" ∷ []
valued_options_of word.Keys = []
valued_options_of word.Plan = codes "-r" ∷ []
valued_options_of word.Draw = codes "-r" ∷ []
valued_options_of word.Echo = codes "-r" ∷ []

-- the options of a word that have none (own)
abbrev pub flags_of : Word → List (List ℕ)
flags_of word.Lines = []
flags_of word.Check = codes "--all" ∷ []
flags_of word.Sessions = codes "--svg" ∷ codes "--all" ∷ codes "--json" ∷ []
flags_of word.Why = codes "--keys" ∷ []
flags_of word.Keys = []
flags_of word.Plan = codes "--draw" ∷ codes "--svg" ∷ []
flags_of word.Draw = codes "--svg" ∷ []
flags_of word.Echo = []

-- the options of a word that are there only beside `--draw` (own)
abbrev pub options_with_draw_of : Word → List (List ℕ)
options_with_draw_of word.Sessions = codes "--svg" ∷ codes "--from" ∷ codes "--to" ∷ []
options_with_draw_of word.Plan = codes "--svg" ∷ []
options_with_draw_of other = []

-- the arguments of a word, in their order (own)
abbrev pub arguments_of : Word → List (List ℕ)
arguments_of word.Lines = []
arguments_of word.Check = codes "KEYS" ∷ []
arguments_of word.Sessions = codes "KEYS" ∷ []
arguments_of word.Why = codes "KEYS" ∷ codes "N" ∷ []
arguments_of word.Keys = codes "KEYS" ∷ []
arguments_of word.Plan =
    codes "KEYS" ∷ codes "LEAD" ∷ codes "LAG" ∷ codes "FROM" ∷ codes "TO" ∷ []
arguments_of word.Draw = codes "KEYS" ∷ []
arguments_of word.Echo = codes "KEYS" ∷ []

-- those that must be there: all, but the key file of `draw` and of `echo` (own)
abbrev pub required_of : Word → List (List ℕ)
required_of word.Draw = []
required_of word.Echo = []
required_of other = arguments_of other
