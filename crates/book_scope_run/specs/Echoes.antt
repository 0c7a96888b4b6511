-- A report of a link file's run, with each event's line of the file in front of its line of the
-- report. Our own format. Its top is `echo_of`.
use Rattle.std.specs.Prelude.{ℕ, ◌+◌, Bool, true, false, List, [], ◌∷◌, ◌++◌, drop, filter}
use Rattle.std.specs.Prelude.{flat_map, codes, decimal, if◌then◌else◌}
use Rattle.book_base.specs.Lines.{is_newline, lines_of, words_of}
use Rattle.book_cmd_link.specs.declared.script.KeysFrom.{KeysFrom}
use Rattle.book_cmd_link.specs.declared.script.KeysFrom.TheVariants as keys_from
use Rattle.book_cmd_link.specs.declared.script.Script.{Script}
use Rattle.book_lines.specs.Lines.{says_something}
use Rattle.book_lines.specs.Texts.{end_text}
use Rattle.book_link.specs.declared.event.Event.{Event}
use Rattle.book_link.specs.declared.event.Event.TheVariants.{At}
use Rattle.book_link.specs.declared.event.Action.TheVariants.{Clock}
use Rattle.book_scope_texts.specs.Instants.{instant_text}

-- a part of a report, and what is echoed in front of it (own)
pub record Echo : Type 0 where
  pub echoed : List ℕ
  pub told : List ℕ

-- a line of a text says something (own)
abbrev pub is_saying : List ℕ → Bool
is_saying line = says_something (words_of line)

-- how many lines stand in front of the events of a link file; without a key file one names the key
-- (own)
abbrev pub head_count : KeysFrom → ℕ
head_count keys_from.KeyFile = 3
head_count keys_from.LinkFile = 4

-- the lines of the events of a link file, as they stand in it (own)
unfoldable pub lines_of_events : KeysFrom → List ℕ → List (List ℕ)
lines_of_events keys text = drop (head_count keys) (filter is_saying (lines_of text))

-- the first line of a text, with its newline (own)
unfoldable pub first_line : List ℕ → List ℕ
first_line [] = []
first_line (b ∷ bs) = if is_newline b then b ∷ [] else b ∷ first_line bs

-- a text without its first line (own)
unfoldable pub behind_line : List ℕ → List ℕ
behind_line [] = []
behind_line (b ∷ bs) = if is_newline b then bs else behind_line bs

-- what is echoed of the event of a number: its line (own)
unfoldable pub event_echo : (number : ℕ) → (line : List ℕ) → List ℕ
event_echo n line = decimal n ++ (codes "  " ++ (line ++ codes "  ->  "))

-- what is echoed of an event that sets a clock: the time that it shows (RFC 3339, section 5.6, and
-- own)
unfoldable pub clock_echo : Event → List ℕ
clock_echo (At end (Clock seconds)) =
    codes "   the clock of " ++ (end_text end ++ (codes " is "
    ++ (instant_text seconds ++ 10 ∷ [])))
clock_echo e = []

-- the event of a number, with its line of the report, and then its clock (own)
abbrev pub event_echoes : ℕ → (line : List ℕ) → Event → (report : List ℕ) → List Echo
event_echoes n line e report =
    record { echoed = event_echo n line; told = first_line report }
    ∷ record { echoed = clock_echo e; told = [] } ∷ []

-- the events from number n on, each with its line, and then the rest of the report (own)
unfoldable pub echoes_from :
    ℕ → (lines : List (List ℕ)) → List Event → (report : List ℕ) → List Echo
echoes_from n (l ∷ ls) (e ∷ es) report =
    event_echoes n l e report ++ echoes_from (n + 1) ls es (behind_line report)
echoes_from n lines events report = record { echoed = []; told = report } ∷ []

-- the text of some parts with what is echoed (own)
abbrev pub echoes_text : List Echo → List ℕ
echoes_text es = flat_map (λ e. e.echoed ++ e.told) es

-- the text of some parts without what is echoed (own)
abbrev pub told_text : List Echo → List ℕ
told_text es = flat_map (λ e. e.told) es

-- the report of a script that is the text of a link file, with the lines of its events (own)
unfoldable pub echo_of :
    KeysFrom → (text : List ℕ) → List Event → (report : List ℕ) → List ℕ
echo_of keys text events report =
    echoes_text (echoes_from 1 (lines_of_events keys text) events report)
