-- The answer of `echo`, as a command's.
use Rattle.std.specs.Prelude.{ℕ, List}
use Rattle.book_answer.specs.Answers.{Answer, linked, linked_by_shared}
use Rattle.book_cmd_link.specs.declared.script.KeysFrom.{KeysFrom}
use Rattle.book_cmd_link.specs.declared.script.KeysFrom.TheVariants as keys_from
use Rattle.book_cmd_link.specs.declared.script.Script.{Script}
use Rattle.book_scope_run.specs.Echoes.{echo_of}
use Rattle.book_keys.specs.Rows.{Table}
use Rattle.book_link.specs.declared.event.Event.{Event}

-- an answer whose output is the report of a link file's events, with each event's line of the file
-- in front of its line of the report; all else of it stays (own)
abbrev pub echoed : KeysFrom → (text : List ℕ) → List Event → Answer → Answer
echoed keys text events a = record {
  status = a.status;
  output = echo_of keys text events a.output;
  text = a.text;
}

-- `echo KEYS`: the answer of `link KEYS` with the lines of a link file (own)
abbrev pub echoed_over : List Table → (text : List ℕ) → Script → Answer
echoed_over tables text s = echoed keys_from.KeyFile text s.events (linked tables s)

-- `echo`: the answer of `link` with the lines of a link file that names its shared key (own)
abbrev pub echoed_by_shared : (text : List ℕ) → Script → Answer
echoed_by_shared text s = echoed keys_from.LinkFile text s.events (linked_by_shared s)
