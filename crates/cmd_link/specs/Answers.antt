-- The whole answer to a link file with waits.
use Rattle.std.specs.Prelude.{ℕ, List}
use Rattle.book_keys.specs.Rows.{Table}
use Rattle.book_answer.specs.Answers.{Answer, if_read, timed_over}
use Rattle.book_cmd_link.specs.TimedRuns.{timed_script_of}

-- the answer of the definitions to a text over tables
abbrev pub timed_answer : List Table → List ℕ → Answer
timed_answer tables text = if_read (timed_over tables) (timed_script_of text)
