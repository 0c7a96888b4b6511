-- The answer on one packet, as the machine makes it (own).
use Rattle.std.specs.Prelude.{◌≡◌, ℕ, Bool, List, ◌++◌, Result}
use Rattle.toml.specs.View.{table_view}
use Rattle.book_keys.specs.Rows.{Table}
use Rattle.book_cmd_check.specs.declared.given.GivenIsns.{GivenIsns}
use Rattle.book_cmd_check.specs.Captures.{Stored, is_pass}
use Rattle.book_scope_plan.specs.AdminNames.{KeyFile}
use Rattle.book_segments.specs.Segments.{Bad, Read, Reading, Segment, reading}
use Rattle.book_sessions.specs.declared.outcome.PassedOver.{PassedOver}
use Rattle.book_sessions.specs.Sessions.{judged_of}
use Rattle.book_sessions.specs.AsSent.{told_fault}
use Rattle.book_sessions.specs.declared.outcome.PassedOver.TheVariants as passed
use Rattle.book_why.specs.Answers.{Behind, WhyAsked, answer_behind, no_segment_line, passes_behind}
use Rattle.book_why.specs.Answers.{said_and_why, said_behind, segment_line, unset_text}
use Rattle.scope_why.specs.declared.question.Question.{Question}
use Rattle.scope_why.specs.declared.answer.Answered.{Answered}

-- the key file: the document that is asked about, and the tables that the checker judges by
abbrev pub key_file_of : Question → List Table → KeyFile
key_file_of a tables = record { document = table_view a.document.now; tables = tables }

-- the question
abbrev pub asked_of : Question → List GivenIsns → ℕ → WhyAsked
asked_of a given number = record { given = given; number = number; with_key = a.with_key }

-- what is said of a segment, and why, was put behind a text; and whether it passes
pub record SaysWhy (keys : KeyFile) (b : Behind) (with_key : Bool) (s : Stored) (d : Segment)
    (before now : List ℕ) (passes : Bool) : Type 0 where
  pub text : now ≡ before ++ said_and_why keys b with_key s d
  pub passing : passes ≡ is_pass (said_behind keys.tables b s)

-- the text for what is judged of a packet behind others, whose header checksum may not be set
abbrev pub judged_text : KeyFile → Behind → (with_key unset : Bool) → Stored → Reading → List ℕ
judged_text keys b with_key unset s (Bad fault) =
    no_segment_line s.number (passed.Faulty (told_fault s.bytes fault))
judged_text keys b with_key unset s (Read d) =
    segment_line s d ++ (unset_text unset ++ said_and_why keys b with_key s d)

-- this is the answer on what is judged of a packet, whose header checksum may not be set
pub record AnswersJudged (keys : KeyFile) (b : Behind) (with_key unset : Bool) (s : Stored)
    (answered : Answered) : Type 0 where
  pub text : answered.text.items ≡ judged_text keys b with_key unset s (reading s.bytes)
  pub passing : answered.passes ≡ is_pass (said_behind keys.tables b s)

-- this is the answer on a packet that has this
pub record AnswersBehind (keys : KeyFile) (b : Behind) (with_key : Bool) (number : ℕ)
    (stored : Result Stored PassedOver) (answered : Answered) : Type 0 where
  pub text : answered.text.items ≡ answer_behind keys b with_key number stored
  pub passing : answered.passes ≡ passes_behind keys.tables b (judged_of stored)
