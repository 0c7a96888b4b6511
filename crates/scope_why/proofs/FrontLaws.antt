-- What stands behind one packet more, and what is said of bytes that are no segment.
use Rattle.std.proofs.Common.{◌≡◌, ℕ, Bool, false, List, ◌++◌, append_assoc, Result, Ok, Err, IfOk, OnOk, refl, sym, ap, ◌∙◌}
use Rattle.book_cmd_check.specs.declared.given.GivenIsns.{GivenIsns}
use Rattle.book_cmd_check.specs.Captures.{Connection, Stored, hear, hear_read, is_pass}
use Rattle.book_keys.specs.Rows.{Table}
use Rattle.book_scope_plan.specs.AdminNames.{KeyFile}
use Rattle.book_segments.specs.declared.fault.DatagramFault.{DatagramFault}
use Rattle.book_segments.specs.Segments.{Bad, Read, Reading, Segment, reading}
use Rattle.book_sessions.specs.declared.outcome.PassedOver.{PassedOver}
use Rattle.book_sessions.specs.declared.outcome.PassedOver.TheVariants as passed
use Rattle.book_sessions.specs.AsSent.{lacks_checksum, mended, told_fault}
use Rattle.book_why.specs.Answers.{Behind, answer_to_reading, no_segment_line, said_and_why, segment_line, unset_text}
use Rattle.book_why.specs.OtherIsns.{told_by_reading}
use Rattle.capture_check.specs.declared.answer.CheckLine.{CheckLine}
use Rattle.book_base.specs.declared.address.Pair.{Pair}
use Rattle.capture_check.specs.declared.flows.Flows.{Flows}
use Rattle.capture_check.specs.Checkers.{Hears}
use Rattle.scope_why.specs.declared.answer.Answered.{Answered}
use Rattle.scope_why.specs.Fronts.{StandsBehind, behind_one}
use Rattle.scope_why.specs.Replies.{AnswersBehind, AnswersJudged, SaysWhy, judged_text}

pub heard_front : (tables : List Table) (entries entries_now : List (Pair × Flows)) (told told_now : List GivenIsns) (b : Behind) (s : Stored) (line : CheckLine) → StandsBehind entries told b
    → told_now ≡ told ++ told_by_reading (reading s.bytes) → Hears entries_now line (hear tables b.held s.time s.bytes) → StandsBehind entries_now told_now (behind_one tables b (Ok s))
heard_front tables entries entries_now told told_now b s line stands is hears =
    record { stands = hears.stands; tells = is ∙ ap (λ (x : List GivenIsns). x ++ told_by_reading (reading s.bytes)) stands.tells }

-- the answer on what is passed over
pub other_answered : (keys : KeyFile) (b : Behind) (with_key : Bool) (number : ℕ) (why : PassedOver) (a : Answered) → a.text.items ≡ no_segment_line number why → a.passes ≡ false
    → AnswersBehind keys b with_key number (Err why) a
other_answered keys b with_key number why a text passes = record { text = text; passing = passes }

bad_said : (tables : List Table) (held : List Connection) (now : ℕ) (r : Reading) (fault : DatagramFault) → r ≡ Bad fault → is_pass (hear_read tables held now r).saying ≡ false
bad_said tables held now (Bad f) fault e = refl
bad_said tables held now (Read d) fault e = absurd (cc)

-- the answer on bytes that are no segment
pub bad_answered : (keys : KeyFile) (b : Behind) (with_key unset : Bool) (s : Stored) (fault : DatagramFault) (a : Answered) → reading s.bytes ≡ Bad fault → a.text.items ≡ no_segment_line s.number (passed.Faulty (told_fault s.bytes fault))
    → a.passes ≡ false → AnswersJudged keys b with_key unset s a
unfolding hear
bad_answered keys b with_key unset s fault a bad text passes = record { text = rw bad text; passing = passes ∙ sym (bad_said keys.tables b.held s.time (reading s.bytes) fault bad) }

-- the same of an answer that was made
pub bad_found : {E : Type 0} (r : Result Answered E) (keys : KeyFile) (b : Behind) (with_key unset : Bool) (s : Stored) (fault told : DatagramFault) → reading s.bytes ≡ Bad fault → told ≡ told_fault s.bytes fault
    → IfOk r (λ a. a.text.items ≡ no_segment_line s.number (passed.Faulty told)) → IfOk r (λ a. a.passes ≡ false) → IfOk r (λ a. AnswersJudged keys b with_key unset s a)
bad_found (Ok a) keys b with_key unset s fault told bad is text passes = bad_answered keys b with_key unset s fault a bad (rw is at text) passes
bad_found (Err e) keys b with_key unset s fault told bad is text passes = tt

pub other_found : {E : Type 0} (r : Result Answered E) (keys : KeyFile) (b : Behind) (with_key : Bool) (number : ℕ) (why : PassedOver) → IfOk r (λ a. a.text.items ≡ no_segment_line number why)
    → IfOk r (λ a. a.passes ≡ false) → IfOk r (λ a. AnswersBehind keys b with_key number (Err why) a)
other_found (Ok a) keys b with_key number why text passes = other_answered keys b with_key number why a text passes
other_found (Err e) keys b with_key number why text passes = tt

-- the answer on a segment
pub segment_answered : (keys : KeyFile) (b : Behind) (with_key unset : Bool) (s : Stored) (d : Segment) (front before now : List ℕ) (a : Answered) (passes : Bool) → reading s.bytes ≡ Read d → front ≡ segment_line s d
    → before ≡ front ++ unset_text unset → SaysWhy keys b with_key s d before now passes → a.text.items ≡ now → a.passes ≡ passes → AnswersJudged keys b with_key unset s a
segment_answered keys b with_key unset s d front before now a passes read line more says text is =
    let said = said_and_why keys b with_key s d in
    record {
      text = rw read (text ∙ (says.text ∙ (ap (λ (x : List ℕ). x ++ said) (more ∙ ap (λ (x : List ℕ). x ++ unset_text unset) line) ∙ append_assoc (segment_line s d) (unset_text unset) said)));
      passing = is ∙ says.passing;
    }

-- the line of a segment says nothing of its bytes as they were stored
same_line : (number time : ℕ) (one other : List ℕ) (d : Segment) → segment_line (record { number = number; time = time; bytes = one }) d ≡ segment_line (record { number = number; time = time; bytes = other }) d
unfolding segment_line
same_line number time one other d = refl

-- what is told of a packet is told of what is judged of it
same_text : (keys : KeyFile) (b : Behind) (with_key : Bool) (number time : ℕ) (bytes : List ℕ) (r : Reading)
    → judged_text keys b with_key (lacks_checksum bytes) (record { number = number; time = time; bytes = mended bytes }) r ≡ answer_to_reading keys b with_key (record { number = number; time = time; bytes = bytes }) r
same_text keys b with_key number time bytes (Bad fault) = refl
same_text keys b with_key number time bytes (Read d) =
    ap (λ (x : List ℕ). x ++ (unset_text (lacks_checksum bytes) ++ said_and_why keys b with_key (record { number = number; time = time; bytes = mended bytes }) d)) (same_line number time (mended bytes) bytes d)

judged_found : (keys : KeyFile) (b : Behind) (with_key unset : Bool) (number time : ℕ) (bytes whole : List ℕ) (a : Answered) → lacks_checksum bytes ≡ unset → whole ≡ mended bytes
    → AnswersJudged keys b with_key unset (record { number = number; time = time; bytes = whole }) a → AnswersBehind keys b with_key number (Ok (record { number = number; time = time; bytes = bytes })) a
judged_found keys b with_key unset number time bytes whole a lacks is answers =
    let judged = rw (is, sym lacks) at answers in
    record { text = judged.text ∙ same_text keys b with_key number time bytes (reading (mended bytes)); passing = judged.passing }

-- the answer on bytes with their header checksum, where it wasn't set or was
pub mended_found : {E : Type 0} (r : Result Answered E) (keys : KeyFile) (b : Behind) (with_key unset : Bool) (number time : ℕ) (bytes whole : List ℕ) → lacks_checksum bytes ≡ unset → whole ≡ mended bytes
    → IfOk r (λ a. AnswersJudged keys b with_key unset (record { number = number; time = time; bytes = whole }) a) → IfOk r (λ a. AnswersBehind keys b with_key number (Ok (record { number = number; time = time; bytes = bytes })) a)
mended_found (Ok a) keys b with_key unset number time bytes whole lacks is answers = judged_found keys b with_key unset number time bytes whole a lacks is answers
mended_found (Err e) keys b with_key unset number time bytes whole lacks is answers = tt

-- bytes whose header checksum is set
pub whole_is : (bytes : List ℕ) → lacks_checksum bytes ≡ false → bytes ≡ mended bytes
unfolding mended
whole_is bytes free = rw free refl

-- what stands behind bytes with their header checksum
pub mended_behind : {E : Type 0} (r : Result (Unit {0}) E) (tables : List Table) (entries : List (Pair × Flows)) (told : List GivenIsns) (b : Behind) (number time : ℕ) (bytes whole : List ℕ) → whole ≡ mended bytes
    → OnOk r (StandsBehind entries told (behind_one tables b (Ok (record { number = number; time = time; bytes = whole })))) → OnOk r (StandsBehind entries told (behind_one tables b (Ok (record { number = number; time = time; bytes = mended bytes }))))
mended_behind r tables entries told b number time bytes whole is stands = rw is at stands
