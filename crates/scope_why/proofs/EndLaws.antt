-- What was answered and what was written of it.
use Rattle.std.proofs.Common.{ℕ, Bool, List, Result, Ok, Err}
use Rattle.ao_base.specs.Outside.{Side}
use Rattle.ao_base.proofs.Sides.{took_none}
use Rattle.book_scope_plan.specs.AdminNames.{KeyFile}
use Rattle.book_why.specs.Answers.{WhyAsked}
use Rattle.capture_walk.specs.declared.walking.WalkHalt.{WalkHalt}
use Rattle.capture_walk.specs.declared.walking.WalkHalt.TheVariants as halt
use Rattle.scope_why.specs.declared.answer.Answered.{Answered}
use Rattle.scope_why.specs.Reading.{IsAnswer, Reads}
use Rattle.scope_why.specs.Writing.{Ends, Writes, WritesAnswer}

module _ (keys : KeyFile) (asked : WhyAsked) (given : List ℕ) (a c o : Side) where
  ends_written : (answered : Answered) (q : Side) (result : Result Bool WalkHalt) → IsAnswer keys asked given c answered.text.items answered.passes → WritesAnswer answered o q result → Ends keys asked given a c o q result
  ends_written answered q (Ok passes) answer wrote = record { text = answered.text.items; is = rw (wrote.0) answer; wrote = wrote.1 }
  ends_written answered q (Err (halt.Broken fault)) answer wrote = absurd wrote
  ends_written answered q (Err halt.TooLong) answer wrote = absurd wrote
  ends_written answered q (Err halt.Read) answer wrote = absurd wrote
  ends_written answered q (Err halt.Write) answer wrote = record { text = answered.text.items; passes = answered.passes; is = answer; breaks = wrote }
  ends_written answered q (Err halt.Memory) answer wrote = absurd wrote

  -- the answer was written, or not
  pub writes_answered : (answered : Answered) (q : Side) (result : Result Bool WalkHalt) → Reads keys asked given a c (Ok answered) → WritesAnswer answered o q result → Writes keys asked given a c o q result
  writes_answered answered q result reads wrote = record { gave = reads.gave; bytes = reads.bytes; ends = ends_written answered q result reads.ends wrote }

  ends_halted : (h : WalkHalt) → Reads keys asked given a c (Err h) → Ends keys asked given a c o o (Err h)
  ends_halted (halt.Broken fault) reads = (reads.ends, took_none o)
  ends_halted halt.TooLong reads = (reads.ends.0, (reads.ends.1, took_none o))
  ends_halted halt.Read reads = (reads.ends.0, (reads.ends.1, took_none o))
  ends_halted halt.Write reads = absurd reads.ends
  ends_halted halt.Memory reads = (reads.ends, took_none o)

  -- there is no answer
  pub writes_halted : (h : WalkHalt) → Reads keys asked given a c (Err h) → Writes keys asked given a c o o (Err h)
  writes_halted h reads = record { gave = reads.gave; bytes = reads.bytes; ends = ends_halted h reads }
