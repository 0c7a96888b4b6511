use Rattle.std.proofs.Common.{◌≡◌, refl, not, ◌||◌, ◌∙◌}
use Rattle.book_lines.specs.Texts.{numbered_text}
use Rattle.book_cmd_check.specs.Captures.{Saying, saying_texts}
use Rattle.capture_check.specs.Answers.{Says}
use Rattle.cmd_check.proofs.JudgeLaws.{gathered}
use Rattle.cmd_check.proofs.judge.Judge.hear.Goals as goal
use Rattle.cmd_check.proofs.judge.Judge.hear.Goals.{in-Ok-extend_from_slice, in-Err-extend_from_slice}

pub returns-clause-gathers : goal.returns-clause-gathers
returns-clause-gathers g c =
    let texts : (w : Saying) → Says c.in-Ok.answer w → c.as_slice.result.now ≡ numbered_text c.args.number (saying_texts w) = λ w says. c.as_slice.ensures.value ∙ rw c.clear.ensures.items at (c.in-Ok-push_check_line.ensures w says) in
    rw (← c.self.view_is)
    (elim c.match-extend_from_slice.branch [
      | in-Ok-extend_from_slice w ↦ λ stored heard. rw w.result-is
          (gathered (record { checking = c.self.inside.checker; amiss = c.self.inside.amiss }) (record { checking = c.next.new.self; amiss = c.self.inside.amiss || not c.is_pass.result }) stored
          (record { number = c.args.number; time = c.args.time; bytes = c.args.bytes.now }) c.in-Ok.answer c.as_slice.result.now heard c.next.ensures.tables c.in-Ok.ensures.heard texts
          c.is_pass.result _ _ _ c.is_pass.ensures refl w.in-Ok-extend_from_slice.ensures.items)
      | in-Err-extend_from_slice w ↦ λ stored heard. rw w.result-is (record { tables = c.next.ensures.tables; heard = tt; lines = w.in-Err-extend_from_slice.ensures.items })
    ])
