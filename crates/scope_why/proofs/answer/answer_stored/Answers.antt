use Rattle.std.proofs.Common.{◌∙◌, false, true}
use Rattle.scope_why.specs.Replies.{key_file_of}
use Rattle.scope_why.proofs.FrontLaws.{mended_found, whole_is}
use Rattle.scope_why.proofs.answer.answer_stored.Goals as goal

pub returns-in-None : goal.returns-in-None
returns-in-None g c = λ b stands.
    let free = rw c.in-None.is at c.in_ok-found.ensures in
    mended_found c.answer_judged.result (key_file_of c.args.question.now c.args.checker.now.tables) b c.args.question.now.with_key false c.args.number c.args.stored.time c.args.stored.bytes.now c.args.stored.bytes.now
    free (whole_is c.args.stored.bytes.now free) (c.answer_judged.ensures b stands)

pub returns-in-Some : goal.returns-in-Some
returns-in-Some g c = λ b stands.
    let h = rw c.in-Some.is at c.in_ok-found.ensures in
    mended_found c.answer_judged-in-Some.result (key_file_of c.args.question.now c.args.checker.now.tables) b c.args.question.now.with_key true c.args.number c.args.stored.time c.args.stored.bytes.now c.as_slice.result.now
    h.0 (c.as_slice.ensures.value ∙ h.1) (c.answer_judged-in-Some.ensures b stands)
