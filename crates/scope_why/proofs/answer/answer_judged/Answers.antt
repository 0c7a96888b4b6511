use Rattle.scope_why.specs.Replies.{key_file_of}
use Rattle.scope_why.proofs.FrontLaws.{bad_found}
use Rattle.scope_why.proofs.answer.answer_judged.Goals as goal

pub returns-in-Err : goal.returns-in-Err
returns-in-Err g c = λ b stands.
    bad_found c.answer_other.result (key_file_of c.args.question.now c.args.checker.now.tables) b c.args.question.now.with_key c.args.unset (record { number = c.args.number; time = c.args.stored.time; bytes = c.args.stored.bytes.now }) c.in-Err.fault c.told_fault.result
    c.in-Err.ensures.refused c.told_fault.ensures c.answer_other.ensures.text c.answer_other.ensures.passes
