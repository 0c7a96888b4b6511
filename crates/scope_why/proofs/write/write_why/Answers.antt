use Rattle.scope_keys.specs.KeyFiles.{key_file_of}
use Rattle.scope_why.specs.Writing.{question_of}
use Rattle.scope_why.proofs.EndLaws.{writes_answered}
use Rattle.scope_why.proofs.write.write_why.Goals as goal

pub returns-in-Ok : goal.returns-in-Ok
returns-in-Ok g c =
    let reads = c.in-Ok.ensures in
    (reads.0, writes_answered (key_file_of c.args.file) (question_of c.args.request c.args.isns.now) reads.0 _ _ _ c.in-Ok.answered _ c.write_answer.result reads.1 c.write_answer.ensures)
