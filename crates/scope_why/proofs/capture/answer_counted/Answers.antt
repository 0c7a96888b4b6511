use Rattle.std.proofs.Common.{[]}
use Rattle.scope_why.specs.Replies.{asked_of, key_file_of}
use Rattle.scope_why.proofs.Walk.{ends_none}
use Rattle.scope_why.proofs.capture.answer_counted.Goals as goal

pub returns-in-Err : goal.returns-in-Err
returns-in-Err g c = ([], ends_none (key_file_of c.args.question.now c.args.tables) (asked_of c.args.question.now c.args.given.now c.args.number) _)

pub returns-in-Err-behind : goal.returns-in-Err-behind
returns-in-Err-behind g c = ([], ends_none (key_file_of c.args.question.now c.args.tables) (asked_of c.args.question.now c.args.given.now c.args.number) _)

pub returns-in-Err-told_first : goal.returns-in-Err-told_first
returns-in-Err-told_first g c = ([], ends_none (key_file_of c.args.question.now c.args.tables) (asked_of c.args.question.now c.args.given.now c.args.number) _)

pub answer_behind-requires-clause-reader : goal.answer_behind-requires-clause-reader
answer_behind-requires-clause-reader g c = c.in-Ok.ensures

pub answer_behind-requires-clause-stands : goal.answer_behind-requires-clause-stands
answer_behind-requires-clause-stands g c = rw c.in-Ok-told_first.ensures c.in-Ok-behind.ensures.stands

pub returns : goal.returns
returns g c = rw (c.in-Ok-behind.ensures.tables, c.in-Ok-told_first.ensures) at c.answer_behind.ensures
