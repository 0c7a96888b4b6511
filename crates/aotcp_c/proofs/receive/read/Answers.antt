use Rattle.std.proofs.Common.{length}
use Rattle.book_cmd_node.specs.declared.node.Act.TheVariants as act
use Rattle.book_stack.specs.Calls.{At}
use Rattle.aotcp_c.proofs.AnswerLaws.{nothing_taken, something_taken}
use Rattle.aotcp_c.proofs.receive.read.Goals as goal

pub returns-in-None-take-clause-reads : goal.returns-in-None-take-clause-reads
returns-in-None-take-clause-reads c = λ s n stands. rw (← c.pair_of.ensures.told, c.in-Some.is) (nothing_taken c.take.new.self (At c.in-Some.pair (act.Take (length c.args.room.now))) s n c.args.room.now c.take.new.room c.args.told.now c.take.result c.in-None-take.is (c.take.ensures.taken s n stands))

pub returns-in-Some-take-clause-reads : goal.returns-in-Some-take-clause-reads
returns-in-Some-take-clause-reads c = λ s n stands. rw (← c.pair_of.ensures.told, c.in-Some.is) (something_taken c.take.new.self (At c.in-Some.pair (act.Take (length c.args.room.now))) s n c.args.room.now c.take.new.room c.in-Some-take.taken c.take.result c.in-Some-take.is (c.take.ensures.taken s n stands))
