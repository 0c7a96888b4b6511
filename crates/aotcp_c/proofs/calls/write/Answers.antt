use Rattle.book_cmd_node.specs.declared.node.Act.TheVariants as act
use Rattle.book_stack.specs.Calls.{At}
use Rattle.aotcp_c.proofs.AnswerLaws.{given_answers}
use Rattle.aotcp_c.proofs.calls.write.Goals as goal

pub returns-in-Some : goal.returns-in-Some
returns-in-Some c = λ s n stands. rw (← c.pair_of.ensures.told, c.in-Some.is) (given_answers c.give.new.self (At c.in-Some.pair (act.Give c.args.piece.now)) s n c.give.result c.given_code.result c.given_code.ensures (c.give.ensures s n stands))
