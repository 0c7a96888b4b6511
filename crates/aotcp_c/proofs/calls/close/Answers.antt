use Rattle.book_cmd_node.specs.declared.node.Act.TheVariants as act
use Rattle.book_stack.specs.Calls.{At}
use Rattle.aotcp_c.proofs.AnswerLaws.{done_answers}
use Rattle.aotcp_c.proofs.calls.close.Goals as goal

pub returns-in-Some : goal.returns-in-Some
returns-in-Some c = λ s n stands. rw (← c.pair_of.ensures.told, c.in-Some.is) (done_answers c.close.new.self (At c.in-Some.pair act.Close) s n c.close.result c.done_code.result c.done_code.ensures (c.close.ensures s n stands))
