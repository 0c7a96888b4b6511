use Rattle.book_cmd_node.specs.declared.node.Act.TheVariants as act
use Rattle.book_stack.specs.Calls.{At}
use Rattle.aotcp_c.proofs.AnswerLaws.{done_answers}
use Rattle.aotcp_c.proofs.calls.remove.Goals as goal

pub returns-in-Some : goal.returns-in-Some
returns-in-Some c = λ s n stands. rw (← c.pair_of.ensures.told, c.in-Some.is) (done_answers c.remove.new.self (At c.in-Some.pair act.Remove) s n c.remove.result c.done_code.result c.done_code.ensures (c.remove.ensures s n stands))
