use Rattle.book_cmd_node.specs.declared.node.Act.TheVariants as act
use Rattle.book_stack.specs.Calls.{At}
use Rattle.aotcp_c.proofs.AnswerLaws.{begun_tries}
use Rattle.aotcp_c.proofs.open.listen.Goals as goal

pub returns-in-Some : goal.returns-in-Some
returns-in-Some c = λ s n stands. rw (← c.pair_of.ensures.told, c.in-Some.is) (begun_tries c.listen.new.self (At c.in-Some.pair (act.Listen c.args.isn)) s n c.listen.result c.begun_code.result c.begun_code.ensures (c.listen.ensures s n stands))
