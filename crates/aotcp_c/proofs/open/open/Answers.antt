use Rattle.book_cmd_node.specs.declared.node.Act.TheVariants as act
use Rattle.book_stack.specs.Calls.{At}
use Rattle.aotcp_c.proofs.AnswerLaws.{begun_tries}
use Rattle.aotcp_c.proofs.open.open.Goals as goal

pub returns-in-Some : goal.returns-in-Some
returns-in-Some c = λ s n stands. rw (← c.pair_of.ensures.told, c.in-Some.is) (begun_tries c.open.new.self (At c.in-Some.pair (act.Open c.args.isn)) s n c.open.result c.begun_code.result c.begun_code.ensures (c.open.ensures s n stands))
