use Rattle.book_stack.specs.Calls.{Withdraw}
use Rattle.aotcp_c.proofs.AnswerLaws.{withdrawn_answers}
use Rattle.aotcp_c.proofs.rows.withdraw.Goals as goal

pub returns : goal.returns
returns c = λ s n stands. withdrawn_answers c.withdraw.new.self (Withdraw c.args.number) s n c.withdraw.result c.withdrawn_code.result c.withdrawn_code.ensures (c.withdraw.ensures s n stands)
