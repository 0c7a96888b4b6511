use Rattle.std.proofs.Common.{◌≡◌, true, Option, sym, subst}
use Rattle.book_answer.specs.declared.command.Command.{Command}
use Rattle.ao_run.specs.Gathered.{is_ready}
use Rattle.ao_run.proofs.CommandLaws.{named_ready}
use Rattle.ao_run.proofs.command.named.Goals as goal

pub returns-clause-ready : goal.returns-clause-ready
returns-clause-ready c = subst (λ (o : Option Command). is_ready o ≡ true) (sym c.command_of.ensures) (named_ready c.args.words.now)
