use Rattle.std.proofs.Common.{[]}
use Rattle.book_cmd_check.specs.Handshakes.{given_after}
use Rattle.book_sessions.proofs.SaidLines.{lines_said, run_said}
use Rattle.book_sessions.proofs.check_laws.lines_are_those_of_check.Goals as goal

pub returns-clause-given : goal.returns-clause-given
returns-clause-given c = λ tables given packets. lines_said tables packets (given_after [] given)

pub returns-clause-run : goal.returns-clause-run
returns-clause-run c = run_said
