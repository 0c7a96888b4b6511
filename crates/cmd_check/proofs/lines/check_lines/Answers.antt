use Rattle.std.proofs.Common.{[]}
use Rattle.cmd_check.proofs.Goings.{nothing_ends}
use Rattle.cmd_check.proofs.lines.check_lines.Goals as goal

pub returns-in-Err : goal.returns-in-Err
returns-in-Err g c = ([], nothing_ends c.args.tables _ _)

pub returns-in-Err-new : goal.returns-in-Err-new
returns-in-Err-new g c = ([], nothing_ends c.args.tables _ _)

pub check_all-requires-clause-reader : goal.check_all-requires-clause-reader
check_all-requires-clause-reader g c = c.in-Ok.ensures

pub check_all-requires-clause-heard : goal.check_all-requires-clause-heard
check_all-requires-clause-heard g c = c.in-Ok-new.ensures.heard

pub check_all-requires-clause-gathered : goal.check_all-requires-clause-gathered
check_all-requires-clause-gathered g c = c.new-gathered.ensures.items

pub returns : goal.returns
returns g c = rw c.in-Ok-new.ensures.tables at c.check_all.ensures
