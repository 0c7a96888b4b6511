use Rattle.std.proofs.Common.{[]}
use Rattle.cmd_check.proofs.Walk.{ends_none}
use Rattle.cmd_check.proofs.packets.check_packets.Goals as goal

pub returns-in-Err : goal.returns-in-Err
returns-in-Err g c = ([], ends_none c.args.tables _ _)

pub returns-in-Err-new : goal.returns-in-Err-new
returns-in-Err-new g c = ([], ends_none c.args.tables _ _)

pub check_all-requires-clause-packets : goal.check_all-requires-clause-packets
check_all-requires-clause-packets g c = c.in-Ok.ensures

pub check_all-requires-clause-heard : goal.check_all-requires-clause-heard
check_all-requires-clause-heard g c = c.in-Ok-new.ensures.heard

pub check_all-requires-clause-lines : goal.check_all-requires-clause-lines
check_all-requires-clause-lines g c = c.new-lines.ensures.items

pub returns : goal.returns
returns g c = rw c.in-Ok-new.ensures.tables at c.check_all.ensures
