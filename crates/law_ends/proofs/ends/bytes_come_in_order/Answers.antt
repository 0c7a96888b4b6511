use Rattle.law_ends.proofs.Promising.{held_in_order, live_in_order, told_in_order}
use Rattle.law_ends.proofs.ends.bytes_come_in_order.Goals as goal

pub returns-clause-held : goal.returns-clause-held
returns-clause-held c = λ setup most doings fits all fresh. held_in_order setup most doings fits all fresh

pub returns-clause-told : goal.returns-clause-told
returns-clause-told c = λ setup most doings fits all fresh. told_in_order setup most doings fits all fresh

pub returns-clause-live : goal.returns-clause-live
returns-clause-live c = λ setup most doings fits all fresh. live_in_order setup most doings fits all fresh
