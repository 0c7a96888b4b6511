use Rattle.law_ends.proofs.Promising.{held_ends_whole, live_ends_whole, told_ends_whole}
use Rattle.law_ends.proofs.ends.streams_end_whole.Goals as goal

pub returns-clause-held : goal.returns-clause-held
returns-clause-held c = λ setup most doings fits all fresh. held_ends_whole setup most doings fits all fresh

pub returns-clause-told : goal.returns-clause-told
returns-clause-told c = λ setup most doings fits all fresh. told_ends_whole setup most doings fits all fresh

pub returns-clause-live : goal.returns-clause-live
returns-clause-live c = λ setup most doings fits all fresh. live_ends_whole setup most doings fits all fresh
