use Rattle.book_sessions.proofs.Counting.{cut_counted, directions_counted, outcomes_counted, packets_counted, unrefused_counted, verdicts_counted, ways_counted}
use Rattle.book_sessions.proofs.laws.counts_are_those_of_the_verdicts.Goals as goal

pub returns-clause-verdicts : goal.returns-clause-verdicts
returns-clause-verdicts c = verdicts_counted

pub returns-clause-unrefused : goal.returns-clause-unrefused
returns-clause-unrefused c = unrefused_counted

pub returns-clause-cut : goal.returns-clause-cut
returns-clause-cut c = cut_counted

pub returns-clause-directions : goal.returns-clause-directions
returns-clause-directions c = directions_counted

pub returns-clause-outcomes : goal.returns-clause-outcomes
returns-clause-outcomes c = outcomes_counted

pub returns-clause-ways : goal.returns-clause-ways
returns-clause-ways c = ways_counted

pub returns-clause-packets : goal.returns-clause-packets
returns-clause-packets c = packets_counted
