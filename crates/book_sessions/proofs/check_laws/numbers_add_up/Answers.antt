use Rattle.book_sessions.proofs.Totals.{numbers_counted, packets_counted}
use Rattle.book_sessions.proofs.check_laws.numbers_add_up.Goals as goal

pub returns-clause-packets : goal.returns-clause-packets
returns-clause-packets c = packets_counted

pub returns-clause-numbers : goal.returns-clause-numbers
returns-clause-numbers c = numbers_counted
