use Rattle.book_pcap.proofs.Files.{read_whole, whole_is_read, read_broken, broken_is_read}
use Rattle.book_pcap.proofs.laws.packets_are_the_grammar.Goals as goal

pub returns-clause-read : goal.returns-clause-read
returns-clause-read c = read_whole

pub returns-clause-only : goal.returns-clause-only
returns-clause-only c = whole_is_read

pub returns-clause-broken : goal.returns-clause-broken
returns-clause-broken c = read_broken

pub returns-clause-only_broken : goal.returns-clause-only_broken
returns-clause-only_broken c = broken_is_read
