use Rattle.book_captures.proofs.PcapCaptures.{whole_read, whole_is_read, broken_read, broken_is_read}
use Rattle.book_captures.proofs.laws.captures_of_pcap_files_are_their_grammar.Goals as goal

pub returns-clause-read : goal.returns-clause-read
returns-clause-read c = whole_read

pub returns-clause-only : goal.returns-clause-only
returns-clause-only c = whole_is_read

pub returns-clause-broken : goal.returns-clause-broken
returns-clause-broken c = broken_read

pub returns-clause-only_broken : goal.returns-clause-only_broken
returns-clause-only_broken c = broken_is_read
