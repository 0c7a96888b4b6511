use Rattle.book_macs.proofs.MacLaws.{traffic_key_bytes, mac_bytes}
use Rattle.book_macs.proofs.lengths.macs_are_bytes.Goals as goal

pub returns-clause-keys : goal.returns-clause-keys
returns-clause-keys c = traffic_key_bytes

pub returns-clause-macs : goal.returns-clause-macs
returns-clause-macs c = mac_bytes
