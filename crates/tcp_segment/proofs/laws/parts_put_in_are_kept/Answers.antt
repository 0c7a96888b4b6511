use Rattle.tcp_segment.proofs.WriteLaws.{payload_set, mac_set}
use Rattle.tcp_segment.proofs.laws.parts_put_in_are_kept.Goals as goal

pub returns-clause-payload : goal.returns-clause-payload
returns-clause-payload c = λ d h mac old rest put D e. payload_set put D e

pub returns-clause-mac : goal.returns-clause-mac
returns-clause-mac c = λ d h old payload rest put D e. mac_set put D e
