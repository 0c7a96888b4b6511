use Rattle.bgp_messages.proofs.Standing.{new_stands}
use Rattle.bgp_messages.proofs.reader.BgpReader.new.Goals as goal

pub returns-clause-stands : goal.returns-clause-stands
returns-clause-stands c = rw c.in_ok-gathered.ensures new_stands
