use Rattle.pcap_file.proofs.Going.{goes_on}
use Rattle.pcap_file.proofs.Walking.{exact_call, walk_call, quiet_call}
use Rattle.pcap_file.proofs.packets.Packets.next.Goals as goal

pub returns-clause-steps : goal.returns-clause-steps
returns-clause-steps g c = (c.advance.ensures.0, c.advance.ensures.1, goes_on _ _ _ _ c.advance.ensures.0 c.advance.result c.advance.ensures.1)

pub returns-clause-exact : goal.returns-clause-exact
returns-clause-exact g c = λ left told. exact_call _ _ _ _ c.advance.ensures.0 left c.advance.result told c.advance.ensures.1

pub returns-clause-walks : goal.returns-clause-walks
returns-clause-walks g c = λ left told. walk_call _ _ _ _ c.advance.ensures.0 left c.advance.result told c.advance.ensures.1

pub returns-clause-quiet : goal.returns-clause-quiet
returns-clause-quiet g c = λ left quiet. quiet_call _ _ _ _ c.advance.ensures.0 left c.advance.result quiet c.advance.ensures.1
