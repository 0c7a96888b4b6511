use Rattle.link_world.proofs.WorldLaws.{one_family}
use Rattle.link_world.proofs.ranges.see_sockets.Goals as goal

pub returns : goal.returns
returns c = record {
  family = one_family c.args.a.now.address c.args.b.now.address c.requires.family c.see_address.ensures c.see_address-2.ensures;
  a_port = c.see_port.ensures;
  b_port = c.see_port-2.ensures;
}
