use Rattle.packet_check.proofs.PacketWalk.{packet_kept}
use Rattle.packet_check.proofs.packets.PacketChecker.check.Goals as goal

pub returns-clause-hears : goal.returns-clause-hears
returns-clause-hears c = λ p held classes is stands tallies.
    packet_kept c.args.self.now.checker.tables c.args.self.now.all held p classes _ _ _ _ c.in_ok-class.class c.is_listed.result
    (c.in_ok-class.ensures.checks p held is stands) (c.in_ok-self.ensures classes tallies) c.is_listed.ensures c.keep_listed.ensures
