use Rattle.packet_check.proofs.PacketLaws.{stored_found}
use Rattle.packet_check.proofs.shown.stored_found.Goals as goal

pub returns-in-Some : goal.returns-in-Some
returns-in-Some c = λ number.
    let h = rw c.in-Ok.is at c.requires in
    stored_found number c.in-Some.time c.args.time c.args.frame.now c.in-Ok.datagram c.args.found c.judged.result.now c.in-Some.is c.in-Ok.is h.0 c.judged.ensures
