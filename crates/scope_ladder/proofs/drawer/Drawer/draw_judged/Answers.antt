use Rattle.scope_ladder.proofs.Drawn.{adds_stored}
use Rattle.scope_ladder.proofs.drawer.Drawer.draw_judged.Goals as goal

pub returns-in-Ok : goal.returns-in-Ok
returns-in-Ok g c q rungs k follows =
    adds_stored c.draw_datagram.result q c.draw_datagram.new.self rungs k c.args.time c.args.packet c.args.bytes.now c.in-Ok.datagram c.in-Ok.ensures.read (c.draw_datagram.ensures q rungs k follows)
