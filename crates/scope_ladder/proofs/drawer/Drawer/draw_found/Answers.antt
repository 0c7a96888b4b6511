use Rattle.scope_ladder.proofs.Drawn.{adds_found, adds_skipped, adds_timeless}
use Rattle.scope_ladder.proofs.drawer.Drawer.draw_found.Goals as goal

pub returns-in-Err : goal.returns-in-Err
returns-in-Err g c q rungs k follows = adds_skipped q c.args.self.now rungs k follows c.requires.text c.args.packet c.args.time c.args.frame.now c.args.found _ c.in-Err.is

pub returns-in-None : goal.returns-in-None
returns-in-None g c q rungs k follows = adds_timeless q c.args.self.now rungs k follows c.requires.text c.args.packet c.args.time c.args.frame.now c.args.found c.in-Ok.datagram c.in-Ok.is c.in-None.is

pub returns-in-Some : goal.returns-in-Some
returns-in-Some g c q rungs k follows =
    let h = rw c.in-Ok.is at c.requires.found in
    adds_found c.draw_stored.result q c.draw_stored.new.self rungs k c.args.packet c.in-Some.time c.args.time c.args.frame.now c.in-Ok.datagram c.args.found c.judged.result.now c.in-Some.is c.in-Ok.is h.0 c.judged.ensures (c.draw_stored.ensures q rungs k follows)
