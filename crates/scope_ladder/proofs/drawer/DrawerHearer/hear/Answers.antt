use Rattle.scope_ladder.specs.Drawing.{rungs_for}
use Rattle.scope_ladder.proofs.Walk.{packet_heard}
use Rattle.scope_ladder.proofs.drawer.DrawerHearer.hear.Goals as goal

pub returns-in-Ok : goal.returns-in-Ok
returns-in-Ok g c = λ q before p is stood.
    packet_heard q c.args.self.now c.draw_packet.new.self before p stood (c.in-Ok.ensures q (rungs_for q before) stood.known p is stood.follows) _ _ _ (rw c.as_slice.ensures.value at c.tell.ensures)
