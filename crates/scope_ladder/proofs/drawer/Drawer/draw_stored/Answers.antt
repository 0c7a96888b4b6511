use Rattle.std.proofs.Common.{◌∙◌, sym}
use Rattle.scope_ladder.proofs.Drawn.{adds_mended, whole_is}
use Rattle.scope_ladder.proofs.drawer.Drawer.draw_stored.Goals as goal

pub returns-in-None : goal.returns-in-None
returns-in-None g c q rungs k follows =
    adds_mended c.draw_judged.result q c.draw_judged.new.self rungs k c.args.time c.args.packet c.args.bytes.now c.args.bytes.now (sym (whole_is c.args.bytes.now (rw c.in-None.is at c.in_ok-found.ensures))) (c.draw_judged.ensures q rungs k follows)

pub returns-in-Some : goal.returns-in-Some
returns-in-Some g c q rungs k follows =
    let h = rw c.in-Some.is at c.in_ok-found.ensures in
    adds_mended c.draw_judged-in-Some.result q c.draw_judged-in-Some.new.self rungs k c.args.time c.args.packet c.args.bytes.now c.as_slice.result.now (c.as_slice.ensures.value ∙ h.1) (c.draw_judged-in-Some.ensures q rungs k follows)
