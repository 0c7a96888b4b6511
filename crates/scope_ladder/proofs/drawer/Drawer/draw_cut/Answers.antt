use Rattle.std.proofs.Common.{◌/◌, refl}
use Rattle.book_segments.specs.Segments.{reading}
use Rattle.book_cmd_check.specs.Captures.{Stored}
use Rattle.scope_ladder.proofs.Drawn.{adds_bad, fault_of}
use Rattle.scope_ladder.proofs.drawer.Drawer.draw_cut.Goals as goal

pub returns-in-None : goal.returns-in-None
returns-in-None c q rungs k follows =
    let fault = fault_of (reading c.args.bytes.now) c.requires.bad in
    let s : Stored = record { number = c.args.packet; time = c.args.time / 1000000000; bytes = c.args.bytes.now } in
    adds_bad q c.args.self.now rungs k follows c.requires.text s c.args.time fault.0 fault.1 (rw c.in-None.is at c.in_ok-found.ensures)

pub returns-in-Some : goal.returns-in-Some
returns-in-Some c q rungs k follows =
    let fault = fault_of (reading c.args.bytes.now) c.requires.bad in
    let s : Stored = record { number = c.args.packet; time = c.args.time / 1000000000; bytes = c.args.bytes.now } in
    let whole = rw c.in-Some.is at c.in_ok-found.ensures in
    c.draw_whole.ensures q rungs k s fault.0 whole.0 follows (rw (← c.as_slice.ensures.value) at whole.1) (record { number = refl; bad = fault.1; cut = whole.2 })
