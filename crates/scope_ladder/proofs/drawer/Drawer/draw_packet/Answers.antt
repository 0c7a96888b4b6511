use Rattle.scope_lines.proofs.Lines.{found_within}
use Rattle.scope_ladder.proofs.Drawn.{adds_on}
use Rattle.scope_ladder.proofs.drawer.Drawer.draw_packet.Goals as goal

pub draw_found-requires-clause-found : goal.draw_found-requires-clause-found
draw_found-requires-clause-found g c = found_within c.args.reader.now.packet c.frame.result.now c.datagram.result c.requires.shown c.frame.ensures c.datagram.ensures.ordered c.datagram.ensures.within

pub returns : goal.returns
returns g c q rungs k p is follows =
    adds_on c.draw_found.result q c.draw_found.new.self rungs k c.args.reader.now.packet p c.number.result c.time.result c.frame.result.now c.datagram.result is c.number.ensures c.time.ensures c.frame.ensures c.datagram.ensures.exact
    (c.draw_found.ensures q rungs k (record { form = follows.form; judging = follows.judging; knows = follows.knows; number = follows.number; seeks = follows.seeks; within = follows.within; left = follows.left; kept = follows.kept }))
