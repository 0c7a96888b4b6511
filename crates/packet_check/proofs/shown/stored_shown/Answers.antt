use Rattle.std.proofs.Common.{◌∙◌}
use Rattle.scope_lines.proofs.Lines.{found_within}
use Rattle.packet_check.proofs.PacketLaws.{stored_is}
use Rattle.packet_check.proofs.shown.stored_shown.Goals as goal

pub stored_found-requires : goal.stored_found-requires
stored_found-requires c = found_within c.args.reader.now.packet c.frame.result.now c.datagram.result c.requires c.frame.ensures c.datagram.ensures.ordered c.datagram.ensures.within

pub returns : goal.returns
returns c = λ p is.
    c.stored_found.ensures p.number ∙ stored_is c.args.reader.now.packet p c.time.result c.frame.result.now c.datagram.result is c.time.ensures c.frame.ensures c.datagram.ensures.exact
