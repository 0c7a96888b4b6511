use Rattle.std.proofs.Common.{◌≡◌, ◌++◌, ◌∷◌, [], refl}
use Rattle.book_captures.specs.PacketLines.{line_by}
use Rattle.scope_lines.specs.Writes.{found_in}
use Rattle.scope_lines.proofs.Lines.{found_within, line_done}
use Rattle.scope_lines.proofs.line.print_line.Goals as goal

pub returns : goal.returns
returns c =
    let is : c.push.new.self.items ≡ line_by c.number.result c.time.result (found_in c.frame.result.now c.datagram.result) ++ 10 ∷ [] =
    rw (c.in_ok-push.ensures.items, c.in_ok-push_line.ensures, c.clear.ensures.items) refl in
    line_done c.args.reader.now.packet c.number.result c.time.result c.frame.result.now c.datagram.result c.push.new.self.items c.number.ensures c.time.ensures c.frame.ensures c.datagram.ensures.exact is

pub push_line-requires : goal.push_line-requires
push_line-requires c = found_within c.args.reader.now.packet c.frame.result.now c.datagram.result c.requires c.frame.ensures c.datagram.ensures.ordered c.datagram.ensures.within
