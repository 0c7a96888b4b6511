use Rattle.std.proofs.Common.{drop, sym}
use Rattle.std.proofs.lemmas.List.{drop-drop, take_rest}
use Rattle.ao_base.proofs.Pieces.{given}
use Rattle.ao_base.proofs.memory.MemSourceSource.read.Goals as goal

pub returns-clause-reads : goal.returns-clause-reads
returns-clause-reads c =
    let rest = take_rest c.self.inside.content c.self.inside.at in
    let some = c.self.invariant.1 in
    let count = rw (c.as_slice-all.ensures, rest) at c.give-n.ensures.count in
    let bytes = rw (c.as_slice-all.ensures, rest) at c.give-n.ensures.bytes in
    rw (← c.self.view_is)
    (given (drop c.self.inside.at c.self.inside.content) c.args.buf.now c.give-n.new.buf _ c.self.inside.failing c.give-n.result c.self.inside.piece c.self.inside.faults count bytes
    (sym (drop-drop c.give-n.result c.self.inside.at c.self.inside.content)) some)
