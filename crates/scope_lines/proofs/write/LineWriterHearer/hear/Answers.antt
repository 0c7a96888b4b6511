use Rattle.scope_lines.proofs.Walk.{line_told}
use Rattle.scope_lines.proofs.write.LineWriterHearer.hear.Goals as goal

pub returns-in-Ok : goal.returns-in-Ok
returns-in-Ok g c = λ q before p is stood.
    line_told before c.args.shown.now.packet p c.print_line.new.line.items _ _ _ is c.in-Ok.ensures (rw c.as_slice.ensures.value at c.tell.ensures)
