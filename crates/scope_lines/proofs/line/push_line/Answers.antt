use Rattle.std.proofs.Common.{arith}
use Rattle.scope_lines.proofs.Lines.{stored_line}
use Rattle.scope_lines.proofs.line.push_line.Goals as goal

pub judged-requires : goal.judged-requires
judged-requires c = let h = rw c.in-Ok.is at c.requires in omega (arith, h.0, h.1)

pub returns-in-Some : goal.returns-in-Some
returns-in-Some c =
    let h = rw c.in-Ok.is at c.requires in
    rw (stored_line c.args.number c.in-Some.time c.args.time c.args.frame.now c.in-Ok.datagram c.args.found c.judged.result.now c.in-Some.is c.in-Ok.is h.0 c.judged.ensures) at c.push_stored.ensures
