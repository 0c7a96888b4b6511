use Rattle.std.proofs.Common.{arith}
use Rattle.std.proofs.lemmas.Bool.Decides.{nat_tests}
use Rattle.std.specs.Prelude.{nat_le, codes}
use Rattle.book_scope_texts.specs.Instants.{instant_text}
use Rattle.scope_why.proofs.Parts.{lacked}
use Rattle.scope_why.proofs.lacks.push_begins.Goals as goal

pub returns : goal.returns
returns c =
    lacked c.push_instant.result (nat_le c.args.first c.args.now) c.args.out.now.items (codes "begins at ") (instant_text c.args.first) c.extend_from_slice.new.self.items c.push_instant.new.out.items
    (let late = c.if-first-now.false in grind (arith, nat_tests)) c.in_ok-extend_from_slice.ensures.items c.push_instant.ensures
