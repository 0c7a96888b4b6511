use Rattle.std.proofs.Common.{arith}
use Rattle.std.proofs.lemmas.Bool.Decides.{nat_tests}
use Rattle.std.specs.Prelude.{◌==◌, codes, decimal}
use Rattle.scope_why.proofs.Parts.{lacked}
use Rattle.scope_why.proofs.lacks.push_id_lack.Goals as goal

pub returns : goal.returns
returns c =
    lacked c.push_id.result (c.args.recv_id == c.args.id) c.args.out.now.items (codes "for KeyID ") (decimal c.args.recv_id) c.extend_from_slice.new.self.items c.push_id.new.out.items
    (let other = c.if-recv_id-id.false in grind (arith, nat_tests)) c.in_ok-extend_from_slice.ensures.items c.push_id.ensures
