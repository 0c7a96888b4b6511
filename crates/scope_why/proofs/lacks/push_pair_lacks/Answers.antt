use Rattle.std.specs.Prelude.{codes}
use Rattle.std.specs.List.{list_any}
use Rattle.book_keys.specs.Rows.{fits_port, names}
use Rattle.book_why.specs.Lacks.{lack}
use Rattle.scope_why.proofs.Parts.{on_three}
use Rattle.scope_why.proofs.lacks.push_pair_lacks.Goals as goal

pub returns : goal.returns
returns c =
    let row = c.args.row.now in
    let pair = c.args.pair.now in
    on_three c.push_lack-3.result c.args.out.now.items (lack (list_any (λ peer. names peer pair.remote.address) row.peers) (codes "for another peer"))
    (lack (fits_port row.local_port pair.local.port) (codes "for another local port")) (lack (fits_port row.peer_port pair.remote.port) (codes "for another peer port"))
    c.push_lack.new.out.items c.push_lack-2.new.out.items c.push_lack-3.new.out.items
    (rw (← c.peers.ensures, ← c.has_peer.ensures) c.in_ok-push_lack.ensures)
    (rw (← c.local_port.ensures, ← c.fits_port.ensures) c.in_ok-push_lack-2.ensures)
    (rw (← c.peer_port.ensures, ← c.fits_port-2.ensures) c.push_lack-3.ensures)
