use Rattle.std.specs.Prelude.{◌==◌, ◌++◌, codes, decimal}
use Rattle.book_keys.specs.Rows.{receives}
use Rattle.book_why.specs.Lacks.{lack, lacks, lifetime_lacks, pair_lacks}
use Rattle.scope_why.proofs.Parts.{on_four}
use Rattle.scope_why.proofs.lacks.push_lacks.Goals as goal

pub returns : goal.returns
unfolding lacks
returns c =
    let row = c.args.row.now in
    on_four c.push_lifetime_lacks.result c.args.out.now.items (pair_lacks row c.args.pair.now) (lack (receives row.direction) (codes "not for what comes in"))
    (lack (row.recv_id == c.args.id) (codes "for KeyID " ++ decimal row.recv_id)) (lifetime_lacks row.accepting c.args.now)
    c.push_pair_lacks.new.out.items c.push_lack.new.out.items c.push_id_lack.new.out.items c.push_lifetime_lacks.new.out.items
    c.in_ok-push_pair_lacks.ensures
    (rw (← c.direction.ensures, ← c.receives.ensures) c.in_ok-push_lack.ensures)
    (rw (← c.recv_id.ensures) c.in_ok-push_id_lack.ensures)
    (rw (← c.accepting.ensures) c.push_lifetime_lacks.ensures)
