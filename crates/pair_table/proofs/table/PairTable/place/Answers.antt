use Rattle.std.proofs.Common.{◌≡◌, List, sym, subst, ◌∙◌}
use Rattle.std.specs.BTreeMap.{is_at}
use Rattle.book_base.specs.declared.address.Pair.{Pair}
use Rattle.book_base.specs.Orders.{by_pair}
use Rattle.pair_table.specs.Places.{place_of}
use Rattle.pair_table.proofs.ListLaws.{keys_seen, place_absent}
use Rattle.pair_table.proofs.table.PairTable.place.Goals as goal

pub returns-in-Ok : goal.returns-in-Ok
returns-in-Ok g c =
    let e = keys_seen c.self.inside.pairs.items c.self.inside.values.items c.args.self.now c.self.invariant.same c.self.view_is in
    record { place = subst (λ (ps : List Pair). c.in-Ok.at ≡ place_of (is_at (by_pair c.args.pair.now)) ps) (c.deref.ensures.value ∙ e) c.in-Ok.ensures.place }

pub returns-in-Err : goal.returns-in-Err
returns-in-Err g c =
    let e = keys_seen c.self.inside.pairs.items c.self.inside.values.items c.args.self.now c.self.invariant.same c.self.view_is in
    let none = place_absent c.args.pair.now c.deref.result.now c.in-Err.ensures.absent in
    let n = c.deref.ensures.len in let m = c.len.ensures in
    record { place = subst (λ (ps : List Pair). c.len.result ≡ place_of (is_at (by_pair c.args.pair.now)) ps) (c.deref.ensures.value ∙ e) (m ∙ sym n ∙ none) }
