use Rattle.std.proofs.Common.{◌≡◌, List, None, subst, ◌∙◌, sym}
use Rattle.std.specs.BTreeMap.{is_at}
use Rattle.std.specs.Map.{lookup}
use Rattle.book_base.specs.declared.address.Pair.{Pair}
use Rattle.book_base.specs.Orders.{by_pair}
use Rattle.pair_table.specs.Listings.{Listing}
use Rattle.pair_table.specs.Places.{gap_of}
use Rattle.pair_table.proofs.ListLaws.{keys_seen, never, lookup_absent}
use Rattle.pair_table.proofs.table.PairTable.gap.Goals as goal

pub returns-in-Ok : goal.returns-in-Ok
returns-in-Ok g c =
    let ps = c.self.inside.pairs.items in let vs = c.self.inside.values.items in
    let none = lookup_absent c.args.pair.now ps vs c.self.invariant.same (subst (λ (l : Listing g.row.V.Denot). lookup (is_at (by_pair c.args.pair.now)) l.entries ≡ None) (sym c.self.view_is) c.requires) in
    absurd (never c.args.pair.now c.deref.result.now ps c.in-Ok.at c.deref.ensures.value none c.in-Ok.ensures.place c.in-Ok.ensures.within)

pub returns-in-Err : goal.returns-in-Err
returns-in-Err g c =
    let e = keys_seen c.self.inside.pairs.items c.self.inside.values.items c.args.self.now c.self.invariant.same c.self.view_is in
    record { gap = subst (λ (ps : List Pair). c.in-Err.at ≡ gap_of c.args.pair.now ps) (c.deref.ensures.value ∙ e) c.in-Err.ensures.gap }
