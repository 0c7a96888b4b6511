use Rattle.std.proofs.Common.{◌≡◌, None, Some, subst}
use Rattle.std.specs.Prelude.{slice_get}
use Rattle.pair_table.specs.Listings.{Listing}
use Rattle.pair_table.proofs.ListLaws.{none_first, none_second, some_both}
use Rattle.pair_table.proofs.table.PairTable.at.Goals as goal

pub returns-in-None : goal.returns-in-None
returns-in-None g c =
    let ps = c.self.inside.pairs.items in let vs = c.self.inside.values.items in
    subst (λ (l : Listing g.row.V.Denot). None ≡ slice_get l.entries c.args.at) c.self.view_is
    (none_first ps c.deref.result.now vs vs c.args.at c.self.invariant.same c.deref.ensures.value c.in-None.ensures.lookup.0)

pub returns-in-None-get : goal.returns-in-None-get
returns-in-None-get g c =
    let ps = c.self.inside.pairs.items in let vs = c.self.inside.values.items in
    subst (λ (l : Listing g.row.V.Denot). None ≡ slice_get l.entries c.args.at) c.self.view_is
    (none_second ps c.deref.result.now vs c.deref-in-Some.result.now c.args.at c.self.invariant.same c.deref.ensures.value c.deref-in-Some.ensures.value c.in-None-get.ensures.lookup.0)

pub returns-in-Some-get : goal.returns-in-Some-get
returns-in-Some-get g c =
    let ps = c.self.inside.pairs.items in let vs = c.self.inside.values.items in
    subst (λ (l : Listing g.row.V.Denot). Some (c.in-Some.pair.now, c.in-Some-get.value.now) ≡ slice_get l.entries c.args.at) c.self.view_is
    (some_both ps c.deref.result.now vs c.deref-in-Some.result.now c.args.at c.self.invariant.same c.deref.ensures.value c.deref-in-Some.ensures.value
    c.in-Some.ensures.lookup.0 c.in-Some.pair.now c.in-Some.ensures.lookup.1 c.in-Some-get.value.now c.in-Some-get.ensures.lookup.1)
