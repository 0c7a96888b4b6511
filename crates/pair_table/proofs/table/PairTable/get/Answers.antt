use Rattle.std.proofs.Common.{◌≡◌, List, sym, ap, ◌∙◌}
use Rattle.std.specs.BTreeMap.{is_at}
use Rattle.std.specs.Map.{lookup}
use Rattle.std.specs.Prelude.{slice_get}
use Rattle.std.specs.Borrow.{Bor}
use Rattle.book_base.specs.Orders.{by_pair}
use Rattle.pair_table.specs.Listings.{Listing}
use Rattle.pair_table.specs.Places.{place_of}
use Rattle.pair_table.proofs.ListLaws.{found_zip, got, keys_seen}
use Rattle.pair_table.proofs.table.PairTable.get.Goals as goal

pub returns : goal.returns
returns g c =
    let test = is_at (by_pair c.args.pair.now) in
    let ps = c.self.inside.pairs.items in let vs = c.self.inside.values.items in
    let at : c.place-at.result ≡ place_of test ps = c.place-at.ensures.place ∙ ap (place_of test) (sym (keys_seen ps vs c.args.self.now c.self.invariant.same c.self.view_is)) in
    got (λ (v : Bor g.row.V.Denot). v.now) c.deref.result.now c.place-at.result c.get.result c.get.ensures.lookup.0 c.get.ensures.lookup.1
    ∙ ap (λ (xs : List g.row.V.Denot). slice_get xs c.place-at.result) c.deref.ensures.value
    ∙ ap (slice_get vs) at
    ∙ found_zip test ps vs c.self.invariant.same
    ∙ ap (λ (l : Listing g.row.V.Denot). lookup test l.entries) c.self.view_is
