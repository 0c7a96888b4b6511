use Rattle.std.proofs.Common.{◌≡◌, List, refl, ap, subst, ◌∙◌}
use Rattle.std.specs.BTreeMap.{is_at}
use Rattle.std.specs.Borrow.{MutBor}
use Rattle.std.specs.List.{zip, slice_set}
use Rattle.std.specs.Map.{lookup, set_value}
use Rattle.book_base.specs.declared.address.Pair.{Pair}
use Rattle.book_base.specs.Orders.{by_pair}
use Rattle.pair_table.specs.Listings.{Listing, of_entries}
use Rattle.pair_table.specs.Places.{place_of}
use Rattle.pair_table.proofs.ListLaws.{found_zip, got, got_copied, keys_zip, set_zip, on_some}
use Rattle.pair_table.proofs.table.PairTable.get_mut.Goals as goal

pub returns : goal.returns
returns g c =
    let test = is_at (by_pair c.args.pair.now) in
    let ps = c.self.inside.pairs.items in let vs = c.self.inside.values.items in
    let at : c.place-at.result ≡ place_of test ps = c.place-at.ensures.place ∙ ap (place_of test) (keys_zip ps vs c.self.invariant.same) in
    let entries = ap (λ (l : Listing g.row.V.Denot). l.entries) c.self.view_is in (
      (
        refl,
        λ w. on_some c.get_mut.result (subst (λ (l : Listing g.row.V.Denot). record { most = c.self.inside.most; entries = zip ps (slice_set vs c.place-at.result w) } ≡ of_entries l (set_value test l.entries w)) c.self.view_is
            (ap (λ (es : List (Pair × g.row.V.Denot)). let l : Listing g.row.V.Denot = record { most = c.self.inside.most; entries = es } in l) (rw at (set_zip test ps vs w c.self.invariant.same)))),
        c.self.view_is,
      ),
      record { writes = tt; value = got_copied vs c.place-at.result c.get_mut.result (got (λ (m : MutBor g.row.V.Denot). m.now) vs c.place-at.result c.get_mut.result c.get_mut.ensures.item.0 c.get_mut.ensures.item.1) ∙ rw at (found_zip test ps vs c.self.invariant.same) ∙ ap (lookup test) entries },
    )
