use Rattle.std.proofs.Common.{◌≡◌, ◌<◌, List, None, Some, length, refl, sym, ap, subst, ◌∙◌, arith}
use Rattle.std.specs.BTreeMap.{is_at}
use Rattle.std.specs.List.{zip}
use Rattle.std.specs.Map.{lookup, remove_entry}
use Rattle.std.specs.Prelude.{slice_get}
use Rattle.std.proofs.lemmas.Option.{slice_get_read}
use Rattle.book_base.specs.declared.address.Pair.{Pair}
use Rattle.book_base.specs.Orders.{by_pair}
use Rattle.pair_table.specs.Listings.{Listing, of_entries}
use Rattle.pair_table.specs.Places.{IsAbsent, place_of}
use Rattle.pair_table.proofs.ListLaws.{absent_lookup, absent_remove, found_zip, lies_removed, remove_zip}
use Rattle.pair_table.proofs.table.PairTable.remove.Goals as goal

pub invariant_of-self : goal.invariant_of-self
invariant_of-self g c =
    lies_removed c.self.inside.most _ _ _ _ c.in-Ok.at c.self.inside.pairs.items c.remove.new.self.items c.self.inside.values.items c.remove-in-Ok.new.self.items c.self.invariant
    (let n = ap length c.deref.ensures.value in let w = c.in-Ok.ensures.within in omega (arith, n, w)) c.remove.ensures.items c.remove-in-Ok.ensures.items c.remove.ensures.capacity c.remove-in-Ok.ensures.capacity

pub returns-in-Err-clause-value : goal.returns-in-Err-clause-value
returns-in-Err-clause-value g c =
    subst (λ (l : Listing g.row.V.Denot). None ≡ lookup (is_at (by_pair c.args.pair.now)) l.entries) c.self.view_is
    (absent_lookup c.args.pair.now c.self.inside.pairs.items c.self.inside.values.items c.self.invariant.same (subst (IsAbsent c.args.pair.now) c.deref.ensures.value c.in-Err.ensures.absent))

pub returns-in-Err-clause-removed : goal.returns-in-Err-clause-removed
returns-in-Err-clause-removed g c =
    let ps = c.self.inside.pairs.items in let vs = c.self.inside.values.items in
    sym c.self.view_is ∙ subst (λ (l : Listing g.row.V.Denot). record { most = c.self.inside.most; entries = zip ps vs } ≡ of_entries l (remove_entry (is_at (by_pair c.args.pair.now)) l.entries)) c.self.view_is
    (ap (λ (es : List (Pair × g.row.V.Denot)). let l : Listing g.row.V.Denot = record { most = c.self.inside.most; entries = es } in l)
    (absent_remove c.args.pair.now ps vs c.self.invariant.same (subst (IsAbsent c.args.pair.now) c.deref.ensures.value c.in-Err.ensures.absent)))

pub returns-in-Ok-clause-value : goal.returns-in-Ok-clause-value
returns-in-Ok-clause-value g c =
    let ps = c.self.inside.pairs.items in let vs = c.self.inside.values.items in
    let test = is_at (by_pair c.args.pair.now) in
    let n = ap length c.deref.ensures.value in let w = c.in-Ok.ensures.within in let e = c.self.invariant.same in
    let at : c.in-Ok.at ≡ place_of test ps = c.in-Ok.ensures.place ∙ ap (place_of test) c.deref.ensures.value in
    subst (λ (l : Listing g.row.V.Denot). Some c.remove-in-Ok.result ≡ lookup test l.entries) c.self.view_is
    (sym (slice_get_read vs (length vs) c.in-Ok.at c.remove-in-Ok.result refl (omega (arith, n, w, e)) c.remove-in-Ok.ensures.value) ∙ ap (slice_get vs) at ∙ found_zip test ps vs c.self.invariant.same)

pub returns-in-Ok-clause-removed : goal.returns-in-Ok-clause-removed
returns-in-Ok-clause-removed g c =
    let ps = c.self.inside.pairs.items in let vs = c.self.inside.values.items in
    let test = is_at (by_pair c.args.pair.now) in
    let n = ap length c.deref.ensures.value in let w = c.in-Ok.ensures.within in
    let at : c.in-Ok.at ≡ place_of test ps = c.in-Ok.ensures.place ∙ ap (place_of test) c.deref.ensures.value in
    subst (λ (l : Listing g.row.V.Denot). record { most = c.self.inside.most; entries = zip c.remove.new.self.items c.remove-in-Ok.new.self.items } ≡ of_entries l (remove_entry test l.entries)) c.self.view_is
    (ap (λ (es : List (Pair × g.row.V.Denot)). let l : Listing g.row.V.Denot = record { most = c.self.inside.most; entries = es } in l)
    (rw (c.remove.ensures.items, c.remove-in-Ok.ensures.items, at) (remove_zip test ps vs c.self.invariant.same (subst (λ k. k < length ps) at (omega (arith, n, w))))))
