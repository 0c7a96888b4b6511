use Rattle.std.proofs.Common.{◌≡◌, ◌<◌, List, None, length, sym, ap, subst, ◌∙◌, arith}
use Rattle.std.specs.BTreeMap.{is_at, insert_entry}
use Rattle.std.specs.List.{zip}
use Rattle.std.specs.Map.{lookup}
use Rattle.std.specs.Prelude.{is_ok}
use Rattle.book_base.specs.declared.address.Pair.{Pair}
use Rattle.book_base.specs.Orders.{by_pair}
use Rattle.pair_table.specs.Listings.{Listing, of_entries}
use Rattle.pair_table.specs.Places.{gap_of}
use Rattle.pair_table.proofs.ListLaws.{fits, gap_within, inserted, insert_zip, keys_seen, length_zip, lies_inserted, lookup_absent}
use Rattle.pair_table.proofs.table.PairTable.insert.Goals as goal

pub insert-pairs-requires : goal.insert-pairs-requires
insert-pairs-requires g c =
    let ps = c.self.inside.pairs.items in let vs = c.self.inside.values.items in
    let at = c.gap-at.ensures.gap ∙ ap (gap_of c.args.pair) (sym (keys_seen ps vs c.args.self.now c.self.invariant.same c.self.view_is)) in
    let w = gap_within c.args.pair ps in let n = c.self.inside.pairs.ok.0 in omega (arith, at, w, n)

pub insert-values-requires : goal.insert-values-requires
insert-values-requires g c =
    let ps = c.self.inside.pairs.items in let vs = c.self.inside.values.items in
    let at = c.gap-at.ensures.gap ∙ ap (gap_of c.args.pair) (sym (keys_seen ps vs c.args.self.now c.self.invariant.same c.self.view_is)) in
    let w = gap_within c.args.pair ps in let n = c.self.inside.values.ok.0 in let e = c.self.invariant.same in omega (arith, at, w, n, e)

pub invariant_of-self : goal.invariant_of-self
invariant_of-self g c =
    let p = c.args.pair in let v = c.args.value in
    let ps = c.self.inside.pairs.items in let vs = c.self.inside.values.items in let l = c.self.invariant in
    let at = c.gap-at.ensures.gap ∙ ap (gap_of p) (sym (keys_seen ps vs c.args.self.now l.same c.self.view_is)) in
    let room : length ps < c.self.inside.most = let n = length_zip ps vs l.same in let r = subst (λ (k : Listing g.row.V.Denot). length k.entries < k.most) (sym c.self.view_is) c.requires.room in omega (arith, n, r) in
    let none = lookup_absent p ps vs l.same (subst (λ (k : Listing g.row.V.Denot). lookup (is_at (by_pair p)) k.entries ≡ None) (sym c.self.view_is) c.requires.other) in
    let first = inserted (is_ok c.insert-pairs.result) ps c.insert-pairs.new.self.items c.gap-at.result p (fits c.self.inside.pairs.ok.0 room l.first_room c.insert-pairs.ensures.succeeds) c.insert-pairs.ensures.items in
    let second = inserted (is_ok c.insert-values.result) vs c.insert-values.new.self.items c.gap-at.result v (fits c.self.inside.values.ok.0 (let e = l.same in omega (arith, room, e)) l.second_room c.insert-values.ensures.succeeds) c.insert-values.ensures.items in
    lies_inserted c.self.inside.most _ _ _ _ c.gap-at.result p v ps c.insert-pairs.new.self.items vs c.insert-values.new.self.items l room none at first second c.insert-pairs.ensures.capacity c.insert-values.ensures.capacity

pub returns : goal.returns
returns g c =
    let p = c.args.pair in let v = c.args.value in
    let ps = c.self.inside.pairs.items in let vs = c.self.inside.values.items in let l = c.self.invariant in
    let at = c.gap-at.ensures.gap ∙ ap (gap_of p) (sym (keys_seen ps vs c.args.self.now l.same c.self.view_is)) in
    let room : length ps < c.self.inside.most = let n = length_zip ps vs l.same in let r = subst (λ (k : Listing g.row.V.Denot). length k.entries < k.most) (sym c.self.view_is) c.requires.room in omega (arith, n, r) in
    let none = lookup_absent p ps vs l.same (subst (λ (k : Listing g.row.V.Denot). lookup (is_at (by_pair p)) k.entries ≡ None) (sym c.self.view_is) c.requires.other) in
    let first = inserted (is_ok c.insert-pairs.result) ps c.insert-pairs.new.self.items c.gap-at.result p (fits c.self.inside.pairs.ok.0 room l.first_room c.insert-pairs.ensures.succeeds) c.insert-pairs.ensures.items in
    let second = inserted (is_ok c.insert-values.result) vs c.insert-values.new.self.items c.gap-at.result v (fits c.self.inside.values.ok.0 (let e = l.same in omega (arith, room, e)) l.second_room c.insert-values.ensures.succeeds) c.insert-values.ensures.items in
    subst (λ (k : Listing g.row.V.Denot). record { most = c.self.inside.most; entries = zip c.insert-pairs.new.self.items c.insert-values.new.self.items } ≡ of_entries k (insert_entry by_pair k.entries p v)) c.self.view_is
    (ap (λ (es : List (Pair × g.row.V.Denot)). let k : Listing g.row.V.Denot = record { most = c.self.inside.most; entries = es } in k)
    (rw (first, second, at) (insert_zip p v ps vs l.same none)))
