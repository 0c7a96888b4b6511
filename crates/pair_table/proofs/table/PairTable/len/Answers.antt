use Rattle.std.proofs.Common.{◌≡◌, length, subst, arith}
use Rattle.pair_table.specs.Listings.{IsListing, Listing}
use Rattle.pair_table.proofs.ListLaws.{length_zip, listing}
use Rattle.pair_table.proofs.table.PairTable.len.Goals as goal

pub returns-clause-value : goal.returns-clause-value
returns-clause-value g c =
    subst (λ (l : Listing g.row.V.Denot). c.len.result ≡ length l.entries) c.self.view_is
    (let e = length_zip c.self.inside.pairs.items c.self.inside.values.items c.self.invariant.same in let n = c.len.ensures in omega (arith, e, n))

pub returns-clause-sound : goal.returns-clause-sound
returns-clause-sound g c =
    subst (λ (l : Listing g.row.V.Denot). IsListing l) c.self.view_is
    (listing c.self.inside.most c.self.inside.pairs.items c.self.inside.values.items c.self.invariant.same c.self.invariant.sorted c.self.invariant.room)
