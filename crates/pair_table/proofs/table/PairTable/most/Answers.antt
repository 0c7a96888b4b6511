use Rattle.std.proofs.Common.{subst}
use Rattle.pair_table.specs.Listings.{IsListing, Listing}
use Rattle.pair_table.proofs.ListLaws.{listing}
use Rattle.pair_table.proofs.table.PairTable.most.Goals as goal

pub returns-clause-sound : goal.returns-clause-sound
returns-clause-sound g c =
    subst (λ (l : Listing g.row.V.Denot). IsListing l) c.self.view_is
    (listing c.self.inside.most c.self.inside.pairs.items c.self.inside.values.items c.self.invariant.same c.self.invariant.sorted c.self.invariant.room)
