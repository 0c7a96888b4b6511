-- The value of a pair is lent for changes.
use Rattle.std.specs.Prelude.{◌≡◌, Option}
use Rattle.std.specs.Borrow.{Fml, LendsSo, MutBor, RattleType}
use Rattle.std.specs.BTreeMap.{is_at}
use Rattle.std.specs.Map.{set_value}
use Rattle.std.specs.Option.{OnSome}
use Rattle.book_base.specs.declared.address.Pair.{Pair}
use Rattle.book_base.specs.Orders.{by_pair}
use Rattle.pair_table.specs.contracts.table.PairTable.{the_row}
use Rattle.pair_table.specs.Listings.{Listing, of_entries}

-- the map after the loan has what was left in the place of the pair's value, and all else as before
-- (own)
abbrev pub LendsValue : (V : RattleType) → MutBor (Listing V.Denot) → Pair → Option (MutBor V.Denot) → Fml
LendsValue V s pair r =
    LendsSo (the_row V) V s r
    (λ n w. OnSome r (n ≡ of_entries s.now (set_value (is_at (by_pair pair)) s.now.entries w)))
    (λ n. n ≡ s.now)
