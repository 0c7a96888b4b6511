-- What a contract sees of a map from pairs of sockets to values.
use Rattle.std.specs.Prelude.{ℕ, ◌≤◌, List, length, refl}
use Rattle.std.specs.Coded.{Coded, code_by, coded×, coded_ℕ, coded_list}
use Rattle.std.specs.Map.{keys_of}
use Rattle.std.specs.List.Sorted.{IsStrictlySortedBy}
use Rattle.book_base.specs.declared.address.Pair.{Pair}
use Rattle.book_base.specs.contracts.address.Pair.{the_row}
use Rattle.book_base.specs.Orders.{by_pair}

-- how many pairs are held at most, and the pairs with their values, in the order of pairs (own)
pub record Listing (V : Type 0) : Type 0 where
  pub most : ℕ
  pub entries : List (Pair × V)

-- a listing's fields, one after another (own)
abbrev pub listing_code : {V : Type 0} → Coded V → Coded (Listing V)
listing_code {V} code =
    code_by
    (ℕ × List (Pair × V))
    (coded× coded_ℕ (coded_list (coded× (the_row).coded code)))
    (λ l. (l.most, l.entries))
    (λ p. record { most = p.0; entries = p.1 })
    (λ _. refl)

-- the pairs are in order, and no more than may be (own)
pub record IsListing {V : Type 0} (l : Listing V) : Type 0 where
  pub sorted : IsStrictlySortedBy by_pair (keys_of l.entries)
  pub room : length l.entries ≤ l.most

-- the listing with these entries (own)
abbrev pub of_entries : {V : Type 0} → Listing V → List (Pair × V) → Listing V
of_entries l es = record { most = l.most; entries = es }
