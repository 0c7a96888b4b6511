-- What a datagram of one pair does to another one. Its tops: `IsUntouched` and `MakesRoom`.
use Rattle.std.specs.Prelude.{◌≡◌, Some, None}
use Rattle.std.specs.List.Sorted.{IsStrictlySortedBy}
use Rattle.std.specs.Map.{keys_of}
use Rattle.book_base.specs.declared.address.Pair.{Pair}
use Rattle.book_base.specs.Orders.{by_pair}
use Rattle.shim_pairs.specs.declared.entry.Entry.{Entry}
use Rattle.shim_pairs.specs.Holdings.{Holding, found, going}

-- the pairs are in order, as those of a shim are (own)
abbrev pub IsInOrder : Holding → Type 0
IsInOrder h = IsStrictlySortedBy by_pair (keys_of h.entries)

-- what is held of the pair is as it was: what is kept, its keys, and when something passed last
-- (own)
abbrev pub IsUntouched : (before after : Holding) → Pair → Type 0
IsUntouched h k q = found q k.entries ≡ found q h.entries

-- the pair goes for want of room where another one comes about (own)
pub record MakesRoom (h : Holding) (other q : Pair) : Type 0 where
  pub gone : Pair × Entry
  pub goes : going h.most h.entries ≡ Some gone
  pub is : gone.0 ≡ q
  pub comes : found other h.entries ≡ None
