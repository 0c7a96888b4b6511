-- The traffic keys that are kept.
use Rattle.std.specs.Prelude.{◌≡◌, ℕ, ◌-◌, List, Option, Some, None, replicate, slice_index_or, slice_set}
use Rattle.ao_kdf.specs.declared.way.Way.{Way}
use Rattle.ao_kdf.specs.declared.way.Way.TheVariants.{Inbound, Outbound}

-- how many rows there are, and what is kept for each of them and each way (own)
pub record Cache : Type 0 where
  pub rows : ℕ
  pub inbound : List (Option (List ℕ))
  pub outbound : List (Option (List ℕ))

-- nothing is kept (own)
abbrev pub empty : ℕ → Cache
empty rows = record { rows = rows; inbound = replicate rows None; outbound = replicate rows None }

-- what is kept for a way, row by row (own)
abbrev pub keys_of : Cache → Way → List (Option (List ℕ))
keys_of c Inbound = c.inbound
keys_of c Outbound = c.outbound

-- what is kept at a place, from 0 (own)
abbrev pub key_at : List (Option (List ℕ)) → ℕ → Option (List ℕ)
key_at keys at = slice_index_or keys at None

-- what is kept for a row, from 1, and a way (own)
abbrev pub kept : Cache → ℕ → Way → Option (List ℕ)
kept c row way = key_at (keys_of c way) (row - 1)

-- this key is kept for a row, from 1, and a way, in place of what was kept (own)
abbrev pub keeping : Cache → ℕ → Way → List ℕ → Cache
keeping c row Inbound key = record c { inbound = slice_set c.inbound (row - 1) (Some key) }
keeping c row Outbound key = record c { outbound = slice_set c.outbound (row - 1) (Some key) }

-- where a key is kept, it is this one (own)
abbrev pub IsRight : Option (List ℕ) → List ℕ → Type 0
IsRight found key = (k : List ℕ) → found ≡ Some k → k ≡ key

-- the steps that a key costs: one where none is kept (own)
abbrev pub steps_for : Option (List ℕ) → ℕ
steps_for None = 1
steps_for (Some key) = 0
