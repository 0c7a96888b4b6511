-- What the tables of two ends are to be, so that a rollover breaks no session.
use Rattle.std.specs.Prelude.{ℕ, List, None}
use Rattle.book_base.specs.declared.address.Pair.{Pair}
use Rattle.book_keys.specs.Plans.{mirrored, AlignedFrom, IsGap}
use Rattle.book_keys.specs.Rows.{Row}

-- each end's rows are aligned with the other end's, and from low to high each has a row to send with (own)
pub record CarriesThrough (a b : List Row) (pair : Pair) (lead lag low high : ℕ) : Type 0 where
  -- what a sends is taken at b, whose clock is at most lead behind and lag ahead
  pub taken_at_b : AlignedFrom a b pair lead lag
  -- what b sends is taken at a
  pub taken_at_a : AlignedFrom b a (mirrored pair) lead lag
  pub keyed_at_a : IsGap a pair low high None
  pub keyed_at_b : IsGap b (mirrored pair) low high None
