-- What a lifetime and a slice have in common.
use Rattle.std.specs.Prelude.{◌&&◌, max, min, nat_le, Bool}
use Rattle.book_scope_plan.specs.declared.slice.Slice.{Slice}
use Rattle.book_keys.specs.declared.lifetime.Lifetime.{Lifetime}

-- the lifetime and the slice have a time in common
abbrev pub overlaps : Lifetime → Slice → Bool
overlaps l s = nat_le (max l.first s.first) (min l.last s.last)

-- the slice is within the lifetime
abbrev pub covers : Lifetime → Slice → Bool
covers l s = nat_le l.first s.first && nat_le s.last l.last
