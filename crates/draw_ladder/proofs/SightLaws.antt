-- What is kept of a delivery.
use Rattle.std.proofs.Common.{◌≡◌, ℕ, max, if◌then◌else◌, refl, arith}
use Rattle.book_base.specs.declared.end.End.{End}
use Rattle.book_base.specs.declared.end.End.TheVariants.{A, B}
use Rattle.book_link.specs.Worlds.{same_end}
use Rattle.both_ends.specs.declared.values.BothEnds.{BothEnds}
use Rattle.both_ends.specs.Values.{at, with_at}

-- the greatest number of an end, with one more that comes to an end
pub raised : (to end : End) (name : ℕ) (newest : BothEnds ℕ)
    → at end (with_at to (max name (at to newest)) newest) ≡ max (if same_end to end then name else 0) (at end newest)
raised A A name newest = refl
raised A B name newest = omega arith
raised B A name newest = omega arith
raised B B name newest = refl
