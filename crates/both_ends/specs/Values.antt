-- The value of an end, and the two values where that of an end is another one.
use Rattle.book_base.specs.declared.end.End.{End}
use Rattle.book_base.specs.declared.end.End.TheVariants.{A, B}
use Rattle.both_ends.specs.declared.values.BothEnds.{BothEnds}

module _ {T : Type 0} where
  -- the value of an end (own)
  abbrev pub at : End → BothEnds T → T
  at A values = values.a
  at B values = values.b

  -- the same values, but for this one of an end (own)
  abbrev pub with_at : End → T → BothEnds T → BothEnds T
  with_at A value values = record values { a = value }
  with_at B value values = record values { b = value }
