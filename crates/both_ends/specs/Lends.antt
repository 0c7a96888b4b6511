-- What becomes of two values of which one was lent.
use Rattle.std.specs.Borrow.{Fml, Lends, MutBor, RattleType}
use Rattle.book_base.specs.declared.end.End.{End}
use Rattle.both_ends.specs.contracts.values.BothEnds.{the_row}
use Rattle.both_ends.specs.declared.values.BothEnds.{BothEnds}
use Rattle.both_ends.specs.Values.{with_at}

-- the value of an end is lent: what is left there comes in its place, and the other value stays (own)
abbrev pub LendsAt : (T : RattleType) → MutBor (BothEnds T.Denot) → End → MutBor T.Denot → Fml
LendsAt T values end lent = Lends (the_row T) T values lent (λ value. with_at end value values.now)
