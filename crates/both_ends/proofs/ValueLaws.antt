-- Two values where that of an end is another one.
use Rattle.std.proofs.Common.{◌≡◌, refl}
use Rattle.book_base.specs.declared.end.End.{End}
use Rattle.book_base.specs.declared.end.End.TheVariants.{A, B}
use Rattle.book_link.specs.Worlds.{other}
use Rattle.both_ends.specs.declared.values.BothEnds.{BothEnds}
use Rattle.both_ends.specs.Values.{at, with_at}

module _ {T : Type 0} where
  -- the end has it
  pub at_with_at : (end : End) (value : T) (values : BothEnds T) → at end (with_at end value values) ≡ value
  at_with_at A value values = refl
  at_with_at B value values = refl

  -- the other end has what it had
  pub other_stays : (end : End) (value : T) (values : BothEnds T) → at (other end) (with_at end value values) ≡ at (other end) values
  other_stays A value values = refl
  other_stays B value values = refl
