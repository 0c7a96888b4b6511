use Rattle.book_keys.proofs.OverlapLaws.{overlaps-Overlap, Overlap-overlaps}
use Rattle.book_keys.proofs.laws.overlaps_is_overlap.Goals as goal

pub returns : goal.returns
returns c = λ a b. (overlaps-Overlap a b, Overlap-overlaps a b)
