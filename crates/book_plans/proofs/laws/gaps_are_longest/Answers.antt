use Rattle.std.proofs.Common.{◌+◌, refl}
use Rattle.book_plans.proofs.FindingLaws.{are_longest}
use Rattle.book_plans.proofs.laws.gaps_are_longest.Goals as goal

pub returns : goal.returns
returns c = λ good low n. are_longest good low n (low + n) refl
