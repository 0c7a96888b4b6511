use Rattle.std.proofs.Common.{sym, ◌∙◌}
use Rattle.ao_stack.proofs.HandLaws.{handed_so}
use Rattle.ao_stack.proofs.checksum.hand.Goals as goal

pub returns : goal.returns
returns c n d one F e = handed_so c.args.pair.now n d c.args.room.now _ one c.sum_place-place.ensures.sized c.sum_place-other.ensures.sized F (λ m front back k l most f. c.replace.ensures m front back k (l ∙ sym c.sum_place-place.ensures.place) most f) e
