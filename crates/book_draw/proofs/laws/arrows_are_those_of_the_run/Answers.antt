use Rattle.book_draw.proofs.Happens.{all_arrows}
use Rattle.book_draw.proofs.laws.arrows_are_those_of_the_run.Goals as goal

pub returns : goal.returns
returns c = all_arrows
