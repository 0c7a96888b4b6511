use Rattle.ao_mac.proofs.Parts.{zeros}
use Rattle.ao_mac.proofs.front.Front.push_zeros.Goals as goal

pub returns : goal.returns
returns c = rw (c.push.ensures, zeros c.args.count c.requires.count)
