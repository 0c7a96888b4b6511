use Rattle.std.proofs.Common.{arith}
use Rattle.capture_reader.proofs.PartPlaces.{block_is}
use Rattle.capture_reader.proofs.parts.block_part.Goals as goal

pub returns-in-Ok-clause-exact : goal.returns-in-Ok-clause-exact
returns-in-Ok-clause-exact c =
    rw c.behind_head.ensures (block_is c.args.interfaces.now c.args.text.now c.args.place c.in-Ok.says c.requires.least c.requires.within c.in-Ok.ensures.exact c.in-Ok.ensures.within)

pub behind_head-requires-clause-within : goal.behind_head-requires-clause-within
behind_head-requires-clause-within c = (_, c.in-Ok.ensures.within)
