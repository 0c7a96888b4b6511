use Rattle.std.proofs.Common.{sym, ◌∙◌}
use mathlib.Core.Logic.{∥∥₁_map}
use Rattle.link_world.proofs.WorldLaws.{acts_on, end_of, looks}
use Rattle.link_world.proofs.events.happen.Goals as goal

pub act-requires-clause-at : goal.act-requires-clause-at
act-requires-clause-at c =
    rw c.at_mut.ensures.value (∥∥₁_map c.requires.link (end_of c.in-At.end c.args.sides.now c.args.log.now))
