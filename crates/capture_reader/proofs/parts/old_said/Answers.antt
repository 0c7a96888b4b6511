use Rattle.std.proofs.Common.{arith}
use Rattle.capture_reader.specs.Found.{seen_stamped}
use Rattle.capture_reader.proofs.PartPlaces.{old_lies}
use Rattle.capture_reader.proofs.parts.old_said.Goals as goal

pub stamped_said-requires-clause-place : goal.stamped_said-requires-clause-place
stamped_said-requires-clause-place c = (old_lies c.args.order c.args.body.now (seen_stamped c.in-Ok.packet) c.in-Ok.ensures).here

pub stamped_said-requires-clause-within : goal.stamped_said-requires-clause-within
stamped_said-requires-clause-within c = (old_lies c.args.order c.args.body.now (seen_stamped c.in-Ok.packet) c.in-Ok.ensures).within
