use Rattle.ao_stack.proofs.MapLaws.{drop_becomes}
use Rattle.ao_stack.proofs.tallies.Tallies.remove.Goals as goal

pub returns : goal.returns
returns c = drop_becomes c.self.inside.items.entries c.remove-tally.new.self.entries c.args.pair.now c.args.self.now c.self.view_is c.remove-tally.ensures.updates.0
