use Rattle.stack_timers.proofs.TimingLaws.{drop_drops}
use Rattle.stack_timers.proofs.watches.Watches.remove.Goals as goal

pub returns : goal.returns
returns c = drop_drops c.self.inside.items.entries c.remove-watch.new.self.entries c.args.pair.now c.args.self.now c.self.view_is c.remove-watch.ensures.updates.0
