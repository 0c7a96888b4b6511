use Rattle.stack_timers.proofs.TimingLaws.{put_keeps}
use Rattle.stack_timers.proofs.watches.Watches.put.Goals as goal

pub returns-clause-kept : goal.returns-clause-kept
returns-clause-kept c = put_keeps c.self.inside.items.entries c.insert.new.self.entries c.args.pair.now c.args.self.now c.self.view_is c.new.result c.new.ensures c.in_ok-insert.ensures.updates.0
