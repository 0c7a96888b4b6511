use Rattle.std.proofs.Common.{◌-◌}
use Rattle.cmd_link.specs.Links.{waits}
use Rattle.cmd_link.proofs.Expansions.{Left}
use Rattle.cmd_link.proofs.timed_link.Link.wait_until.Given as goal

abbrev pub invariant-loop-turn : goal.invariant-loop-turn
invariant-loop-turn l = Left (waits l.fn.most l.fn.end l.fn.to) (waits (l.fn.most - l._turn) l.fn.end l.fn.to) l.fn.self l.self
