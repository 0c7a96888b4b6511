use Rattle.std.proofs.Common.{◌∙◌, arith}
use Rattle.stack_timers.proofs.PlaceLaws.{skipped}
use Rattle.stack_timers.proofs.alarms.place_of.Goals as goal

pub returns-clause-found : goal.returns-clause-found
returns-clause-found c =
    c.place_from.ensures.found ∙ skipped c.args.pair.now c.args.deadline _ 0 _ c.args.alarms.now c.first_place-from.ensures.within (omega arith) c.first_place-from.ensures.earlier c.requires.deadline
