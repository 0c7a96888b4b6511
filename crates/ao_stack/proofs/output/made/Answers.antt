use Rattle.std.proofs.Common.{subst}
use Rattle.stack_ends.specs.declared.send.Says.{Says}
use Rattle.stack_ends.specs.Said.{Leaves, SaysAs}
use Rattle.ao_stack.proofs.CostLaws.{said_no_key as no_key_costs, said_nothing as nothing_costs, said_some}
use Rattle.ao_stack.proofs.TellLaws.{made_none, made_segment, said_no_key, said_nothing}
use Rattle.ao_stack.proofs.output.made.Goals as goal

pub returns-in-Segment-clause-makes : goal.returns-in-Segment-clause-makes
returns-in-Segment-clause-makes c before o one h from left =
    made_segment c.args.pair.now c.args.kind before c.args.room.now _ c.in-Segment.length o (subst (λ (w : Says). SaysAs c.args.room.now w o) c.in-Segment.is h) from (λ m d F e. c.hand.ensures m d one F e)

pub returns-in-NoKey-clause-makes : goal.returns-in-NoKey-clause-makes
returns-in-NoKey-clause-makes c before o one h from left =
    made_none c.args.pair.now c.args.kind before c.args.room.now o (said_no_key c.args.room.now o (subst (λ (w : Says). SaysAs c.args.room.now w o) c.in-NoKey.is h)) (subst (λ (w : Says). Leaves before c.args.room.now w) c.in-NoKey.is left)

pub returns-in-Nothing-clause-makes : goal.returns-in-Nothing-clause-makes
returns-in-Nothing-clause-makes c before o one h from left =
    made_none c.args.pair.now c.args.kind before c.args.room.now o (said_nothing c.args.room.now o (subst (λ (w : Says). SaysAs c.args.room.now w o) c.in-Nothing.is h)) (subst (λ (w : Says). Leaves before c.args.room.now w) c.in-Nothing.is left)

pub returns-in-Segment-clause-costs : goal.returns-in-Segment-clause-costs
returns-in-Segment-clause-costs c old new h = said_some c.in-Segment.length c.args.says old new c.in-Segment.is h

pub returns-in-NoKey-clause-costs : goal.returns-in-NoKey-clause-costs
returns-in-NoKey-clause-costs c old new h = no_key_costs c.args.says old new c.in-NoKey.is h

pub returns-in-Nothing-clause-costs : goal.returns-in-Nothing-clause-costs
returns-in-Nothing-clause-costs c old new h = nothing_costs c.args.says old new c.in-Nothing.is h
