use Rattle.std.proofs.Common.{refl, sym, subst}
use Rattle.book_segments.specs.Segments.{Read, Reading, pair_reached}
use Rattle.book_cmd_node.specs.NodeRuns.{held_end}
use Rattle.book_stack.specs.Calls.{heard_pair}
use Rattle.stack_ends.specs.Arrivals.{Meets}
use Rattle.ao_stack.specs.Answers.{Does, IsHeard}
use Rattle.ao_stack.specs.Costs.{CostsHeard}
use Rattle.ao_stack.specs.Passed.{PassesAs}
use Rattle.ao_stack.specs.declared.input.Heard.{Heard}
use Rattle.ao_stack.specs.declared.stack.Stack.{Stack}
use Rattle.ao_stack.proofs.CostLaws.{heard_costs}
use Rattle.ao_stack.proofs.ArriveLaws.{heard_none, heard_some, moving_found, no_front, some_front, told_found}
use Rattle.ao_stack.proofs.stack.Stack.hear.Goals as goal

pub returns-in-None-clause-told : goal.returns-in-None-clause-told
returns-in-None-clause-told g c s bytes S read q = heard_none _ (record { now = c.args.now; bytes = bytes }) c.args.pair.now c.args.datagram.now s S q (no_front _ (c.in-None.ensures s.rows s.node S.ends))

pub returns-in-Some-clause-told : goal.returns-in-Some-clause-told
returns-in-Some-clause-told g c s bytes S read q =
    let k = c.args.self.now in
    let d = c.args.datagram.now in
    let mid : Stack = record { ends = c.hear_datagram-told.new.self; watches = k.watches; alarms = k.alarms; line = k.line } in
    let f = some_front _ c.in-Some.before (c.in-Some.ensures s.rows s.node S.ends) in
    let D = heard_some k mid c.follow_told-moved.new.self s S (record { now = c.args.now; bytes = bytes }) c.args.pair.now d c.hear_datagram-told.result c.follow_told-moved.result f.0 c.in-Some.before q f.1 f.2
    (subst (λ (r : Reading). Meets c.hear_datagram-told.new.self s.rows s.node c.hear_datagram-told.result r) (sym read) (c.hear_datagram-told.ensures.meets s.rows s.node S.ends)) read c.hear_datagram-told.ensures.most refl refl refl c.follow_told-moved.ensures.stands c.follow_told-moved.ensures.moved in
    subst (λ (x : Heard). Does c.follow_told-moved.new.self (IsHeard (Read d) x) (heard_pair (record { now = c.args.now; bytes = bytes }) (pair_reached d) d s (held_end (pair_reached d) s.node.ends))) (sym c.heard_moving.ensures) D

pub returns-in-Some-clause-passed : goal.returns-in-Some-clause-passed
returns-in-Some-clause-passed g c s S =
    subst (λ (x : Heard). PassesAs s (Read c.args.datagram.now) x) (sym c.heard_moving.ensures)
    (moving_found s (Read c.args.datagram.now) c.follow_told-moved.result c.hear_datagram-told.result (told_found c.hear_datagram-told.new.self s c.args.datagram.now c.hear_datagram-told.result _ (c.hear_datagram-told.ensures.meets s.rows s.node S.ends) refl))

pub returns-in-Some-clause-costs : goal.returns-in-Some-clause-costs
returns-in-Some-clause-costs g c =
    let k = c.args.self.now.ends in
    subst (λ (x : Heard). CostsHeard c.args.datagram.now x c.args.steps.now c.hear_datagram-told.new.steps) (sym c.heard_moving.ensures)
    (heard_costs k.table.rows k.clock c.args.datagram.now k.node c.hear_datagram-told.new.self.node c.hear_datagram-told.result c.follow_told-moved.result c.args.steps.now c.hear_datagram-told.new.steps c.hear_datagram-told.ensures.costs)
