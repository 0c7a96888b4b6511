use Rattle.std.proofs.Common.{refl}
use Rattle.ao_stack.proofs.ActLaws.{removed_none, removed_some}
use Rattle.ao_stack.proofs.stack.Stack.remove.Goals as goal

pub returns-then-not-held : goal.returns-then-not-held
returns-then-not-held c s S = removed_none c.args.self.now _ s S c.args.pair.now c.remove-held.result (c.remove-held.ensures.removed s.rows s.node S.ends) c.remove-held.ensures.most c.if-not-held.true refl refl refl

pub returns : goal.returns
returns c s S =
    removed_some c.args.self.now _ s S c.args.pair.now c.remove-held.result (c.remove-held.ensures.removed s.rows s.node S.ends) c.remove-held.ensures.most c.if-not-held.false
    c.remove.ensures c.remove-2.ensures.alarms c.remove-2.ensures.most c.remove-3.ensures.pairs c.remove-3.ensures.most
