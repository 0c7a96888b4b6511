use Rattle.std.proofs.Common.{refl, sym, ◌∙◌}
use Rattle.book_cmd_node.specs.declared.node.Act.TheVariants as act
use Rattle.book_endpoint.specs.States.{listening}
use Rattle.ao_stack.specs.declared.stack.Stack.{Stack}
use Rattle.ao_stack.proofs.BeginLaws.{begins_as, in_use, isnt_held}
use Rattle.ao_stack.proofs.stack.Stack.listen.Goals as goal

pub returns-then-holds : goal.returns-then-holds
returns-then-holds c s S = in_use _ s S c.args.pair (act.Listen c.args.isn) (sym (c.holds.ensures s S) ∙ c.if-holds.true) (λ e. refl) refl

pub returns : goal.returns
returns c s S =
    let k = c.args.self.now in
    let mid : Stack = record { ends = c.listen-began.new.self; watches = c.put.new.self; alarms = k.alarms; line = k.line } in
    let none = isnt_held _ (sym (c.holds.ensures s S) ∙ c.if-holds.false) in
    rw c.settle.ensures.answer (begins_as k mid c.settle.new.self s S c.args.pair c.requires.family none c.in_ok-put.ensures.kept c.listen-began.ensures.most refl refl (act.Listen c.args.isn) (listening c.args.pair c.args.isn) c.listen-began.result refl refl (c.listen-began.ensures.begun s.rows s.node S.ends) c.settle.ensures.ok c.settle.ensures.err)
