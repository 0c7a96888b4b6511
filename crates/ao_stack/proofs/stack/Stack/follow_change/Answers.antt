use Rattle.std.proofs.Common.{refl, sym, ◌∙◌}
use Rattle.ao_stack.proofs.ArriveLaws.{heard_not, heard_so}
use Rattle.ao_stack.proofs.stack.Stack.follow_change.Goals as goal

pub returns-then-not-heard : goal.returns-then-not-heard
returns-then-not-heard c s S is = heard_not c.args.self.now c.args.now c.args.pair.now c.args.arrival c.args.change s (sym c.is_heard-heard.ensures ∙ c.if-not-heard.true) S

pub returns : goal.returns
returns c s S is = heard_so _ c.args.now c.args.pair.now c.args.arrival c.args.change c.args.change s (sym c.is_heard-heard.ensures ∙ c.if-not-heard.false) refl (c.touch.ensures _ (c.time_arrival.ensures s S is))
