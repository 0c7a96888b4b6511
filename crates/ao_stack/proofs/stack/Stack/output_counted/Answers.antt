use Rattle.ao_stack.proofs.TurnLaws.{outputs, tells_last, untouched}
use Rattle.ao_stack.proofs.stack.Stack.output_counted.Goals as goal

pub returns-clause-handed : goal.returns-clause-handed
returns-clause-handed g c s S = outputs _ c.args.room.now c.advance.new.room c.advance.result c.args.now s (c.advance.ensures.turns s S)

pub returns-clause-told : goal.returns-clause-told
returns-clause-told g c s S = tells_last c.advance.result c.args.now s (c.advance.ensures.turns s S).last

pub returns-clause-untouched : goal.returns-clause-untouched
returns-clause-untouched g c s S none = untouched c.args.room.now c.advance.new.room c.advance.result (c.advance.ensures.turns s S).stays none
