use Rattle.std.proofs.Common.{sym, ◌∙◌}
use Rattle.cmd_link.proofs.FollowLaws.{follows_other}
use Rattle.cmd_link.proofs.bgp_runs.follow.Goals as goal

pub returns-in-Begins-clause-follows : goal.returns-in-Begins-clause-follows
returns-in-Begins-clause-follows c = λ setup events stands number f.
    c.begin.ensures setup events c.args.event.now c.args.said.now.text.items c.args.said.now.faults stands (sym c.turn_of.ensures ∙ c.in-Begins.is) f

pub returns-in-Neither-clause-follows : goal.returns-in-Neither-clause-follows
returns-in-Neither-clause-follows c = λ setup events stands number f.
    follows_other setup events c.args.event.now c.args.readers.now c.args.said.now.text.items c.args.said.now.faults f (sym c.turn_of.ensures ∙ c.in-Neither.is)
