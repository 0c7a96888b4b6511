use Rattle.std.proofs.Common.{sym, ap, subst}
use Rattle.book_base.specs.declared.address.Pair.{Pair}
use Rattle.stack_ends.specs.Arrivals.{IsJudged, syn_judged}
use Rattle.ao_stack.proofs.stack.Stack.judge.Goals as goal

pub check_syn-requires-clause-source : goal.check_syn-requires-clause-source
check_syn-requires-clause-source g c = sym (ap (λ (k : Pair). k.remote) c.requires.reached)

pub check_syn-requires-clause-destination : goal.check_syn-requires-clause-destination
check_syn-requires-clause-destination g c = sym (ap (λ (k : Pair). k.local) c.requires.reached)

pub returns-clause-judged : goal.returns-clause-judged
returns-clause-judged g c s S = subst (λ (k : Pair). IsJudged c.check_syn.result (syn_judged s.rows k s.node.clock c.args.datagram.now)) c.requires.reached (c.check_syn.ensures.judged s.rows s.node S.ends)
