use Rattle.std.proofs.Common.{Option, ap, sym, subst, ◌∙◌}
use Rattle.book_endpoint.specs.Verdicts.{Judgement, judge}
use Rattle.book_shim.specs.declared.kept.Isns.{Isns}
use Rattle.book_shim.specs.Arriving.{known_in}
use Rattle.ao_check.specs.Verdicts.{Tells, verdict_of}
use Rattle.ao_shim.proofs.InLaws.{later}
use Rattle.ao_shim.proofs.arrival.judged_later.Goals as goal

pub returns-in-None-clause-verdict : goal.returns-in-None-clause-verdict
returns-in-None-clause-verdict g c = λ mtu.
    subst (λ (j : Judgement). Tells c.args.table.now.rows c.args.pair.now c.args.datagram.now (verdict_of c.check_under.result) j)
    (sym (later (record { rows = c.args.table.now.rows; now = c.args.now; mtu = mtu }) c.args.pair.now c.args.kept.now c.args.datagram.now c.requires.syn
    ∙ ap (λ (i : Option Isns). judge c.args.table.now.rows c.args.pair.now (known_in i c.args.kept.now.heard) c.args.now c.args.datagram.now) c.in-None.is)) c.check_under.ensures.verdict

pub returns-in-Some-clause-verdict : goal.returns-in-Some-clause-verdict
returns-in-Some-clause-verdict g c = λ mtu.
    subst (λ (j : Judgement). Tells c.args.table.now.rows c.args.pair.now c.args.datagram.now (verdict_of c.check_under-in-Some.result) j)
    (sym (later (record { rows = c.args.table.now.rows; now = c.args.now; mtu = mtu }) c.args.pair.now c.args.kept.now c.args.datagram.now c.requires.syn
    ∙ ap (λ (i : Option Isns). judge c.args.table.now.rows c.args.pair.now (known_in i c.args.kept.now.heard) c.args.now c.args.datagram.now) c.in-Some.is)) c.check_under-in-Some.ensures.verdict
