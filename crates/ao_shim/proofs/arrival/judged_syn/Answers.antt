use Rattle.std.proofs.Common.{◌≡◌, ℕ, None, ap, sym, subst, ◌∙◌}
use Rattle.book_shim.specs.Keeping.{Setting}
use Rattle.book_endpoint.specs.Verdicts.{Judgement, judge}
use Rattle.book_shim.specs.Keeping.{answered_isn}
use Rattle.book_shim.specs.Arriving.{judged_arrival}
use Rattle.ao_check.specs.Verdicts.{Tells, verdict_of}
use Rattle.ao_shim.proofs.InLaws.{not_awaited, awaited, opening}
use Rattle.ao_shim.proofs.arrival.judged_syn.Goals.{then-has+else-not-is_awaited, else-has}
use Rattle.ao_shim.proofs.arrival.judged_syn.Goals as goal

pub returns-then-not-is_awaited-clause-verdict : goal.returns-then-not-is_awaited-clause-verdict
returns-then-not-is_awaited-clause-verdict g c = λ mtu.
    not_awaited (record { rows = c.args.table.now.rows; now = c.args.now; mtu = mtu }) c.args.pair.now c.args.kept.now c.args.datagram.now c.requires.syn (sym c.has.ensures ∙ c.if-has.true) (sym c.is_awaited.ensures ∙ c.if-not-is_awaited.true)

pub returns-clause-verdict : goal.returns-clause-verdict
returns-clause-verdict g c = λ mtu.
    let here : Setting = record { rows = c.args.table.now.rows; now = c.args.now; mtu = mtu } in
    let known : judged_arrival here c.args.pair.now c.args.kept.now c.args.datagram.now ≡ judge c.args.table.now.rows c.args.pair.now (record { own_isn = answered_isn c.args.datagram.now; peer_isn = None; expected = None }) c.args.now c.args.datagram.now =
    elim c.if-has.branch [
      | then-has+else-not-is_awaited w ↦ awaited here c.args.pair.now c.args.kept.now c.args.datagram.now c.requires.syn (sym c.has.ensures ∙ w.if-has.true) (sym w.is_awaited.ensures ∙ w.if-not-is_awaited.false)
      | else-has w ↦ opening here c.args.pair.now c.args.kept.now c.args.datagram.now c.requires.syn (sym c.has.ensures ∙ w.if-has.false)
    ] in
    subst (λ (j : Judgement). Tells c.args.table.now.rows c.args.pair.now c.args.datagram.now (verdict_of c.check_syn.result) j)
    (sym (known ∙ ap (λ (n : ℕ). judge c.args.table.now.rows c.args.pair.now (record { own_isn = n; peer_isn = None; expected = None }) c.args.now c.args.datagram.now) (sym c.answered_isn.ensures))) c.check_syn.ensures.verdict
