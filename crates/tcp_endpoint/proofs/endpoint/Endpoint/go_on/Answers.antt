use Rattle.std.proofs.Common.{◌≡◌, true, sym, ap, ◌∙◌, subst}
use Rattle.book_endpoint.specs.States.{hears}
use Rattle.book_endpoint.specs.Hearing as hearing
use Rattle.endpoint_steps.specs.Arriving as stages
use Rattle.tcp_endpoint.specs.Arrivals.{Reaches}
use Rattle.tcp_endpoint.proofs.AckLaws.{both_true}
use Rattle.tcp_endpoint.proofs.endpoint.Endpoint.go_on.Goals as goal

pub returns-then-carries-clause-reaches : goal.returns-then-carries-clause-reaches
returns-then-carries-clause-reaches g c = λ s h.
    let d = c.args.datagram.now in
    let w = hearing.windowed s c.args.old_una d c.args.number c.args.acknowledged in
    let t = hearing.acked_fin w c.args.acknowledged in
    let k = c.hear_own_fin.ensures.stands w (c.hear_window.ensures.stands s h) in
    let carried = both_true _ _ (ap hears (sym k.phase) ∙ sym c.if-hears.ensures) (sym c.if-carries.ensures) in
    subst (λ b. Reaches c.hear_data.new.self c.hear_data.result (stages.hear_data t d c.args.number c.args.now b)) (sym carried) (c.hear_data.ensures.reaches t k)
