use Rattle.std.proofs.Common.{refl, sym, ap, subst}
use Rattle.link_report.specs.declared.sessions.Live.{Live}
use Rattle.link_report.proofs.BeginLaws.{next_begun}
use Rattle.link_report.proofs.side.Side.begin.Goals as goal
use Rattle.tcp_endpoint.specs.Ends.{Stands}

pub returns-in_ok-push-in-Some-clause-begun : goal.returns-in_ok-push-in-Some-clause-begun
returns-in_ok-push-in-Some-clause-begun c = λ m s h t.
    let b = c.begun-in-Some.ensures in
    next_begun c.args.self.now _ m c.in-Some.live c.begun-in-Some.result c.ended-ended.result s h c.in-Some.is refl refl refl
    c.in_ok-push-in-Some.ensures.items c.ended-ended.ensures (subst (λ (x : Live). Stands x.endpoint s) (sym b) t) (ap (λ (x : Live). x.end_shown) b)
