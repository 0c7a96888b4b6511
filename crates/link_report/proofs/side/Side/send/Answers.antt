use Rattle.std.proofs.Common.{refl}
use Rattle.link_report.specs.declared.sessions.Live.{Live}
use Rattle.link_report.proofs.PassLaws.{has_sent}
use Rattle.link_report.proofs.side.Side.send.Goals as goal

pub returns-in-Some-clause-sent : goal.returns-in-Some-clause-sent
returns-in-Some-clause-sent g c = λ setup w e pair h.
    let d = c.args.self.now in
    let l = c.in-Some.live in
    let k : Live = record { endpoint = c.make-made.new.endpoint; end_shown = l.end_shown } in
    has_sent setup w c.args.transmission e d _ l k c.args.out.now c.make-made.new.out c.make-made.result _ (d.bound l c.in-Some.is) pair h
    c.in-Some.is refl refl refl refl refl refl c.make-made.ensures.emits
