use Rattle.std.proofs.Common.{refl}
use Rattle.link_report.specs.declared.sessions.Live.{Live}
use Rattle.link_report.proofs.PassLaws.{arrives_read, has_come}
use Rattle.link_report.proofs.side.Side.come.Goals as goal

pub returns-in-Some-clause-come : goal.returns-in-Some-clause-come
returns-in-Some-clause-come g c = λ setup w e bytes read pair h.
    let d = c.args.self.now in
    let l = c.in-Some.live in
    let k : Live = record { endpoint = c.hear_datagram-arrived.new.self; end_shown = l.end_shown } in
    has_come setup w e bytes d _ l k c.hear_datagram-arrived.result _ (d.bound l c.in-Some.is) pair h c.in-Some.is refl refl refl refl refl refl
    (λ s at. arrives_read d.table.rows _ d.clock s bytes _ k.endpoint c.hear_datagram-arrived.result read (c.hear_datagram-arrived.ensures.arrives s at))
