use Rattle.std.proofs.Common.{refl}
use Rattle.link_report.proofs.PassLaws.{arrives_bad, arrives_read, has_come}
use Rattle.link_report.proofs.side.Side.come_unread.Goals as goal

pub returns-in-Some : goal.returns-in-Some
returns-in-Some c = λ setup w e bytes read pair h.
    let d = c.args.self.now in
    let l = c.in-Some.field-0 in
    has_come setup w e bytes d d l l _ d.pair refl pair h c.in-Some.is c.in-Some.is refl refl refl refl refl
    (λ s at. arrives_read d.table.rows d.pair d.clock s bytes _ l.endpoint _ read (arrives_bad d.table.rows d.pair d.clock s c.args.fault l.endpoint at))
