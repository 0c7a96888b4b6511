use Rattle.std.proofs.Common.{refl, sym, ◌∙◌}
use Rattle.book_endpoint.specs.States.{connected}
use Rattle.book_link.specs.Worlds.{pair_of, side as side_of}
use Rattle.link_report.proofs.BeginLaws.{moved_begun}
use Rattle.link_report.proofs.side.Side.connect.Goals as goal

pub returns-clause-step : goal.returns-clause-step
returns-clause-step c = λ setup w e same h.
    let m = side_of w e in
    let s = connected (pair_of setup e) c.args.isn in
    let unused = sym c.if-has_used.false ∙ c.has_used.ensures m h in
    moved_begun w e s c.args.isn c.begin.new.self refl unused
    (c.in_ok-begin.ensures.begun m s (record { clock = h.clock; rows = h.rows; sessions = h.sessions }) (rw same c.in_ok-endpoint.ensures.stands))
