use Rattle.std.proofs.Common.{sym, ◌∙◌, subst}
use Rattle.book_segments.specs.Segments.{Reading, Segment}
use Rattle.book_endpoint.specs.Arrivals as book
use Rattle.tcp_endpoint.specs.Arrivals.{Arrives, Costs, TellsOption}
use Rattle.tcp_endpoint.proofs.CostLaws.{read_same}
use Rattle.tcp_endpoint.proofs.endpoint.Endpoint.arrive.Goals as goal

pub returns-clause-arrives : goal.returns-clause-arrives
returns-clause-arrives g c = λ s h.
    let e = c.args.self.now in
    let rows = c.args.table.now.rows in
    subst (λ (r : Reading). Arrives rows e.pair r c.hear_datagram.new.self c.hear_datagram.result (book.arrive rows e.pair c.args.now s r)) (sym c.in-Ok.ensures.read) (c.hear_datagram.ensures.arrives s h)

pub returns-clause-costs : goal.returns-clause-costs
returns-clause-costs g c = λ x read.
    subst (λ (z : Segment). Costs c.args.table.now.rows c.args.now z c.args.self.now c.hear_datagram.new.self c.hear_datagram.result c.args.steps.now c.hear_datagram.new.steps) (read_same c.in-Ok.datagram x (sym c.in-Ok.ensures.read ∙ read)) c.hear_datagram.ensures.costs

pub returns-clause-option : goal.returns-clause-option
returns-clause-option g c = λ x read. subst (λ (z : Segment). TellsOption z c.hear_datagram.result) (read_same c.in-Ok.datagram x (sym c.in-Ok.ensures.read ∙ read)) c.hear_datagram.ensures.option
