use Rattle.std.proofs.Common.{Option, sym, subst}
use Rattle.book_segments.specs.Segments.{Read}
use Rattle.ao_check.specs.declared.passing.Passing.{Passing}
use Rattle.tcp_endpoint.specs.Arrivals.{TellsPassed, found_of}
use Rattle.link_world.proofs.ComeLaws.{forged_none, forged_told}
use Rattle.link_world.proofs.arrivals.is_forged.Goals as goal

pub returns-in-None : goal.returns-in-None
returns-in-None c = λ pair history found logs told.
    let rows = c.args.table.now.rows in
    let d = c.args.datagram.now in
    forged_none rows pair c.args.at d found history
    (subst (λ (p : Option Passing). TellsPassed rows pair (Read d) (found_of p) found) c.in-None.is told)

pub returns-in-Some : goal.returns-in-Some
returns-in-Some c = λ pair history found logs told.
    let rows = c.args.table.now.rows in
    let d = c.args.datagram.now in
    let p = c.in-Some.passing in
    forged_told rows pair c.args.at d p.passed found c.row-row.result.now history c.is_forged.result
    (subst (λ (o : Option Passing). TellsPassed rows pair (Read d) (found_of o) found) c.in-Some.is told)
    (c.requires.low p c.in-Some.is) (c.requires.high p c.in-Some.is) c.row-row.ensures
    (λ f passes. c.is_forged.ensures history f logs passes)
