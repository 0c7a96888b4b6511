use Rattle.std.proofs.Common.{◌≤◌, length, sym, subst}
use Rattle.std.specs.Coded.{le_prop}
use mathlib.Core.Logic.{∥∥₁_elim}
use Rattle.book_keys.specs.Rows.{Table}
use Rattle.book_segments.specs.Segments.{Read}
use Rattle.tcp_endpoint.specs.Arrivals.{TellsPassed, passed_of}
use Rattle.link_world.proofs.ComeLaws.{option_there, received_none, received_some, row_there}
use Rattle.link_world.proofs.arrivals.come.Goals as goal

pub is_forged-forged-requires-clause-low : goal.is_forged-forged-requires-clause-low
is_forged-forged-requires-clause-low g c = λ p is. ∥∥₁_elim c.requires.at le_prop (λ known.
    let come = c.in-Some.ensures.come known.setup known.world c.args.at c.args.bytes.now c.in-Ok.ensures.read known.stands.pair_is known.stands.side_is in
    (row_there known.setup known.world c.args.at c.come.new.self c.args.bytes.now c.in-Some.arrived p come is).low)

pub is_forged-forged-requires-clause-high : goal.is_forged-forged-requires-clause-high
is_forged-forged-requires-clause-high g c = λ p is. ∥∥₁_elim c.requires.at le_prop (λ known.
    let come = c.in-Some.ensures.come known.setup known.world c.args.at c.args.bytes.now c.in-Ok.ensures.read known.stands.pair_is known.stands.side_is in
    let there = row_there known.setup known.world c.args.at c.come.new.self c.args.bytes.now c.in-Some.arrived p come is in
    subst (λ (t : Table). p.passed.row ≤ length t.rows) (sym c.table.ensures) there.high)

pub is_forged-forged-requires-clause-option : goal.is_forged-forged-requires-clause-option
is_forged-forged-requires-clause-option g c = λ p is. option_there c.in-Ok.datagram c.in-Some.arrived p c.in-Some.ensures.option is

pub returns-in-Err-clause-received : goal.returns-in-Err-clause-received
returns-in-Err-clause-received g c = λ setup w h. c.unread.ensures setup w c.args.at c.args.bytes.now c.in-Err.ensures.refused h.pair_is h.side_is

pub returns-in-None-clause-received : goal.returns-in-None-clause-received
returns-in-None-clause-received g c = λ setup w h.
    received_none setup w c.args.at c.come.new.self c.args.bytes.now (c.in-None.ensures.come setup w c.args.at c.args.bytes.now c.in-Ok.ensures.read h.pair_is h.side_is)

pub returns-clause-received : goal.returns-clause-received
returns-clause-received g c = λ setup w h.
    let come = c.in-Some.ensures.come setup w c.args.at c.args.bytes.now c.in-Ok.ensures.read h.pair_is h.side_is in
    received_some setup w c.args.at c.come.new.self c.args.log.now c.args.bytes.now c.in-Ok.datagram c.in-Some.arrived c.is_forged-forged.result c.in-Ok.ensures.read come h.log_is
    (λ pair history found logs told. c.is_forged-forged.ensures pair history found logs
    (subst (λ (t : Table). TellsPassed t.rows pair (Read c.in-Ok.datagram) (passed_of c.in-Some.arrived) found) (sym c.table.ensures) told))
