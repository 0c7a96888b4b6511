use Rattle.std.proofs.Common.{ap, ◌∙◌}
use Rattle.book_endpoint.specs.Verdicts.{row_taking}
use Rattle.book_keys.specs.Lookups.{accept_of}
use Rattle.book_segments.specs.Options.{Ao}
use Rattle.book_segments.specs.Segments.{pair_reached}
use Rattle.book_why.specs.Sights.{ao_at, row_at}
use Rattle.tcp_segment.specs.Views.{view_ao}
use Rattle.scope_why.specs.Views.{sight_of}
use Rattle.scope_why.proofs.SightLaws.{found_later, lacking_first, lacking_later}
use Rattle.scope_why.proofs.RowLaws.{absent, at_place, expired, taken}
use Rattle.scope_why.proofs.sight.row_at.Goals as goal

pub returns-in_err-ao : goal.returns-in_err-ao
unfolding row_at
returns-in_err-ao c = rw c.from_residual.ensures (lacking_first (ao_at (sight_of c.args.inquiry.now)) (λ (ao : Ao). row_taking c.args.inquiry.now.table.now.rows (pair_reached c.args.inquiry.now.datagram.now) ao.key_id c.args.inquiry.now.time) c.in_err-ao.ensures.found)

pub returns-in-Absent : goal.returns-in-Absent
unfolding row_at
returns-in-Absent c =
    let i = c.args.inquiry.now in
    let e = ap (λ pair. accept_of i.table.now.rows pair c.in_ok-ao.ao.key_id i.time) c.pair_at.ensures in
    lacking_later (ao_at (sight_of i)) (λ (ao : Ao). row_taking i.table.now.rows (pair_reached i.datagram.now) ao.key_id i.time) (view_ao c.in_ok-ao.ao) c.in_ok-ao.ensures.found
    (absent i.table.now.rows (pair_reached i.datagram.now) c.in_ok-ao.ao.key_id i.time (c.in-Absent.ensures ∙ e))

pub returns-in-Expired : goal.returns-in-Expired
unfolding row_at
returns-in-Expired c =
    let i = c.args.inquiry.now in
    let e = ap (λ pair. accept_of i.table.now.rows pair c.in_ok-ao.ao.key_id i.time) c.pair_at.ensures in
    lacking_later (ao_at (sight_of i)) (λ (ao : Ao). row_taking i.table.now.rows (pair_reached i.datagram.now) ao.key_id i.time) (view_ao c.in_ok-ao.ao) c.in_ok-ao.ensures.found
    (expired i.table.now.rows (pair_reached i.datagram.now) c.in_ok-ao.ao.key_id i.time (c.in-Expired.ensures ∙ e))

pub row-requires-clause-low : goal.row-requires-clause-low
row-requires-clause-low c =
    let i = c.args.inquiry.now in
    (at_place i.table.now.rows c.pair_at.result c.in_ok-ao.ao.key_id i.time c.in-Row.number c.in-Row.ensures).1.low

pub row-requires-clause-high : goal.row-requires-clause-high
row-requires-clause-high c =
    let i = c.args.inquiry.now in
    (at_place i.table.now.rows c.pair_at.result c.in_ok-ao.ao.key_id i.time c.in-Row.number c.in-Row.ensures).1.high

pub returns-in-Row : goal.returns-in-Row
unfolding row_at
returns-in-Row c =
    let i = c.args.inquiry.now in
    let e = ap (λ pair. accept_of i.table.now.rows pair c.in_ok-ao.ao.key_id i.time) c.pair_at.ensures in
    found_later (ao_at (sight_of i)) (λ (ao : Ao). row_taking i.table.now.rows (pair_reached i.datagram.now) ao.key_id i.time) (view_ao c.in_ok-ao.ao) _ c.in_ok-ao.ensures.found
    (taken i.table.now.rows (pair_reached i.datagram.now) c.in_ok-ao.ao.key_id i.time c.in-Row.number c.row.result.now (c.in-Row.ensures ∙ e) c.row.ensures)
