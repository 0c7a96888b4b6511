use Rattle.std.proofs.Common.{◌≡◌, ◌-◌, ◌≤◌, length, take, get_or, Some, refl, sym, ◌∙◌, subst, arith}
use Rattle.std.specs.Coded.{le_prop}
use mathlib.Core.Logic.{∥∥₁_elim}
use Rattle.book_keys.specs.Rows.{Row, Table}
use Rattle.book_link.specs.Outcomes as book
use Rattle.link_report.specs.declared.outcome.Outcome.TheVariants as outcome
use Rattle.link_report.specs.Segments.{length_sent, quiet}
use Rattle.tcp_endpoint.specs.declared.emission.Emission.{Emission}
use Rattle.tcp_endpoint.specs.declared.emission.Emission.TheVariants as emissions
use Rattle.link_world.proofs.SendLaws.{Sends, front_bytes, row_lent, row_made, sent_none, sent_some}
use Rattle.link_world.proofs.WholeLaws.{sent_made}
use Rattle.link_world.proofs.send.send.Goals as goal

pub row-row-requires-clause-low : goal.row-row-requires-clause-low
row-row-requires-clause-low c =
    let sends = subst (λ (m : Emission). Sends c.args.transmission c.args.side.now c.send_counted.new.side c.as_mut_slice.result.now c.send_counted.new.out (Some m))
    c.in-Segment.is c.in-Some.ensures.sent in
    ∥∥₁_elim c.requires.at le_prop (λ known.
    (row_made c.args.transmission c.args.at c.args.side.now c.send_counted.new.side c.args.log.now c.as_mut_slice.result.now c.send_counted.new.out c.in-Segment.made known sends).1.low)

pub row-row-requires-clause-high : goal.row-row-requires-clause-high
row-row-requires-clause-high c =
    let sends = subst (λ (m : Emission). Sends c.args.transmission c.args.side.now c.send_counted.new.side c.as_mut_slice.result.now c.send_counted.new.out (Some m))
    c.in-Segment.is c.in-Some.ensures.sent in
    ∥∥₁_elim c.requires.at le_prop (λ known.
    let there = (row_made c.args.transmission c.args.at c.args.side.now c.send_counted.new.side c.args.log.now c.as_mut_slice.result.now c.send_counted.new.out c.in-Segment.made known sends).1.high in
    subst (λ (t : Table). c.in-Segment.made.sending.row ≤ length t.rows) (sym c.table.ensures) there)

pub returns-in-Idle : goal.returns-in-Idle
returns-in-Idle c =
    let sends = subst (λ (m : Emission). Sends c.args.transmission c.args.side.now c.send_counted.new.side c.as_mut_slice.result.now c.send_counted.new.out (Some m))
    c.in-Idle.is c.in-Some.ensures.sent in
    sent_none c.args.transmission c.args.at c.args.side.now c.send_counted.new.side c.args.log.now c.reserve.new.self c.as_mut_slice.result.now c.send_counted.new.out
    (Some emissions.Idle) (quiet c.args.transmission) c.quiet.result c.in-Some.ensures.pair c.reserve.ensures.made c.reserve.ensures.forgeries c.reserve.ensures.stands
    sends (λ setup w s. s.tells) c.quiet.ensures

pub returns-in-NoKey : goal.returns-in-NoKey
returns-in-NoKey c =
    let sends = subst (λ (m : Emission). Sends c.args.transmission c.args.side.now c.send_counted.new.side c.as_mut_slice.result.now c.send_counted.new.out (Some m))
    c.in-NoKey.is c.in-Some.ensures.sent in
    sent_none c.args.transmission c.args.at c.args.side.now c.send_counted.new.side c.args.log.now c.reserve.new.self c.as_mut_slice.result.now c.send_counted.new.out
    (Some emissions.NoKey) book.WithoutKey outcome.NoKey c.in-Some.ensures.pair c.reserve.ensures.made c.reserve.ensures.forgeries c.reserve.ensures.stands
    sends (λ setup w s. s.tells) refl

pub returns-in-Segment : goal.returns-in-Segment
returns-in-Segment c =
    let made = c.in-Segment.made in
    let out = c.send_counted.new.out in
    let sends = subst (λ (m : Emission). Sends c.args.transmission c.args.side.now c.send_counted.new.side c.as_mut_slice.result.now out (Some m))
    c.in-Segment.is c.in-Some.ensures.sent in
    let short : made.length ≤ 1500 = subst (λ (m : Emission). length_sent (Some m) ≤ 1500) c.in-Segment.is c.in-Some.ensures.short in
    let long : length out ≡ 1500 = omega (arith, c.send_counted.auto.out, c.as_mut_slice.ensures.len, c.in_ok-resize.ensures.len) in
    let bytes : c.from_vec-bytes.result ≡ take made.length out =
    c.from_vec-bytes.ensures ∙ c.truncate.ensures.items
    ∙ front_bytes made.length c.resize.new.self.len out _ (omega (arith, short, c.in_ok-resize.ensures.len)) (omega (arith, short, long)) in
    sent_some c.args.transmission c.args.at c.args.side.now c.send_counted.new.side c.args.log.now c.reserve.new.self c.push-name.new.self c.as_mut_slice.result.now out
    made c.push-name.result c.in-Some.ensures.pair c.reserve.ensures.made c.push-name.ensures.made (c.push-name.ensures.forgeries ∙ c.reserve.ensures.forgeries)
    c.reserve.ensures.stands sends
    (λ w entry h history logs named.
    let row = row_lent c.row-row.result.now h (λ (x : Row). subst (λ (t : Table). c.row-row.result.now ≡ get_or t.rows (made.sending.row - 1) x) c.table.ensures (c.row-row.ensures x)) in
    c.push-name.ensures.stands history entry logs
    (sent_made c.args.at made.number c.row-row.result.now made.context c.from_vec-bytes.result h short refl refl row refl bytes) named)
    (c.push-name.ensures.name)
