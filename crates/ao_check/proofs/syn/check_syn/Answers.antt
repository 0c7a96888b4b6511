use Rattle.std.proofs.Common.{length}
use Rattle.std.proofs.Math.Nat.{le_refl}
use Rattle.ao_check.specs.Bonds.{Bond, fresh}
use Rattle.ao_check.proofs.FitLaws.{fits_fresh}
use Rattle.ao_check.proofs.CheckLaws.{ready, field_long, judges}
use Rattle.ao_check.proofs.syn.check_syn.Goals as goal

pub row-row-requires-clause-low : goal.row-row-requires-clause-low
row-row-requires-clause-low g c =
    let rows = c.args.table.now.rows in
    let a : Bond = fresh c.args.pair.now c.args.own_isn (length rows) in
    (ready rows a c.args.now c.args.datagram.now c.in-Ok.seen _ (fits_fresh rows c.args.pair.now c.args.own_isn (length rows) (le_refl (length rows))) c.in-Ok.ensures).low

pub row-row-requires-clause-high : goal.row-row-requires-clause-high
row-row-requires-clause-high g c =
    let rows = c.args.table.now.rows in
    let a : Bond = fresh c.args.pair.now c.args.own_isn (length rows) in
    (ready rows a c.args.now c.args.datagram.now c.in-Ok.seen _ (fits_fresh rows c.args.pair.now c.args.own_isn (length rows) (le_refl (length rows))) c.in-Ok.ensures).high

pub is_right-requires-clause-field : goal.is_right-requires-clause-field
is_right-requires-clause-field g c =
    let rows = c.args.table.now.rows in
    let a : Bond = fresh c.args.pair.now c.args.own_isn (length rows) in
    field_long rows a c.args.now c.args.datagram.now c.in-Ok.seen _ c.row-row.result.now c.in-Ok.ensures c.row-row.ensures

pub returns-then-not-is_right-clause-verdict : goal.returns-then-not-is_right-clause-verdict
returns-then-not-is_right-clause-verdict g c =
    let rows = c.args.table.now.rows in
    let a : Bond = fresh c.args.pair.now c.args.own_isn (length rows) in
    let j = judges rows a c.args.now c.args.datagram.now c.in-Ok.seen _ c.row-row.result.now c.derived-key.result c.is_right.result c.in-Ok.ensures c.requires.source c.requires.destination c.row-row.ensures c.derived-key.ensures.key c.is_right.ensures in
    j.wrong c.if-not-is_right.true

pub returns-clause-verdict : goal.returns-clause-verdict
returns-clause-verdict g c =
    let rows = c.args.table.now.rows in
    let a : Bond = fresh c.args.pair.now c.args.own_isn (length rows) in
    let j = judges rows a c.args.now c.args.datagram.now c.in-Ok.seen _ c.row-row.result.now c.derived-key.result c.is_right.result c.in-Ok.ensures c.requires.source c.requires.destination c.row-row.ensures c.derived-key.ensures.key c.is_right.ensures in
    j.right c.if-not-is_right.false
