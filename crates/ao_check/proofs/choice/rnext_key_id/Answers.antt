use Rattle.book_keys.specs.Choices.{next_row}
use Rattle.ao_check.proofs.ChoosingLaws.{next_in, found, asks}
use Rattle.ao_check.proofs.choice.rnext_key_id.Goals as goal

pub row-requires-clause-low : goal.row-requires-clause-low
row-requires-clause-low c =
    (found c.args.table.now.rows (next_row c.args.table.now.rows c.args.pair.now c.args.now) c.in-Some.next (next_in c.args.table.now.rows c.args.pair.now c.args.now) c.in-Some.ensures).low

pub row-requires-clause-high : goal.row-requires-clause-high
row-requires-clause-high c =
    (found c.args.table.now.rows (next_row c.args.table.now.rows c.args.pair.now c.args.now) c.in-Some.next (next_in c.args.table.now.rows c.args.pair.now c.args.now) c.in-Some.ensures).high

pub returns-in-Some : goal.returns-in-Some
returns-in-Some c = asks c.args.table.now.rows c.args.pair.now c.args.now c.in-Some.next _ c.row.result.now c.args.own.now c.in-Some.ensures c.row.ensures c.recv_id.ensures
