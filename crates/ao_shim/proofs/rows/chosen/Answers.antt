use Rattle.std.proofs.Common.{◌∙◌}
use Rattle.book_keys.specs.Coordination.{row_to_send}
use Rattle.ao_check.proofs.ChoosingLaws.{chosen_in, found, chooses, refrains}
use Rattle.ao_shim.proofs.rows.chosen.Goals as goal

pub returns-in_err-number-clause-sending : goal.returns-in_err-number-clause-sending
returns-in_err-number-clause-sending c = c.from_residual.ensures ∙ (refrains c.args.current c.args.table.now.rows c.args.pair.now c.args.now c.in_err-number.ensures).sending

pub row-row-requires-clause-low : goal.row-row-requires-clause-low
row-row-requires-clause-low c =
    (found c.args.table.now.rows (row_to_send c.args.current c.args.table.now.rows c.args.pair.now c.args.now) c.in_ok-number.number
    (chosen_in c.args.current c.args.table.now.rows c.args.pair.now c.args.now) c.in_ok-number.ensures).low

pub row-row-requires-clause-high : goal.row-row-requires-clause-high
row-row-requires-clause-high c =
    (found c.args.table.now.rows (row_to_send c.args.current c.args.table.now.rows c.args.pair.now c.args.now) c.in_ok-number.number
    (chosen_in c.args.current c.args.table.now.rows c.args.pair.now c.args.now) c.in_ok-number.ensures).high

pub returns-clause-sending : goal.returns-clause-sending
returns-clause-sending c =
    (chooses c.args.current c.args.table.now.rows c.args.pair.now c.args.now c.in_ok-number.number _ _ c.row-row.result.now c.in_ok-number.ensures c.row-row.ensures c.send_id.ensures c.rnext_key_id-rnext.ensures).sending

pub returns-clause-low : goal.returns-clause-low
returns-clause-low c =
    (found c.args.table.now.rows (row_to_send c.args.current c.args.table.now.rows c.args.pair.now c.args.now) c.in_ok-number.number
    (chosen_in c.args.current c.args.table.now.rows c.args.pair.now c.args.now) c.in_ok-number.ensures).low

pub returns-clause-high : goal.returns-clause-high
returns-clause-high c =
    (found c.args.table.now.rows (row_to_send c.args.current c.args.table.now.rows c.args.pair.now c.args.now) c.in_ok-number.number
    (chosen_in c.args.current c.args.table.now.rows c.args.pair.now c.args.now) c.in_ok-number.ensures).high
