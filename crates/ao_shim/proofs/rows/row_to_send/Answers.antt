use Rattle.std.proofs.Common.{sym, ◌∙◌}
use Rattle.ao_check.proofs.ChoosingLaws.{stays_current}
use Rattle.ao_shim.proofs.rows.row_to_send.Goals as goal

pub returns-then-is_sendable : goal.returns-then-is_sendable
returns-then-is_sendable c =
    rw c.in-Some.is (stays_current c.args.table.now.rows c.args.pair.now c.args.now c.in-Some.current (sym c.is_sendable.ensures ∙ c.if-is_sendable.true))
