use Rattle.std.proofs.Common.{◌-◌, Some, ap, ◌∙◌, arith}
use Rattle.book_base.specs.Algorithms.{mac_length_of}
use Rattle.book_macs.specs.Contexts.{bytes_of}
use Rattle.book_macs.specs.Keys.{traffic_key}
use Rattle.book_keys.specs.Rows.{Row}
use Rattle.ao_kdf.specs.declared.way.Way.TheVariants.{Outbound}
use Rattle.ao_check.specs.Bonds.{keys_after}
use Rattle.ao_check.proofs.KeyLaws.{got}
use Rattle.ao_check.proofs.CheckLaws.{same_at}
use Rattle.ao_shim.proofs.SealLaws.{mac_as, read_same}
use Rattle.ao_shim.proofs.seal.code_of.Goals as goal

pub mac_under-requires-clause-kept : goal.mac_under-requires-clause-kept
mac_under-requires-clause-kept g c = λ once.
    c.requires.kept c.row-row.result.now (got c.args.table.now.rows (c.args.plan.now.sending.row - 1) c.row-row.result.now (omega (arith, c.requires.low, c.requires.high)) c.row-row.ensures) once

pub returns-clause-mac : goal.returns-clause-mac
returns-clause-mac g c = λ r d here read.
    mac_as c.mac_under.result c.row-row.result.now r (bytes_of c.args.plan.now.context) c.of-extension.result.extension _ c.in-Ok.datagram d
    (same_at c.args.table.now.rows c.args.plan.now.sending.row c.row-row.result.now r c.requires.low c.requires.high c.row-row.ensures here)
    (omega (arith, c.of-extension.ensures)) (read_same c.in-Ok.datagram d c.args.laid.now c.in-Ok.ensures.read read) c.mac_under.ensures.mac

pub returns-clause-length : goal.returns-clause-length
returns-clause-length g c = λ r here.
    c.mac_under.ensures.length ∙ ap (λ (x : Row). mac_length_of x.algorithm) (same_at c.args.table.now.rows c.args.plan.now.sending.row c.row-row.result.now r c.requires.low c.requires.high c.row-row.ensures here)

pub returns-clause-keys : goal.returns-clause-keys
returns-clause-keys g c = λ r here.
    c.mac_under.ensures.keys ∙ ap (λ (x : Row). keys_after c.args.once c.args.keys.now c.args.plan.now.sending.row Outbound (traffic_key x.algorithm x.master (bytes_of c.args.plan.now.context))) (same_at c.args.table.now.rows c.args.plan.now.sending.row c.row-row.result.now r c.requires.low c.requires.high c.row-row.ensures here)

pub returns-clause-kept : goal.returns-clause-kept
returns-clause-kept g c = λ r here once.
    c.mac_under.ensures.kept once ∙ ap (λ (x : Row). Some (traffic_key x.algorithm x.master (bytes_of c.args.plan.now.context))) (same_at c.args.table.now.rows c.args.plan.now.sending.row c.row-row.result.now r c.requires.low c.requires.high c.row-row.ensures here)
