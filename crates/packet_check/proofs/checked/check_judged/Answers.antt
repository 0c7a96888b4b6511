use Rattle.std.proofs.Common.{refl}
use Rattle.book_cmd_check.specs.Captures.{Stored}
use Rattle.packet_check.proofs.ContentLaws.{fault_found}
use Rattle.packet_check.proofs.checked.check_judged.Goals as goal

pub returns-in-Ok-clause-checks : goal.returns-in-Ok-clause-checks
returns-in-Ok-clause-checks g c = λ held number stands.
    c.check_segment.ensures.checks held (record { number = number; time = c.args.stored.time; bytes = c.args.stored.bytes.now }) c.in-Ok.ensures.read refl stands

pub returns-in-Err-clause-checks : goal.returns-in-Err-clause-checks
returns-in-Err-clause-checks g c = λ held number stands.
    let s : Stored = record { number = number; time = c.args.stored.time; bytes = c.args.stored.bytes.now } in
    fault_found c.check_fault.result c.args.checker.now.tables held s c.in-Err.fault c.args.checker.now.entries c.args.line.now.items _ c.in-Err.ensures.refused stands
    (rw c.tables.ensures at (c.check_fault.ensures s refl))
