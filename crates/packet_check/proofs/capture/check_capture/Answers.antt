use Rattle.std.proofs.Common.{[], refl}
use Rattle.packet_check.specs.Reading.{asked_after}
use Rattle.packet_check.proofs.EndLaws.{ends_broken, ends_end, ends_long, ends_memory, ends_none, ends_read, ends_write}
use Rattle.packet_check.proofs.capture.check_capture.Goals as goal

pub returns-in-Err : goal.returns-in-Err
returns-in-Err g c = ([], ends_none c.args.all c.args.tables c.args.isns.now _ _)

pub returns-in-Err-behind : goal.returns-in-Err-behind
returns-in-Err-behind g c = ([], ends_none c.args.all c.args.tables c.args.isns.now _ _)

pub walk-requires : goal.walk-requires
walk-requires g c = c.in-Ok.ensures

pub returns-in-Ok-walk : goal.returns-in-Ok-walk
returns-in-Ok-walk g c =
    let walked = c.in-Ok-walk.ensures (asked_after c.args.all c.args.tables c.args.isns.now) c.in-Ok-behind.ensures refl in
    (walked.0, ends_end c.args.all c.args.tables c.args.isns.now _ _ walked.0 _ _ _ _ _ _ _ walked.1 (λ heard. c.write_total.ensures _ heard.tallies))

pub returns-in-Err-Broken : goal.returns-in-Err-Broken
returns-in-Err-Broken g c =
    let walked = rw c.in-Err-Broken.field-0-is at (c.in-Err-Broken.ensures (asked_after c.args.all c.args.tables c.args.isns.now) c.in-Ok-behind.ensures refl) in
    (walked.0, ends_broken c.args.all c.args.tables c.args.isns.now _ _ walked.0 _ _ _ _ _ _ _ walked.1 (λ heard. c.write_total-in-Err-Broken.ensures _ heard.tallies))

pub returns-in-Err-TooLong : goal.returns-in-Err-TooLong
returns-in-Err-TooLong g c =
    let walked = rw c.in-Err-TooLong.field-0-is at (c.in-Err-TooLong.ensures (asked_after c.args.all c.args.tables c.args.isns.now) c.in-Ok-behind.ensures refl) in
    (walked.0, ends_long c.args.all c.args.tables c.args.isns.now _ _ walked.0 _ _ _ _ walked.1)

pub returns-in-Err-Read : goal.returns-in-Err-Read
returns-in-Err-Read g c =
    let walked = rw c.in-Err-Read.field-0-is at (c.in-Err-Read.ensures (asked_after c.args.all c.args.tables c.args.isns.now) c.in-Ok-behind.ensures refl) in
    (walked.0, ends_read c.args.all c.args.tables c.args.isns.now _ _ walked.0 _ _ _ _ walked.1)

pub returns-in-Err-Write : goal.returns-in-Err-Write
returns-in-Err-Write g c =
    let walked = rw c.in-Err-Write.field-0-is at (c.in-Err-Write.ensures (asked_after c.args.all c.args.tables c.args.isns.now) c.in-Ok-behind.ensures refl) in
    (walked.0, ends_write c.args.all c.args.tables c.args.isns.now _ _ walked.0 _ _ _ _ walked.1)

pub returns : goal.returns
returns g c =
    let walked = rw c.in-Err-Memory.field-0-is at (c.in-Err-Memory.ensures (asked_after c.args.all c.args.tables c.args.isns.now) c.in-Ok-behind.ensures refl) in
    (walked.0, ends_memory c.args.all c.args.tables c.args.isns.now _ _ walked.0 _ _ _ _ walked.1)
