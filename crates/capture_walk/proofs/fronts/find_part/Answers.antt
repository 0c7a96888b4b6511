use Rattle.std.proofs.Common.{◌++◌}
use Rattle.capture_walk.proofs.PartFinds.{found_none, found_refused, found_fault_later, found_less, found_whole, found_broken}
use Rattle.capture_walk.proofs.fronts.find_part.Goals as goal

pub returns-in-Ended : goal.returns-in-Ended
returns-in-Ended g c =
    let one = rw c.part_head.ensures at c.in-Ended.ensures.1 in
    (c.in-Ended.ensures.0, rw (c.none_or_short.ensures, c.kept.ensures.value) (found_none c.args.format c.args.interfaces.now _ _ _ _ _ one))

pub returns-in-Err : goal.returns-in-Err
returns-in-Err g c =
    let one = rw c.part_head.ensures at c.in-Enough.ensures.1 in
    (c.in-Enough.ensures.0, found_refused c.args.format c.args.interfaces.now _ _ _ _ _ c.in-Err.why one (rw c.kept-2.ensures.value at c.in-Err.ensures.exact))

pub returns-in-Fault-fill : goal.returns-in-Fault-fill
returns-in-Fault-fill g c =
    let one = rw c.part_head.ensures at c.in-Enough.ensures.1 in
    let told = rw c.kept-2.ensures.value at c.in-Ok.ensures.exact in
    (c.in-Enough.ensures.0 ++ c.in-Fault-fill.ensures.0, found_fault_later c.args.format c.args.interfaces.now c.in-Ok.size _ c.fill.new.buffer c.fill-2.new.buffer _ _ _ _ _ one told c.in-Fault-fill.ensures.1)

pub returns-in-Ended-fill : goal.returns-in-Ended-fill
returns-in-Ended-fill g c =
    let one = rw c.part_head.ensures at c.in-Enough.ensures.1 in
    let told = rw c.kept-2.ensures.value at c.in-Ok.ensures.exact in (
      c.in-Enough.ensures.0 ++ c.in-Ended-fill.ensures.0,
      rw c.short_part.ensures (found_less c.args.format c.args.interfaces.now c.in-Ok.size _ c.fill.new.buffer c.fill-2.new.buffer _ _ _ _ _ one told c.in-Ended-fill.ensures.1),
    )

pub returns-in-Ok-read_part : goal.returns-in-Ok-read_part
returns-in-Ok-read_part g c =
    let one = rw c.part_head.ensures at c.in-Enough.ensures.1 in
    let told = rw c.kept-2.ensures.value at c.in-Ok.ensures.exact in (
      c.in-Enough.ensures.0 ++ c.in-Enough-fill.ensures.0,
      found_whole c.args.format c.args.interfaces.now c.in-Ok.size _ c.fill.new.buffer c.fill-2.new.buffer _ _ _ _ _ one told c.in-Ok-read_part.part c.in-Enough-fill.ensures.1
          (rw c.kept-in-Enough-fill.ensures.value at c.in-Ok-read_part.ensures.exact) (rw c.kept-in-Enough-fill.ensures.value at c.in-Ok-read_part.ensures.within),
    )

pub returns-in-Err-read_part : goal.returns-in-Err-read_part
returns-in-Err-read_part g c =
    let one = rw c.part_head.ensures at c.in-Enough.ensures.1 in
    let told = rw c.kept-2.ensures.value at c.in-Ok.ensures.exact in (
      c.in-Enough.ensures.0 ++ c.in-Enough-fill.ensures.0,
      found_broken c.args.format c.args.interfaces.now c.in-Ok.size _ c.fill.new.buffer c.fill-2.new.buffer _ _ _ _ _ one told c.in-Err-read_part.why c.in-Enough-fill.ensures.1
          (rw c.kept-in-Enough-fill.ensures.value at c.in-Err-read_part.ensures.exact),
    )
