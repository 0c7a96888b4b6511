use Rattle.std.proofs.Common.{◌++◌, refl, arith}
use Rattle.capture_walk.proofs.Exits.{whole_step, end_step, read_step, long_step, broken_step}
use Rattle.capture_walk.proofs.reader.CaptureReader.advance.Goals as goal

pub returns-then-part-self : goal.returns-then-part-self
returns-then-part-self g c =
    let opens = rw c.as_slice.ensures at c.in-At.ensures.1 in
    let finds = rw c.as_slice-2.ensures at c.in-Whole.ensures.1 in
    let most = c.self.invariant.0 in (
      c.in-At.ensures.0 ++ c.in-Whole.ensures.0,
      rw (← c.self.view_is, c.halt-then-part-self.ensures.answer, c.halt-then-part-self.ensures.over) (long_step _ c.self.inside.format c.self.inside.interfaces c.in-At.front _ c.self.inside.buffer _ c.find_part.new.buffer _ _ _ _ _ refl refl c.self.invariant.3 opens finds
          c.in-Whole.part finds.is.1.0 c.if-part-self.true _ (record { packet = refl; over = refl; packets = refl; passed = refl }) refl),
    )

pub returns-else-part-self : goal.returns-else-part-self
returns-else-part-self g c =
    let opens = rw c.as_slice.ensures at c.in-At.ensures.1 in
    let finds = rw c.as_slice-2.ensures at c.in-Whole.ensures.1 in
    let most = c.self.invariant.0 in (
      c.in-At.ensures.0 ++ c.in-Whole.ensures.0,
      rw (← c.self.view_is, c.take.ensures.step, c.take.ensures.taken) (whole_step _ c.self.inside.format c.self.inside.interfaces c.in-At.front _ c.self.inside.buffer _ c.find_part.new.buffer _ _ _ _ _ refl refl c.self.invariant.3 opens finds
          c.in-Whole.part finds.is.0 (omega (arith, c.if-part-self.false, c.if-size-self.false))),
    )

pub returns-in-Done : goal.returns-in-Done
returns-in-Done g c =
    let opens = rw c.as_slice.ensures at c.in-At.ensures.1 in
    let finds = rw c.as_slice-2.ensures at c.in-Done.ensures.1 in
    let most = c.self.invariant.0 in (
      c.in-At.ensures.0 ++ c.in-Done.ensures.0,
      rw (← c.self.view_is, c.end.ensures.answer, c.end.ensures.over) (end_step _ c.self.inside.format c.self.inside.interfaces c.in-At.front _ c.self.inside.buffer _ c.find_part.new.buffer _ _ _ _ _ refl refl c.self.invariant.3 opens finds
          finds.is.0 finds.is.1 _ (record { packet = refl; over = refl; packets = refl; passed = refl }) refl),
    )

pub returns-in-Broken : goal.returns-in-Broken
returns-in-Broken g c =
    let opens = rw c.as_slice.ensures at c.in-At.ensures.1 in
    let finds = rw c.as_slice-2.ensures at c.in-Broken.ensures.1 in
    let most = c.self.invariant.0 in (
      c.in-At.ensures.0 ++ c.in-Broken.ensures.0,
      rw (← c.self.view_is, c.halt-in-Broken.ensures.answer, c.halt-in-Broken.ensures.over, c.fault-fault.ensures) (broken_step _ c.self.inside.format c.self.inside.interfaces c.in-At.front _ c.self.inside.buffer _ c.find_part.new.buffer _ _ _ _ _ refl refl c.self.invariant.3 opens finds
          c.in-Broken.why finds.is.0 finds.is.1 finds.is.2 _ (record { packet = refl; over = refl; packets = refl; passed = refl }) refl),
    )

pub returns-in-Fault-find_part : goal.returns-in-Fault-find_part
returns-in-Fault-find_part g c =
    let opens = rw c.as_slice.ensures at c.in-At.ensures.1 in
    let finds = rw c.as_slice-2.ensures at c.in-Fault-find_part.ensures.1 in
    let most = c.self.invariant.0 in (
      c.in-At.ensures.0 ++ c.in-Fault-find_part.ensures.0,
      rw (← c.self.view_is, c.halt-in-Fault-find_part.ensures.answer, c.halt-in-Fault-find_part.ensures.over) (read_step _ c.self.inside.format c.self.inside.interfaces c.in-At.front _ c.self.inside.buffer _ c.find_part.new.buffer _ _ _ _ _ refl refl c.self.invariant.3 opens finds
          finds.is _ (record { packet = refl; over = refl; packets = refl; passed = refl }) refl),
    )
