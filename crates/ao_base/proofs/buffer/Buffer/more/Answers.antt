use Rattle.std.proofs.Common.{◌≡◌, ◌+◌, ◌-◌, ◌≤◌, [], length, drop, take, refl, sym, ap, ◌∙◌, arith}
use Rattle.std.proofs.lemmas.List.{length-drop, with_items_is}
use Rattle.std.specs.Vec.{with_items}
use Rattle.ao_base.proofs.BufferLaws.{taken_some, taken_none}
use Rattle.ao_base.proofs.Slices.{part_more, part_same, part_fits}
use Rattle.ao_base.proofs.buffer.Buffer.more.Goals as goal

pub returns-in_default : goal.returns-in_default
returns-in_default g c =
    let len = c.self.inside.to - c.self.inside.from in
    let at = c.make_room-front.result + len in
    let old = c.make_room-front.new.bytes in
    let reached = c.reach.new.bytes in
    let new = c.fill.new.bytes in
    let kept = ap (λ b. b.kept) c.self.view_is in
    let size = ap (λ b. b.size) c.self.view_is in
    let first : length old ≡ c.self.inside.bytes.len = omega arith in
    let second : length new ≡ reached.len = omega arith in
    let written : (with_items c.self.inside.bytes old).items ≡ old = with_items_is c.self.inside.bytes old first in
    let read : (with_items reached new).items ≡ new = with_items_is reached new second in
    let front : take at new ≡ take at reached.items = rw c.as_mut_slice-2.ensures.value at c.fill.ensures.front in
    let reaches : take at reached.items ≡ take at old = rw written at c.reach.ensures.same in
    let same = rw c.as_mut_slice.ensures.value at c.make_room-front.ensures.same in
    let kept_is : c.args.self.now.kept ≡ take len (drop c.make_room-front.result old) = sym (same ∙ kept) in
    let within : length new ≤ c.self.inside.size = omega arith in (
      [],
      taken_none _ _ _ _ (drop at new) _
          (rw read (part_same c.args.self.now.kept old new c.make_room-front.result len at refl kept_is (front ∙ reaches)))
          refl size (rw read (omega (arith, within, part_fits new c.make_room-front.result at))) c.in_default.ensures.reads,
    )

pub returns : goal.returns
returns g c =
    let len = c.self.inside.to - c.self.inside.from in
    let at = c.make_room-front.result + len in
    let old = c.make_room-front.new.bytes in
    let reached = c.reach.new.bytes in
    let new = c.fill.new.bytes in
    let kept = ap (λ b. b.kept) c.self.view_is in
    let size = ap (λ b. b.size) c.self.view_is in
    let first : length old ≡ c.self.inside.bytes.len = omega arith in
    let second : length new ≡ reached.len = omega arith in
    let written : (with_items c.self.inside.bytes old).items ≡ old = with_items_is c.self.inside.bytes old first in
    let read : (with_items reached new).items ≡ new = with_items_is reached new second in
    let front : take at new ≡ take at reached.items = rw c.as_mut_slice-2.ensures.value at c.fill.ensures.front in
    let reaches : take at reached.items ≡ take at old = rw written at c.reach.ensures.same in
    let same = rw c.as_mut_slice.ensures.value at c.make_room-front.ensures.same in
    let kept_is : c.args.self.now.kept ≡ take len (drop c.make_room-front.result old) = sym (same ∙ kept) in
    let within : length new ≤ c.self.inside.size = omega arith in (
      take c.in-Ok.n (drop at new),
      taken_some _ _ _ _ new at c.in-Ok.n
          (rw read (part_more c.args.self.now.kept old new c.make_room-front.result len at c.in-Ok.n refl kept_is (front ∙ reaches)))
          refl size (rw read (omega (arith, within, part_fits new c.make_room-front.result (at + c.in-Ok.n)))) (rw (length-drop at new) (omega arith)) c.in-Ok.ensures.reads,
    )
