use Rattle.std.proofs.Common.{◌≡◌, length, ap, ◌∙◌, arith, refl, rules}
use Rattle.std.specs.Prelude.{vec_len}
use Rattle.stack_timers.specs.Indexes.{alarm_entries}
use Rattle.stack_timers.proofs.IndexLaws.{found, length_alarm_entries, roomier}
use Rattle.stack_timers.proofs.KeptLaws.{alarms_full, alarms_grow, alarms_kept}
use Rattle.stack_timers.proofs.alarms.Alarms.put.Goals as goal

pub returns-then-len-most-clause-alarms : goal.returns-then-len-most-clause-alarms
returns-then-len-most-clause-alarms c =
    rw (← c.self.view_is) (alarms_full _ _ _ c.args.pair.now c.self.invariant.0 c.args.deadline (omega (arith, c.len.ensures.value, c.most.ensures.value, c.if-len-most.true)))

pub invariant_of-self : goal.invariant_of-self
invariant_of-self c =
    let within = rw c.as_slice.ensures.value at c.place_for-place.ensures.within in
    let none = c.self.invariant.0.finds c.args.pair.now ∙ ap (λ v. found c.args.pair.now (alarm_entries v.alarms)) c.self.view_is ∙ c.requires in (
      rw (c.insert-in-Ok.ensures, c.in-Ok.ensures.items)
          (roomier _ _ _ _ c.in-Ok.ensures.capacity
          (alarms_kept _ c.self.inside.deadlines c.self.inside.items.items c.args.pair.now c.self.invariant.0 c.args.deadline c.place_for-place.result within none)),
      rw c.in-Ok.ensures.items (rw c.as_slice.ensures.value at c.place_for-place.ensures.rising (record { pair = c.args.pair.now; deadline = c.args.deadline }) refl),
    )

pub returns-clause-alarms : goal.returns-clause-alarms
returns-clause-alarms c =
    let placed_there = rw c.as_slice.ensures.value at c.place_for-place.ensures.placed (record { pair = c.args.pair.now; deadline = c.args.deadline }) refl in
    rw (← c.self.view_is) (c.in-Ok.ensures.items ∙ placed_there
    ∙ alarms_grow _ c.self.inside.deadlines c.self.inside.items.items c.args.pair.now c.self.invariant.0 c.args.deadline (omega (arith, c.len.ensures.value, c.most.ensures.value, c.if-len-most.false)))

pub unreachable-requires : goal.unreachable-requires
unreachable-requires c =
    let long : vec_len c.self.inside.items ≡ length c.self.inside.items.items = search rules in
    omega (arith, long, c.len.ensures.value, c.most.ensures.value, c.if-len-most.false, c.in-Err.ensures.full, c.self.invariant.0.enough, c.self.invariant.0.same, length_alarm_entries c.self.inside.items.items)
