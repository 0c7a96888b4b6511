use Rattle.std.proofs.Common.{sym, ◌∙◌, arith}
use Rattle.stack_timers.proofs.IndexLaws.{kept_missed, roomier}
use Rattle.stack_timers.proofs.KeptLaws.{alarm_gone, alarm_missed, alarms_have, alarms_left}
use Rattle.stack_timers.proofs.ListLaws.{alarm_removed}
use Rattle.stack_timers.proofs.PlaceLaws.{rising_without}
use Rattle.stack_timers.proofs.alarms.Alarms.take_out.Goals as goal

pub invariant_of-self : goal.invariant_of-self
invariant_of-self c =
    (rw c.remove.ensures.removed (kept_missed _ c.self.inside.deadlines _ c.args.pair.now c.self.invariant.0 (sym c.remove.ensures.value ∙ c.in-None.is)), c.self.invariant.1)

pub returns-in-None-clause-alarms : goal.returns-in-None-clause-alarms
returns-in-None-clause-alarms c =
    rw (← c.self.view_is) (sym (alarm_missed _ c.self.inside.deadlines c.self.inside.items.items c.args.pair.now c.self.invariant.0 (sym c.remove.ensures.value ∙ c.in-None.is)))

pub invariant_of-self-in-None-place_of : goal.invariant_of-self-in-None-place_of
invariant_of-self-in-None-place_of c =
    absurd (alarms_have _ c.self.inside.deadlines c.self.inside.items.items c.args.pair.now c.self.invariant.0 c.in-Some.deadline (sym c.remove.ensures.value ∙ c.in-Some.is) (rw c.as_slice.ensures.value at (sym c.place_of.ensures.found ∙ c.in-None-place_of.is)))

pub returns-in-None-place_of-clause-alarms : goal.returns-in-None-place_of-clause-alarms
returns-in-None-place_of-clause-alarms c =
    absurd (alarms_have _ c.self.inside.deadlines c.self.inside.items.items c.args.pair.now c.self.invariant.0 c.in-Some.deadline (sym c.remove.ensures.value ∙ c.in-Some.is) (rw c.as_slice.ensures.value at (sym c.place_of.ensures.found ∙ c.in-None-place_of.is)))

pub returns-in-None-place_of-clause-gone : goal.returns-in-None-place_of-clause-gone
returns-in-None-place_of-clause-gone c =
    absurd (alarms_have _ c.self.inside.deadlines c.self.inside.items.items c.args.pair.now c.self.invariant.0 c.in-Some.deadline (sym c.remove.ensures.value ∙ c.in-Some.is) (rw c.as_slice.ensures.value at (sym c.place_of.ensures.found ∙ c.in-None-place_of.is)))

pub invariant_of-self-in-Some-place_of : goal.invariant_of-self-in-Some-place_of
invariant_of-self-in-Some-place_of c =
    let is = c.remove-alarm.ensures.items ∙ alarm_removed c.args.pair.now c.in-Some-place_of.place c.self.inside.items.items (rw c.as_slice.ensures.value at (sym c.place_of.ensures.found ∙ c.in-Some-place_of.is)) in
    let within = rw c.as_slice.ensures.value at c.in-Some-place_of.ensures.within in (
      rw (c.remove.ensures.removed, is)
          (roomier _ _ _ _ (omega (arith, c.remove-alarm.ensures.capacity))
          (alarms_left _ c.self.inside.deadlines c.self.inside.items.items c.args.pair.now c.self.invariant.0 c.in-Some.deadline c.len-count.ensures.sound (sym c.remove.ensures.value ∙ c.in-Some.is))),
      rw c.remove-alarm.ensures.items (rising_without c.in-Some-place_of.place c.self.inside.items.items within c.self.invariant.1),
    )

pub returns-in-Some-place_of-clause-alarms : goal.returns-in-Some-place_of-clause-alarms
returns-in-Some-place_of-clause-alarms c =
    rw (← c.self.view_is) (c.remove-alarm.ensures.items ∙ alarm_removed c.args.pair.now c.in-Some-place_of.place c.self.inside.items.items (rw c.as_slice.ensures.value at (sym c.place_of.ensures.found ∙ c.in-Some-place_of.is)))

pub returns-in-Some-place_of-clause-gone : goal.returns-in-Some-place_of-clause-gone
returns-in-Some-place_of-clause-gone c =
    let is = c.remove-alarm.ensures.items ∙ alarm_removed c.args.pair.now c.in-Some-place_of.place c.self.inside.items.items (rw c.as_slice.ensures.value at (sym c.place_of.ensures.found ∙ c.in-Some-place_of.is)) in
    rw is (alarm_gone _ c.self.inside.deadlines c.self.inside.items.items c.args.pair.now c.self.invariant.0)
