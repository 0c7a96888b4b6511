use Rattle.std.proofs.Common.{sym, ap, ◌∙◌, arith}
use Rattle.book_stack.specs.Alarms.{earliest}
use Rattle.stack_timers.proofs.IndexLaws.{roomier}
use Rattle.stack_timers.proofs.KeptLaws.{alarm_first, first_goes}
use Rattle.stack_timers.proofs.alarms.Alarms.take_due.Goals as goal

pub invariant_of-self : goal.invariant_of-self
invariant_of-self c =
    let first = ap (λ v. earliest v.alarms) c.self.view_is ∙ sym c.earliest.ensures ∙ c.in_ok-earliest.was in (
      rw c.remove-deadline.ensures.removed
          (roomier _ _ _ _ (omega (arith, c.remove.ensures.capacity))
          (alarm_first _ c.self.inside.deadlines c.self.inside.items.items c.remove.new.self.items c.remove.result _ c.len-count.ensures.sound c.self.invariant.0 first c.remove.ensures.value c.remove.ensures.items)),
      first_goes c.self.inside.items.items c.remove.new.self.items _ first c.remove.ensures.items c.self.invariant.1,
    )
