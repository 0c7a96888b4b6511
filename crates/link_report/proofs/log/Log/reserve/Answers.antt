use Rattle.std.proofs.Common.{sym, subst}
use Rattle.link_report.specs.Numbers.{AreLinked}
use Rattle.link_report.proofs.NumberLaws.{linked_again}
use Rattle.link_report.proofs.log.Log.reserve.Goals as goal

pub invariant_of-self-2 : goal.invariant_of-self-2
invariant_of-self-2 c =
    let own = c.args.self.now in
    record {
      linked = subst (λ xs. AreLinked xs c.reserve-2.new.self) (sym c.reserve.ensures.items)
          (linked_again own.kept.items own.latest c.reserve-2.new.self own.linked c.reserve-2.ensures.entries.2);
    }
