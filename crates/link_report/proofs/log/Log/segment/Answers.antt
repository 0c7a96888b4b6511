use Rattle.std.proofs.Common.{◌-◌}
use Rattle.link_report.proofs.LogLaws.{item_past, item_there, named_past, named_there, named_zero}
use Rattle.link_report.proofs.log.Log.segment.Goals as goal

pub returns-then-name-eq0 : goal.returns-then-name-eq0
returns-then-name-eq0 c history h = rw (c.if-name-eq0.true) (named_zero c.args.self.now.kept.items history h.keeps)

pub returns-in-Some : goal.returns-in-Some
returns-in-Some c history h =
    let kept = c.args.self.now.kept.items in
    named_there kept history c.args.name c.in-Some.kept.now c.if-name-eq0.false
    (item_there kept (c.args.name - 1) c.in-Some.kept (rw c.as_slice.ensures.value at c.in-Some.ensures.lookup)) h.keeps

pub returns-in-None : goal.returns-in-None
returns-in-None c history h =
    let kept = c.args.self.now.kept.items in
    named_past kept history c.args.name c.if-name-eq0.false (item_past kept (c.args.name - 1) (rw c.as_slice.ensures.value at c.in-None.ensures.lookup)) h.keeps
