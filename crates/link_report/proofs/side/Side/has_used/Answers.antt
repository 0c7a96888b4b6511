use Rattle.std.proofs.Common.{◌∙◌}
use Rattle.link_report.proofs.SideLaws.{used_other}
use Rattle.link_report.proofs.side.Side.has_used.Goals as goal

pub returns-else-isn : goal.returns-else-isn
returns-else-isn c = λ m h.
    (rw c.as_slice.ensures.value at c.has_isn.ensures)
    ∙ used_other c.args.self.now m c.args.isn c.isn.result c.in-Some.live c.in-Some.is c.isn.ensures c.if-isn.false h
