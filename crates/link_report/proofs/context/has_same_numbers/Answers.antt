use Rattle.std.proofs.Common.{arith}
use Rattle.link_report.proofs.ContextLaws.{all_equal}
use Rattle.link_report.proofs.context.has_same_numbers.Goals as goal

pub returns : goal.returns
returns c = all_equal c.args.one.now c.args.other.now (omega arith) (omega arith) (omega arith) (omega arith) (omega arith) (omega arith) (omega arith) (omega arith)
