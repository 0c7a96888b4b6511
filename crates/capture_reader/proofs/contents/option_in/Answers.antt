use Rattle.std.proofs.Common.{sym, ◌∙◌}
use Rattle.capture_reader.proofs.Options.{ends_all}
use Rattle.capture_reader.proofs.contents.option_in.Goals as goal

pub returns : goal.returns
returns c = sym c.options.invariant ∙ ends_all c.args.most c.options.counter c.args.order c.args.code c.args.size c.options.options.now c.options-test.false
