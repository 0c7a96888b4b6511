use Rattle.std.proofs.Common.{sym, ap, ◌∙◌}
use Rattle.book_segments.specs.Options.{options_of, listed}
use Rattle.tcp_segment.proofs.KindLaws.{mss_plain, mss_same, mss_at, mss_past}
use Rattle.tcp_segment.proofs.options.Options.mss.Goals as goal

pub returns-in-Some-mss_of_option : goal.returns-in-Some-mss_of_option
returns-in-Some-mss_of_option c = mss_at _ _ _ _ c.in-Some.ensures.steps c.in-Some-mss_of_option.ensures ∙ c.loop-option.invariant.2 ∙ sym (mss_same (listed (options_of c.args.self.now)))

pub loop-option-preserved : goal.loop-option-preserved
loop-option-preserved c = (tt, tt, mss_past _ _ _ c.in-Some.ensures.steps c.in_default.ensures ∙ c.loop-option.invariant.2)

pub returns : goal.returns
returns c = sym (ap mss_plain c.in-None.ensures.steps.0) ∙ c.loop-option.invariant.2 ∙ sym (mss_same (listed (options_of c.args.self.now)))
