use Rattle.std.proofs.Common.{sym, ap, ◌∙◌}
use Rattle.book_segments.specs.Options.{find_ao}
use Rattle.link_report.proofs.accounts.has_input.Goals as goal

pub same_input-requires-clause-other : goal.same_input-requires-clause-other
same_input-requires-clause-other c = sym (c.in-One.ensures ∙ ap find_ao c.options-options.ensures.value)
