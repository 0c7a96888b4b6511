use Rattle.std.proofs.Common.{◌∙◌, sym, refl}
use Rattle.scope_keys.proofs.FileLaws.{none_tables, report_syntax}
use Rattle.scope_keys.proofs.report.syntax_report.Goals as goal

pub returns-clause-text : goal.returns-clause-text
returns-clause-text c = record { index = c.args.at; why = c.args.why; within = c.requires.within; is = c.in_ok-written.ensures ∙ sym (report_syntax c.args.at c.args.why c.args.text.now c.requires.none) }

pub returns-clause-amiss : goal.returns-clause-amiss
returns-clause-amiss c = rw (none_tables c.args.text.now c.requires.none) refl
