use Rattle.std.proofs.Common.{◌∙◌, sym, arith}
use Rattle.book_keys.specs.Nodes.{tables_of}
use Rattle.book_scope_texts.specs.declared.finding.TomlFault.TheVariants.{Value}
use Rattle.scope_keys.proofs.FileLaws.{good_amiss, report_good}
use Rattle.scope_keys.proofs.report.good_report.Goals as goal

pub returns-clause-text : goal.returns-clause-text
returns-clause-text c = record { index = 0; why = Value; within = omega arith; is = c.in_ok-written.ensures ∙ sym (report_good Value c.args.text.now c.args.tables.now c.requires) }

pub returns-clause-amiss : goal.returns-clause-amiss
returns-clause-amiss c = good_amiss c.args.tables.now (tables_of c.args.text.now) c.has_nodes.result c.requires c.has_nodes.ensures
