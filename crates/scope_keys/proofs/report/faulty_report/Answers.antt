use Rattle.std.proofs.Common.{◌∙◌, sym, refl, arith}
use Rattle.toml.specs.View.{table_view}
use Rattle.book_keys.proofs.SyntaxLaws.{syntax_exact}
use Rattle.book_scope_texts.specs.declared.finding.TomlFault.TheVariants.{Value}
use Rattle.scope_keys.proofs.FileLaws.{report_faulty}
use Rattle.scope_keys.proofs.report.faulty_report.Goals as goal

pub returns-clause-text : goal.returns-clause-text
returns-clause-text c = record {
  index = 0;
  why = Value;
  within = omega arith;
  is = c.in_ok-written.ensures ∙ sym (report_faulty Value c.args.text.now (table_view c.args.document.now) c.args.fault c.requires.document (syntax_exact c.args.text.now) c.requires.refused);
}

pub returns-clause-amiss : goal.returns-clause-amiss
returns-clause-amiss c = rw c.requires.refused refl
