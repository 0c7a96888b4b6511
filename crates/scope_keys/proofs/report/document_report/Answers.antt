use Rattle.toml.specs.View.{table_view}
use Rattle.key_table.proofs.UnreadLaws.{tables_by}
use Rattle.scope_keys.proofs.report.document_report.Goals as goal

pub good_report-requires : goal.good_report-requires
good_report-requires c = rw (tables_by c.args.text.now (table_view c.args.document.now) c.requires) c.in-Ok.ensures

pub refused_report-requires-clause-refused : goal.refused_report-requires-clause-refused
refused_report-requires-clause-refused c = rw (tables_by c.args.text.now (table_view c.args.document.now) c.requires) c.in-Err.ensures
