use Rattle.toml.specs.View.{table_view}
use Rattle.key_table.proofs.UnreadLaws.{tables_by}
use Rattle.scope_keys.proofs.found.in_document.Goals as goal

pub none_found-requires : goal.none_found-requires
none_found-requires c = rw (tables_by c.args.text.now (table_view c.args.document.now) c.requires) c.in-Ok.ensures

pub refused-requires-clause-refused : goal.refused-requires-clause-refused
refused-requires-clause-refused c = rw (tables_by c.args.text.now (table_view c.args.document.now) c.requires) c.in-Err.ensures
