use Rattle.toml.specs.View.{table_view}
use Rattle.key_table.specs.Documents.{unread_fault}
use Rattle.key_table.proofs.UnreadLaws.{tables_by, unread_fails}
use Rattle.scope_keys.proofs.ReadLaws.{file_fails, file_read}
use Rattle.scope_keys.proofs.reading.read_key_file.Goals as goal

pub returns-in-Err-clause-file : goal.returns-in-Err-clause-file
returns-in-Err-clause-file c = rw c.fault.ensures (file_fails c.args.text.now (unread_fault c.in-Err.unread) (unread_fails c.args.text.now c.in-Err.unread c.in-Err.ensures.refused))

pub returns-in-Err-clause-tables : goal.returns-in-Err-clause-tables
returns-in-Err-clause-tables c = rw c.fault.ensures (unread_fails c.args.text.now c.in-Err.unread c.in-Err.ensures.refused)

pub returns-in-Ok-tables_in-clause-file : goal.returns-in-Ok-tables_in-clause-file
returns-in-Ok-tables_in-clause-file c =
    file_read c.args.text.now c.in-Ok-tables_in.tables (table_view c.in-Ok.document) (rw (tables_by c.args.text.now (table_view c.in-Ok.document) c.in-Ok.ensures.document) c.in-Ok-tables_in.ensures) c.in-Ok.ensures.document

pub returns-in-Ok-tables_in-clause-tables : goal.returns-in-Ok-tables_in-clause-tables
returns-in-Ok-tables_in-clause-tables c = rw (tables_by c.args.text.now (table_view c.in-Ok.document) c.in-Ok.ensures.document) c.in-Ok-tables_in.ensures

pub returns-in-Err-tables_in-clause-file : goal.returns-in-Err-tables_in-clause-file
returns-in-Err-tables_in-clause-file c = file_fails c.args.text.now c.in-Err-tables_in.fault (rw (tables_by c.args.text.now (table_view c.in-Ok.document) c.in-Ok.ensures.document) c.in-Err-tables_in.ensures)

pub returns-in-Err-tables_in-clause-tables : goal.returns-in-Err-tables_in-clause-tables
returns-in-Err-tables_in-clause-tables c = rw (tables_by c.args.text.now (table_view c.in-Ok.document) c.in-Ok.ensures.document) c.in-Err-tables_in.ensures
