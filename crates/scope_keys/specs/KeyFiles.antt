-- A key file as it is read, as the book has it, and the one that a text is. Its top is `key_file_in` (own).
use Rattle.std.specs.Prelude.{ℕ, List, Option, Some, None, Result, Ok, Err}
use Rattle.toml.specs.Data.{Members}
use Rattle.toml.specs.View.{table_view}
use Rattle.book_keys.specs.declared.fault.TableFault.{TableFault}
use Rattle.book_keys.specs.declared.fault.TableFault.TheVariants as fault
use Rattle.book_keys.specs.Nodes.{document_of, tables_of}
use Rattle.book_keys.specs.Rows.{Table}
use Rattle.book_scope_plan.specs.AdminNames.{KeyFile}
use Rattle.scope_keys.specs.declared.reading.KeyFile.{KeyFile as FileRead}

-- the key file of this document and these tables (own)
abbrev pub keys_at : Members → List Table → KeyFile
keys_at document tables = record { document = document; tables = tables }

-- the book's form of what the code holds (own)
abbrev pub key_file_of : FileRead → KeyFile
key_file_of file = keys_at (table_view file.document) file.tables

-- the key file of these tables and this document, or why it is refused (own)
abbrev pub key_file_by : Result (List Table) TableFault → Option Members → Result KeyFile TableFault
key_file_by (Ok tables) (Some document) = Ok (keys_at document tables)
key_file_by (Ok tables) None = Err fault.Syntax
key_file_by (Err why) document = Err why

-- the key file that a text is (own)
abbrev pub key_file_in : List ℕ → Result KeyFile TableFault
key_file_in text = key_file_by (tables_of text) (document_of text)
