-- A key file by its tables and its document.
use Rattle.std.proofs.Common.{◌≡◌, ℕ, List, Option, Some, Result, Ok, Err, refl}
use Rattle.toml.specs.Data.{Members}
use Rattle.book_keys.specs.declared.fault.TableFault.{TableFault}
use Rattle.book_keys.specs.declared.fault.TableFault.TheVariants as fault
use Rattle.book_keys.specs.Nodes.{document_of, tables_of}
use Rattle.book_keys.specs.Reading.{Fails}
use Rattle.book_keys.specs.Rows.{Table}
use Rattle.scope_keys.specs.KeyFiles.{key_file_by, key_file_in, keys_at}

file_by : (read : Result (List Table) TableFault) (document : Option Members) (tables : List Table) (ms : Members) → read ≡ Ok tables → document ≡ Some ms → key_file_by read document ≡ Ok (keys_at ms tables)
file_by read document tables ms is also = rw (is, also) refl

-- its tables and its document were read
pub file_read : (text : List ℕ) (tables : List Table) (ms : Members) → tables_of text ≡ Ok tables → document_of text ≡ Some ms → key_file_in text ≡ Ok (keys_at ms tables)
file_read text tables ms is also = file_by (tables_of text) (document_of text) tables ms is also

refused_by : (read : Result (List Table) TableFault) (document : Option Members) (why : TableFault) → read ≡ Err why → key_file_by read document ≡ Err why
refused_by read document why is = rw is refl

-- a fault of its tables is one of the file
pub file_fails : (text : List ℕ) (why : TableFault) → Fails why (tables_of text) → Fails why (key_file_in text)
file_fails text fault.Memory fails = tt
file_fails text fault.Syntax fails = refused_by (tables_of text) (document_of text) fault.Syntax fails
file_fails text (fault.Field n r c) fails = refused_by (tables_of text) (document_of text) (fault.Field n r c) fails
file_fails text (fault.TooMany n) fails = refused_by (tables_of text) (document_of text) (fault.TooMany n) fails
file_fails text (fault.Overlap n r s) fails = refused_by (tables_of text) (document_of text) (fault.Overlap n r s) fails
