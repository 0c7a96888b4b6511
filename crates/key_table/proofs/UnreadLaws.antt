-- What reading gives of a text, by the document that it is or isn't.
use Rattle.std.proofs.Common.{◌≡◌, ℕ, List, Option, Some, None, Result, Ok, Err, IfOk, refl, ap}
use Rattle.std.specs.List.{All}
use Rattle.toml.specs.Data.{Members}
use Rattle.book_keys.specs.declared.fault.TableFault.{TableFault}
use Rattle.book_keys.specs.declared.fault.TableFault.TheVariants as fault
use Rattle.book_keys.specs.Nodes.{document_of, tables_of, tables_of_document}
use Rattle.book_keys.specs.Overlaps.{IsValid}
use Rattle.book_keys.specs.Reading.{Fails, ReadingGives}
use Rattle.book_keys.specs.Rows.{Table}
use Rattle.book_keys.proofs.ValidLaws.{tables_of-valid}
use Rattle.key_table.specs.declared.document.Unread.{Unread}
use Rattle.key_table.specs.declared.document.Unread.TheVariants.{NotUtf8, NotToml, Memory}
use Rattle.key_table.specs.Documents.{Unreadable, unread_fault}

-- the tables of a text that is this document
pub tables_by : (text : List ℕ) (ms : Members) → document_of text ≡ Some ms → tables_of text ≡ tables_of_document (Some ms)
unfolding tables_of
tables_by text ms is = ap tables_of_document is

by_none : (document : Option Members) → document ≡ None → tables_of_document document ≡ Err fault.Syntax
unfolding tables_of_document
by_none document none = rw none refl

no_document : (text : List ℕ) → document_of text ≡ None → tables_of text ≡ Err fault.Syntax
unfolding tables_of
no_document text none = by_none (document_of text) none

-- a text that gave no document
pub unread_fails : (text : List ℕ) (why : Unread) → Unreadable text why → Fails (unread_fault why) (tables_of text)
unread_fails text (NotUtf8 i) unreadable = no_document text unreadable.0
unread_fails text (NotToml i why) unreadable = no_document text unreadable.0
unread_fails text Memory unreadable = tt

-- the tables that a text stands for are valid
pub read_valid : (text : List ℕ) (r : Result (List Table) TableFault) → ReadingGives (λ t. t) r (tables_of text) → IfOk r (All (λ t. IsValid t.rows))
read_valid text (Ok tables) is = tables_of-valid text tables is
read_valid text (Err why) is = tt
