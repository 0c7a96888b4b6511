-- Why a text gave no document (own). Its top is `Unreadable`.
use Rattle.std.specs.Prelude.{◌≡◌, ℕ, ◌≤◌, List, None, length}
use Rattle.book_keys.specs.declared.fault.TableFault.{TableFault}
use Rattle.book_keys.specs.declared.fault.TableFault.TheVariants as fault
use Rattle.book_keys.specs.Nodes.{document_of}
use Rattle.key_table.specs.declared.document.Unread.{Unread}
use Rattle.key_table.specs.declared.document.Unread.TheVariants.{NotUtf8, NotToml, Memory}

-- a text gave no document since it is none, from a byte of it on, unless memory ran out (own)
abbrev pub Unreadable : List ℕ → Unread → Type 0
Unreadable text (NotUtf8 i) = (document_of text ≡ None) × (i ≤ length text)
Unreadable text (NotToml i why) = (document_of text ≡ None) × (i ≤ length text)
Unreadable text Memory = Unit {0}

-- the fault of a key file whose text gave no document (own)
abbrev pub unread_fault : Unread → TableFault
unread_fault (NotUtf8 i) = fault.Syntax
unread_fault (NotToml i why) = fault.Syntax
unread_fault Memory = fault.Memory
