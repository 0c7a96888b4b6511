-- What the calls that read a key file answer, in the order of their tests (own).
use Rattle.std.specs.Prelude.{◌≡◌, ◌≢◌, ◌≤◌, ◌<◌, ◌⊎◌, ◌&&◌, ℕ, ℤ, Bool, true, false, nat_le, if◌then◌else◌, List, length, Option, Some, None, Result, Ok, Err}
use Rattle.std.specs.List.{find}
use Rattle.book_base.specs.declared.address.Address.{Address}
use Rattle.book_keys.specs.MasterKeys.{longest_master_key}
use Rattle.book_keys.specs.Nodes.{tables_of}
use Rattle.book_keys.specs.Rows.{Table, has_address}
use Rattle.book_cmd_node.specs.NodeRuns.{most_ends}
use Rattle.ao_stack.specs.declared.counted_stack.CountedStack.{CountedStack}
use Rattle.aotcp_c.specs.declared.shapes.CFault.{CFault}
use Rattle.aotcp_c.specs.Calls.{IsFaulty}
use Rattle.aotcp_c.specs.Codes.{bad_family, bad_keys, bad_most, holds_one, no_memory, no_node, no_row, ok, small_room}

-- the code of what was made, or of why it wasn't (own)
abbrev pub code_in : {A : Type 0} → Result A ℤ → ℤ
code_in (Ok made) = ok
code_in (Err code) = code

-- the key file is read, and this holds of its tables (own)
pub record IsRead (text : List ℕ) (IsSo : List Table → Type 0) : Type 0 where
  pub tables : List Table
  pub read : tables_of text ≡ Ok tables
  pub is_so : IsSo tables

-- the code is that of a faulty key file, whose fault is told; or the file is read, and this holds of
-- its tables (own)
pub record ReadsKeys (text : List ℕ) (told : CFault) (code : ℤ) (IsSo : List Table → Type 0)
    : Type 0 where
  pub faulty : code ≡ bad_keys → IsFaulty text told
  pub read : code ≢ bad_keys → IsRead text IsSo

-- a stack is made of the table of an address, or memory ran out; no table, no node (own)
abbrev pub MakesOf : Option Table → ℤ → Type 0
MakesOf None code = code ≡ no_node
MakesOf (Some table) code = (code ≡ ok) ⊎ (code ≡ no_memory)

-- a stack is made for the node of an address in a handle that holds this: not for a family that is
-- neither 4 nor 6, nor where one is held (own)
abbrev pub MakesAt : Option Address → Option CountedStack → (text : List ℕ) → CFault → ℤ → Type 0
MakesAt None held text told code = code ≡ bad_family
MakesAt (Some address) (Some k) text told code = code ≡ holds_one
MakesAt (Some address) None text told code =
    ReadsKeys text told code (λ tables. MakesOf (find (has_address address) tables) code)

-- a stack may hold so many connections at most: 1 to 1,024 (own)
abbrev pub is_most : ℕ → Bool
is_most most = nat_le 1 most && nat_le most most_ends

-- a stack is made that holds so many connections at most, where it may (own)
pub record Makes (most : ℕ) (node : Option Address) (held : Option CountedStack) (text : List ℕ)
    (told : CFault) (code : ℤ) : Type 0 where
  pub beyond : is_most most ≡ false → code ≡ bad_most
  pub makes : is_most most ≡ true → MakesAt node held text told code

-- the code of a row by its number, from 1, in the table of an address (own)
abbrev pub row_code : Option Table → (number : ℕ) → ℤ
row_code None number = no_node
row_code (Some table) number =
    if nat_le 1 number && nat_le number (length table.rows) then ok else no_row

-- a row is found by its number at the node of an address; not for a family that is neither 4 nor 6
-- (own)
abbrev pub FindsAt : Option Address → (number : ℕ) → (text : List ℕ) → CFault → ℤ → Type 0
FindsAt None number text told code = code ≡ bad_family
FindsAt (Some address) number text told code =
    ReadsKeys text told code (λ tables. code ≡ row_code (find (has_address address) tables) number)

-- a row is found where there is room for any key (own)
pub record Finds (room : ℕ) (node : Option Address) (number : ℕ) (text : List ℕ) (told : CFault)
    (code : ℤ) : Type 0 where
  pub small : room < longest_master_key → code ≡ small_room
  pub finds : longest_master_key ≤ room → FindsAt node number text told code
