-- Rows of a table, from a C program and to one (own).
use Rattle.std.specs.Prelude.{◌≡◌, ℕ, ◌-◌, ◌&&◌, nat_le, nat_lt, Bool, not, List, length, take, slice_index_or, Option, Some, is_some, Result, Ok, Err}
use Rattle.std.specs.List.{find, list_any}
use Rattle.book_base.specs.declared.address.Address.{Address}
use Rattle.book_base.specs.declared.algorithm.Algorithm.{Algorithm}
use Rattle.book_base.specs.declared.algorithm.Algorithm.TheVariants as algorithm
use Rattle.book_keys.specs.declared.direction.Direction.{Direction}
use Rattle.book_keys.specs.declared.direction.Direction.TheVariants as direction
use Rattle.book_keys.specs.declared.new_row.AddRefusal.{AddRefusal}
use Rattle.book_keys.specs.declared.new_row.AddRefusal.TheVariants as refused
use Rattle.book_keys.specs.declared.new_row.NewRow.{NewRow}
use Rattle.book_keys.specs.Lifetimes.{greatest_time}
use Rattle.book_keys.specs.MasterKeys.{is_master_key}
use Rattle.book_keys.specs.Nodes.{tables_of}
use Rattle.book_keys.specs.Rows.{Row, Table, has_address}
use Rattle.aotcp_c.specs.declared.shapes.CRow.{CRow}

-- the number of an algorithm (own)
abbrev pub algorithm_number : Algorithm → ℕ
algorithm_number algorithm.HmacSha1 = 0
algorithm_number algorithm.AesCmac = 1
algorithm_number algorithm.HmacSha256 = 2

-- the number of a direction (own)
abbrev pub direction_number : Direction → ℕ
direction_number direction.Receive = 0
direction_number direction.Send = 1
direction_number direction.Both = 2
direction_number direction.Disabled = 3

-- a lifetime doesn't end before it begins, nor past the year 9999 (own)
abbrev pub is_lifetime : (first last : ℕ) → Bool
is_lifetime first last = nat_le first last && nat_le last greatest_time

-- a row stands so: its numbers are those of an algorithm and a direction, its key is a master key,
-- and its times are lifetimes (own)
abbrev pub is_row : CRow → List ℕ → Bool
is_row r key = is_master_key key && nat_lt r.algorithm 3 && nat_lt r.direction 4
    && is_lifetime r.send_first r.send_last && is_lifetime r.accept_first r.accept_last

-- the row that is to be added stands so (own)
pub record IsRow (r : CRow) (key : List ℕ) (new : NewRow) : Type 0 where
  pub recv_id : new.recv_id ≡ r.recv_id
  pub send_id : new.send_id ≡ r.send_id
  pub algorithm : algorithm_number new.algorithm ≡ r.algorithm
  pub master : new.master ≡ key
  pub with_options : new.with_options ≡ r.with_options
  pub direction : direction_number new.direction ≡ r.direction
  pub sending : new.sending ≡ record { first = r.send_first; last = r.send_last }
  pub accepting : new.accepting ≡ record { first = r.accept_first; last = r.accept_last }

-- the number of the row that was added, or of the one that overlaps it; else as before (own)
abbrev pub number_in : Result ℕ AddRefusal → (before : ℕ) → ℕ
number_in (Ok n) before = n
number_in (Err (refused.Overlap n)) before = n
number_in (Err refusal) before = before

-- any address (own)
abbrev pub is_any : Option Address → Bool
is_any peer = not (is_some peer)

-- the row is for any peer and any ports (own)
abbrev pub is_for_all : Row → Bool
is_for_all r = list_any is_any r.peers && not (is_some r.local_port) && not (is_some r.peer_port)

-- a row of a table as a C program sees it (own)
abbrev pub told_row : Row → CRow
told_row r = record {
  send_first = r.sending.first;
  send_last = r.sending.last;
  accept_first = r.accepting.first;
  accept_last = r.accepting.last;
  recv_id = r.recv_id;
  send_id = r.send_id;
  algorithm = algorithm_number r.algorithm;
  direction = direction_number r.direction;
  with_options = r.with_options;
  for_all = is_for_all r;
}

-- a row is told, and its key stands in front of the room (own)
pub record IsToldRow (r : Row) (told : CRow) (count : ℕ) (key : List ℕ) : Type 0 where
  pub row : told ≡ told_row r
  pub count_is : count ≡ length r.master
  pub key_is : take count key ≡ r.master

-- the row of this number, from 1, of the node of the address is told (own)
pub record IsFound (tables : List Table) (address : Address) (number : ℕ) (told : CRow) (count : ℕ)
    (key : List ℕ) : Type 0 where
  pub table : Table
  pub found : find (has_address address) tables ≡ Some table
  pub is_told : (d : Row) → IsToldRow (slice_index_or table.rows (number - 1) d) told count key

-- the same of a key file (own)
pub record IsFiled (text : List ℕ) (address : Address) (number : ℕ) (told : CRow) (count : ℕ)
    (key : List ℕ) : Type 0 where
  pub tables : List Table
  pub read : tables_of text ≡ Ok tables
  pub is_found : IsFound tables address number told count key
