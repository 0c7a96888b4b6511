-- What is sealed is signed, by a row that may send; what is taken was signed, under a row that may
-- accept. The file's tops: `IsSigned` and `IsChecked`.
use Rattle.std.specs.Prelude.{◌≡◌, true, length}
use Rattle.book_base.specs.declared.address.Pair.{Pair}
use Rattle.book_base.specs.Algorithms.{mac_length_of}
use Rattle.book_segments.specs.Options.{Ao, Absent, One, find_ao}
use Rattle.book_segments.specs.Segments.{Segment}
use Rattle.book_keys.specs.Rows.{sendable, acceptable}
use Rattle.book_keys.specs.Choices.{Numbered, IsLowest, acceptable_as}
use Rattle.book_endpoint.specs.Verdicts.{found_with, mac_of}
use Rattle.book_shim.specs.Keeping.{Setting}
use Rattle.book_shim.specs.Leaving.{Sealed}
use Rattle.book_shim.specs.Arriving.{Opened}

-- exactly one TCP-AO option and none of TCP MD5, under the identifier of a row that may send for
-- the pair at the time (RFC 5925, sections 2.2 and 7.4)
pub record IsSigned (here : Setting) (pair : Pair) (m : Sealed) : Type 0 where
  pub ao : Ao
  pub one : find_ao m.segment.area ≡ One ao
  pub key_id_is : ao.key_id ≡ m.sending.row.send_id
  pub may_send : sendable pair here.now m.sending.row ≡ true

-- exactly one TCP-AO option came and none of TCP MD5, under the identifier of the first row that
-- may accept it for the pair at the time, with a MAC of its length that is right under its key;
-- what is handed on has no TCP-AO option (RFC 5925, sections 2.2 and 7.5)
pub record IsChecked (here : Setting) (pair : Pair) (d : Segment) (t : Opened) : Type 0 where
  pub ao : Ao
  pub one : find_ao d.area ≡ One ao
  pub row : Numbered
  pub first : IsLowest (acceptable_as pair ao.key_id here.now) here.rows row
  pub key_id_is : ao.key_id ≡ row.row.recv_id
  pub may_accept : acceptable pair here.now row.row ≡ true
  pub found : t.passed ≡ found_with row d ao t.passed.context t.passed.number
  pub long : length ao.mac ≡ mac_length_of row.row.algorithm
  pub right : ao.mac ≡ mac_of t.passed
  pub none_left : find_ao t.segment.area ≡ Absent
