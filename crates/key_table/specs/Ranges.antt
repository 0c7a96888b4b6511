-- What the types of a row's columns say.
use Rattle.std.specs.Prelude.{◌<◌}
use Rattle.book_segments.specs.Spelling.{AreBytes}
use Rattle.book_keys.specs.Rows.{Row}

-- the columns of a row fit their places: ids of one byte, a key of bytes
-- (RFC 5925, section 2.2; RFC 7210, section 2)
pub record FitsColumns (r : Row) : Type 0 where
  pub recv_id : r.recv_id < 256
  pub send_id : r.send_id < 256
  pub master : AreBytes r.master
