-- In which columns a row of the other end differs from one that accepts what a row sends. Its top
-- is `differences`.
use Rattle.std.specs.Prelude.{◌==◌, ◌&&◌, not, Bool}
use Rattle.book_base.specs.declared.address.Pair.{Pair}
use Rattle.book_segments.specs.Bytes.{same_bytes}
use Rattle.book_plans.specs.declared.differences.Differences.{Differences}
use Rattle.book_keys.specs.Plans.{mirrored, same_flag}
use Rattle.book_base.specs.Algorithms.{same_algorithm}
use Rattle.book_keys.specs.Rows.{Row, matches, receives}

-- the columns in which the other end's row isn't as the row that sends asks (RFC 5925, section 3.1)
abbrev pub differences : Pair → (sending other : Row) → Differences
differences pair r other = record {
  connection = not (matches other (mirrored pair));
  direction = not (receives other.direction);
  key_id = not (other.recv_id == r.send_id);
  master = not (same_bytes other.master r.master);
  algorithm = not (same_algorithm other.algorithm r.algorithm);
  options = not (same_flag other.with_options r.with_options);
}

-- no column differs (own)
abbrev pub is_alike : Differences → Bool
is_alike d =
    not d.connection
    && (not d.direction && (not d.key_id && (not d.master && (not d.algorithm && not d.options))))
