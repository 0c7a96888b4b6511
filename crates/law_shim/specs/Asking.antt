-- The row that a peer asks for, and what is sealed under it. The file's tops: `AsksFor` and
-- `IsUnder`.
use Rattle.std.specs.Prelude.{◌≡◌, Some, false}
use Rattle.book_base.specs.declared.address.Pair.{Pair}
use Rattle.book_segments.specs.Segments.{Segment, has, RST}
use Rattle.book_keys.specs.Choices.{Numbered, named_send}
use Rattle.book_keys.specs.Coordination.{numbered}
use Rattle.book_keys.specs.Rows.{sendable}
use Rattle.book_shim.specs.declared.kept.Kept.{Kept}
use Rattle.book_shim.specs.Keeping.{Setting}
use Rattle.book_shim.specs.Leaving.{Sealed}
use Rattle.book_shim.specs.Arriving.{Opened, may_be_replayed}

-- the guard may send with this row of its table now (RFC 7210, section 2)
abbrev pub MaySendWith : Setting → Pair → Numbered → Type 0
MaySendWith here pair q = numbered (sendable pair here.now) 1 q.number here.rows ≡ Some q

-- a segment that passed asks for this row: it is neither a RST nor one that may be a replay, and
-- its RNextKeyID is the SendID of the row, which may send now (RFC 5925, section 7.5, and own)
pub record AsksFor (here : Setting) (pair : Pair) (g : Kept) (d : Segment) (t : Opened)
    (q : Numbered) : Type 0 where
  pub lasting : has RST d ≡ false
  pub fresh : may_be_replayed g d t.passed.number ≡ false
  pub named : named_send here.rows pair t.passed.rnext_key_id here.now ≡ Some q

-- what was sealed is under the key of this row, which stays the current one (RFC 5925, section 7.4)
pub record IsUnder (q : Numbered) (m : Sealed) : Type 0 where
  pub number : m.sending.number ≡ q.number
  pub row : m.sending.row ≡ q.row
  pub key_id : m.sending.key_id ≡ q.row.send_id
  pub current : m.kept.current ≡ Some q.number
