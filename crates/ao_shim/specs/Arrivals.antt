-- What is kept of a datagram from the peer that passed.
use Rattle.std.specs.Prelude.{ℕ, ◌||◌, List, Option, if◌then◌else◌}
use Rattle.book_base.specs.declared.address.Pair.{Pair}
use Rattle.book_segments.specs.Segments.{Segment, has, RST}
use Rattle.book_keys.specs.Rows.{Row}
use Rattle.book_keys.specs.Coordination.{follow}
use Rattle.book_shim.specs.declared.kept.Kept.{Kept}
use Rattle.book_shim.specs.Arriving.{may_be_replayed}

-- the current row once a segment of this number passed, which asks for this key identifier: that of
-- a RST isn't followed, nor that of what may be a replay (RFC 5925, section 7.5, and own)
abbrev pub row_heard : List Row → Pair → (now : ℕ) → Kept → Segment → (number id : ℕ) → Option ℕ
row_heard rows pair now g d n id =
    if has RST d || may_be_replayed g d n then g.current else follow g.current rows pair id now
