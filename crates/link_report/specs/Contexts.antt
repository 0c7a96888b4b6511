-- The numbers of contexts.
use Rattle.std.specs.Prelude.{ℕ, List, []}
use Rattle.book_segments.specs.Bytes.{put2, put4}
use Rattle.book_macs.specs.declared.context.Context.{Context}

-- the bytes of a context behind its addresses: both ports and both initial sequence numbers (RFC 5925, section 5.2)
abbrev pub numbers_of : Context → List ℕ
numbers_of c = put2 c.source.port (put2 c.destination.port (put4 c.source_isn (put4 c.dest_isn [])))
