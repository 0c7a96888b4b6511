-- The RST by which a kernel answers what its guard handed on. The file's top: `IsHeardAcross`.
use Rattle.std.specs.Prelude.{◌≡◌, ◌≢◌, ℕ, true, false, Ok, Err}
use Rattle.book_base.specs.declared.address.Pair.{Pair}
use Rattle.book_segments.specs.Segments.{Segment, has, SYN, RST}
use Rattle.book_macs.specs.Contexts.{context}
use Rattle.book_shim.specs.declared.refusal.Unsent.TheVariants.{NoContext}
use Rattle.book_shim.specs.Keeping.{Setting}
use Rattle.book_shim.specs.Leaving.{Sealed, send_sealed}
use Rattle.book_shim.specs.Arriving.{Opened}

-- a RST that answers a segment: it goes where that came from, under the number that it
-- acknowledges (RFC 9293, section 3.10.7)
pub record IsResetOf (d r : Segment) : Type 0 where
  pub resets : has RST r ≡ true
  pub plain : has SYN r ≡ false
  pub source : r.source ≡ d.destination
  pub destination : r.destination ≡ d.source
  pub number : r.sequence ≡ d.acknowledgement

-- what answers a segment that was taken is never without a context, and where it is sealed, then
-- under the connection of that segment: the same two initial sequence numbers and sockets, seen
-- from the other side (RFC 5925, section 5.2)
pub record IsHeardAcross (pair : Pair) (d r : Segment) (t : Opened) : Type 0 where
  pub own : ℕ
  pub peer : ℕ
  pub taken_in : t.passed.context ≡ context d.source d.destination peer own
  pub sealed_in : (later : Setting) (m : Sealed) → send_sealed later pair t.kept r ≡ Ok m
      → m.context ≡ context d.destination d.source own peer
  pub known : (later : Setting) → send_sealed later pair t.kept r ≢ Err NoContext
