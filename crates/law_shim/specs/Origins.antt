-- Where what is handed to a kernel comes from. The file's tops: `IsOriginal` and `ComesOut`.
use Rattle.std.specs.Prelude.{◌≡◌, ℕ, ◌+◌, ◌-◌, ◌<◌, ◌≤◌, ◌^◌, ◌&&◌, not, List, true, false}
use Rattle.std.specs.Prelude.{Some, Ok, slice_index_or}
use Rattle.book_base.specs.declared.address.Pair.{Pair}
use Rattle.book_segments.specs.Segments.{Segment, Read, reading, has, SYN, ACK}
use Rattle.book_macs.specs.Contexts.{context_of}
use Rattle.book_keys.specs.Rows.{Row}
use Rattle.book_keys.specs.Choices.{Numbered, accept_row}
use Rattle.book_shim.specs.declared.kept.Kept.{Kept}
use Rattle.book_shim.specs.Leaving.{Sealed}
use Rattle.book_shim.specs.Arriving.{Opened, is_awaited, known_for, inbound}
use Rattle.book_endpoint.specs.Emissions.{ao_length}
use Rattle.book_endpoint.specs.Arrivals.{from_peer}
use Rattle.book_shim.specs.Relaying.{fitted, coming_area, most_mss}
use Rattle.book_shim.specs.Keeping.{Setting}
use Rattle.law_shim.specs.Worlds.{Side, other, Event, Gave, WasSealed, run}

-- two datagrams agree in all of TCP but the options and the checksum (RFC 9293, section 3.1)
pub record AgreesWith (one two : Segment) : Type 0 where
  pub source : one.source ≡ two.source
  pub destination : one.destination ≡ two.destination
  pub sequence : one.sequence ≡ two.sequence
  pub acknowledgement : one.acknowledgement ≡ two.acknowledgement
  pub reserved : one.reserved ≡ two.reserved
  pub flags : one.flags ≡ two.flags
  pub window : one.window ≡ two.window
  pub urgent : one.urgent ≡ two.urgent
  pub payload : one.payload ≡ two.payload

-- what is handed to the kernel of an end is what the kernel of the other end gave, sealed in the
-- same context: so with the same two initial sequence numbers. Where both rows cover options, these
-- are the ones that fitted beside TCP-AO, but for the maximum segment size of a SYN (own)
pub record IsOriginal (pair : Pair) (events : List Event) (here : Setting) (at : Side) (t : Opened)
    : Type 0 where
  pub sent : Sealed
  pub made : WasSealed (other at) sent (run pair events).made
  pub bytes : List ℕ
  pub given : Gave (other at) bytes events
  pub read : reading bytes ≡ Read sent.given
  pub agrees : AgreesWith sent.given t.segment
  pub context : sent.context ≡ t.passed.context
  pub options : List ℕ
  pub fit : fitted (40 - ao_length sent.sending) sent.given.area ≡ Some options
  pub come : sent.sending.row.with_options ≡ true
      → ((r : Row) → (slice_index_or here.rows (t.passed.row - 1) r).with_options ≡ true)
      → t.segment.area ≡ coming_area (most_mss here.mtu t.segment) options

-- a guard is ready for what was sealed: a row with the same algorithm, key and flag takes its KeyID
-- now (RFC 5925, section 7.5), a SYN with ACK is awaited, the context is that under which it was
-- sealed, and without SYN its number is within 2^31 of the one expected (RFC 5925, section 6.2)
pub record IsMet (here : Setting) (pair : Pair) (g : Kept) (m : Sealed) : Type 0 where
  pub row : Numbered
  pub accepted : accept_row here.rows pair m.sending.key_id here.now ≡ Some row
  pub algorithm : row.row.algorithm ≡ m.sending.row.algorithm
  pub master : row.row.master ≡ m.sending.row.master
  pub with_options : row.row.with_options ≡ m.sending.row.with_options
  pub awaited : (has SYN m.segment && has ACK m.segment && not (is_awaited g m.segment)) ≡ false
  pub context : context_of m.segment (known_for g m.segment).peer_isn
      (Some (known_for g m.segment).own_isn) ≡ Some m.context
  pub near : has SYN m.segment ≡ false → (x : ℕ) × ((known_for g m.segment).expected ≡ Some x)
      × (m.number < x + 2 ^ 31) × (x ≤ m.number + 2 ^ 31)

-- what was sealed is taken by a guard from whatever bytes are read as it, under its number, and in
-- all of TCP but options and checksum as the kernel gave it; its options are those that fitted
-- beside TCP-AO, but for the maximum segment size of a SYN (own)
pub record ComesOut (here : Setting) (pair : Pair) (g : Kept) (m : Sealed) : Type 0 where
  pub taken : Opened
  pub takes : (bytes : List ℕ) → reading bytes ≡ Read m.segment → from_peer pair m.segment ≡ true
      → inbound here pair g bytes ≡ Ok taken
  pub agrees : AgreesWith m.given taken.segment
  pub number : taken.passed.number ≡ m.number
  pub options : List ℕ
  pub fit : fitted (40 - ao_length m.sending) m.given.area ≡ Some options
  pub come : taken.segment.area ≡ coming_area (most_mss here.mtu m.segment) options
  pub stay : has SYN m.segment ≡ false → taken.segment.area ≡ options
