-- An end that is ready for what a shim sealed, and a shim for what an end made. The file's tops:
-- `IsReady` and `GoesThrough`, `IsWelcome` and `IsHandedOn`.
use Rattle.std.specs.Prelude.{◌≡◌, ℕ, ◌+◌, ◌<◌, ◌≤◌, ◌^◌, ◌&&◌, not, List, Some, Ok, true, false}
use Rattle.book_base.specs.declared.address.Pair.{Pair}
use Rattle.book_segments.specs.Bytes.{ring}
use Rattle.book_segments.specs.Segments.{Read, reading, has, SYN, ACK, segment_length}
use Rattle.book_segments.specs.Spelling.{AreBytes}
use Rattle.book_macs.specs.Contexts.{context_of}
use Rattle.book_keys.specs.Choices.{Numbered, accept_row}
use Rattle.book_keys.specs.Rows.{Row}
use Rattle.book_endpoint.specs.Arrivals.{arrive, from_peer}
use Rattle.book_endpoint.specs.Emissions.{Emission}
use Rattle.book_endpoint.specs.States.{EndState, is_closed, number_limit}
use Rattle.book_endpoint.specs.Verdicts.{Finding}
use Rattle.book_shim.specs.declared.kept.Kept.{Kept}
use Rattle.book_shim.specs.Keeping.{Setting, answered_isn}
use Rattle.book_shim.specs.Leaving.{Sealed}
use Rattle.book_shim.specs.Arriving.{Opened, is_awaited, known_for, inbound}
use Rattle.law_shim.specs.Origins.{AgreesWith}

-- an end is ready for what was sealed: it isn't closed, a row with the same algorithm, key and flag
-- takes its KeyID now (RFC 5925, section 7.5), a SYN with ACK answers the end's SYN, the context is
-- that under which it was sealed, and without SYN its number is within 2^31 of the one expected
-- (RFC 5925, section 6.2)
pub record IsReady (rows : List Row) (pair : Pair) (now : ℕ) (s : EndState) (m : Sealed)
    : Type 0 where
  pub awake : is_closed s.phase ≡ false
  pub row : Numbered
  pub accepted : accept_row rows pair m.sending.key_id now ≡ Some row
  pub algorithm : row.row.algorithm ≡ m.sending.row.algorithm
  pub master : row.row.master ≡ m.sending.row.master
  pub with_options : row.row.with_options ≡ m.sending.row.with_options
  pub answers : (has SYN m.segment && has ACK m.segment) ≡ true → answered_isn m.segment ≡ s.isn
  pub context : context_of m.segment s.peer_isn (Some s.isn) ≡ Some m.context
  pub near : has SYN m.segment ≡ false
      → (m.number < s.expected + 2 ^ 31) × (s.expected ≤ m.number + 2 ^ 31)

-- what was sealed passes the check of an end, from whatever bytes are read as it, under its number
-- (RFC 5925, section 7.5)
pub record GoesThrough (rows : List Row) (pair : Pair) (now : ℕ) (s : EndState) (m : Sealed)
    : Type 0 where
  pub passed : Finding
  pub passes : (bytes : List ℕ) → reading bytes ≡ Read m.segment → from_peer pair m.segment ≡ true
      → (arrive rows pair now s (reading bytes)).passed ≡ Some passed
  pub number : passed.number ≡ m.number

-- a shim is ready for a segment that an end made: a row with the same algorithm, key and flag takes
-- its KeyID now (RFC 5925, section 7.5), a SYN with ACK is awaited, the context is that in which it
-- was made, its number is with SYN one of 32 bits and without within 2^31 of the one expected (RFC
-- 5925, section 6.2), and it ends at 2^63 at the latest
pub record IsWelcome (here : Setting) (pair : Pair) (g : Kept) (e : Emission) : Type 0 where
  pub row : Numbered
  pub accepted : accept_row here.rows pair e.sending.key_id here.now ≡ Some row
  pub algorithm : row.row.algorithm ≡ e.sending.row.algorithm
  pub master : row.row.master ≡ e.sending.row.master
  pub with_options : row.row.with_options ≡ e.sending.row.with_options
  pub awaited : (has SYN e.segment && has ACK e.segment && not (is_awaited g e.segment)) ≡ false
  pub context : context_of e.segment (known_for g e.segment).peer_isn
      (Some (known_for g e.segment).own_isn) ≡ Some e.context
  pub begins : has SYN e.segment ≡ true → e.number < ring
  pub near : has SYN e.segment ≡ false → (x : ℕ) × ((known_for g e.segment).expected ≡ Some x)
      × (e.number < x + 2 ^ 31) × (x ≤ e.number + 2 ^ 31)
  pub ends : e.number + segment_length e.segment ≤ number_limit

-- what an end made is taken by a shim from whatever bytes are read as it, under its number, and is
-- handed on as the end made it in all of TCP but options and checksum (own)
pub record IsHandedOn (here : Setting) (pair : Pair) (g : Kept) (e : Emission) : Type 0 where
  pub taken : Opened
  pub takes : (bytes : List ℕ) → AreBytes bytes → reading bytes ≡ Read e.segment
      → from_peer pair e.segment ≡ true → inbound here pair g bytes ≡ Ok taken
  pub agrees : AgreesWith e.segment taken.segment
  pub number : taken.passed.number ≡ e.number
