-- A segment that is about to be written as a draft of an end, and what is then in the buffer.
use Rattle.std.specs.Prelude.{◌≡◌, ◌-◌, ◌%◌, ℕ, List, ◌++◌, length, take, drop, slice_get, true, false, Option, Some, None, ⊤}
use Rattle.book_segments.specs.Bytes.{ring}
use Rattle.book_segments.specs.Segments.{Segment, Read, reading, spell, SYN, ACK}
use Rattle.book_segments.specs.Spelling.{Good}
use Rattle.book_keys.specs.Rows.{Row}
use Rattle.book_keys.specs.Coordination as book
use Rattle.book_endpoint.specs.States.{EndState, window}
use Rattle.book_endpoint.specs.Emissions.{Draft, sets}
use Rattle.ao_check.specs.declared.choice.Sending.{Sending}
use Rattle.ao_check.specs.Sendings.{told}
use Rattle.tcp_segment.specs.Counter.{number as value_of}
use Rattle.ao_check.specs.Bonds.{Bond}
use Rattle.segment_writer.specs.declared.outgoing.Outgoing.{Outgoing}
use Rattle.segment_writer.specs.declared.outgoing.Piece.{Piece}

-- the bytes of a piece
abbrev pub bytes_in : Piece → List ℕ
bytes_in p = take p.count (drop p.offset p.queue.now)

-- SYN without ACK, or the peer's initial sequence number is known (RFC 5925, section 5.2)
abbrev pub IsKnown : ℕ → Option ℕ → Type 0
IsKnown flags None = (sets flags SYN ≡ true) × (sets flags ACK ≡ false)
IsKnown flags (Some peer) = ⊤

-- what is to be written is this draft of an end in this state, sent with this row of the table; the association knows the end's initial sequence numbers
pub record IsOf (o : Outgoing) (a : Bond) (rows : List Row) (sending : Sending) (s : EndState) (draft : Draft) (chosen : book.Sending) : Type 0 where
  pub flags : o.flags ≡ draft.flags
  pub number : value_of o.number ≡ draft.number
  pub expected : o.expected ≡ s.expected % ring
  pub window_is : o.window ≡ window s
  pub payload : bytes_in o.payload ≡ draft.payload
  pub own : a.own ≡ s.isn
  pub peer : a.peer ≡ s.peer_isn
  pub sending_is : sending ≡ told chosen
  pub row : slice_get rows (chosen.number - 1) ≡ Some chosen.row

-- the buffer begins with the bytes of the segment, and all behind them stays; they are good, and read again, whatever follows
pub record IsWritten (d : Segment) (count : ℕ) (before after : List ℕ) : Type 0 where
  pub bytes : after ≡ spell d ++ drop count before
  pub long : count ≡ length (spell d)
  pub good : Good d
  pub again : (more : List ℕ) → reading (spell d ++ more) ≡ Read d
