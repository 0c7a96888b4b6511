-- A datagram as a stack hands it out, beside the datagram that its end made (own).
use Rattle.std.specs.Prelude.{◌≡◌, ℕ, List}
use Rattle.book_base.specs.declared.address.Pair.{Pair}
use Rattle.book_segments.specs.Segments.{Segment, Read, good, reading, spell}
use Rattle.book_segments.specs.Spelling.{Fits}
use Rattle.book_keys.specs.Rows.{Row}
use Rattle.book_endpoint.specs.Arrivals.{arrive}
use Rattle.book_endpoint.specs.States.{EndState}
use Rattle.book_stack.specs.Stacks.{handed}

-- a datagram as it is handed out is spelled and read as any other, and its checksum is right exactly where that of the
-- datagram was (RFC 1071, section 1)
pub record IsHandedWell (d : Segment) : Type 0 where
  pub fits : Fits (handed d)
  pub read : reading (spell (handed d)) ≡ Read (handed d)
  pub right : good (handed d) ≡ good d

-- whoever hears a datagram as it is handed out answers and goes on as after the datagram itself: the MAC covers a checksum
-- of zero (RFC 5925, section 5.1)
abbrev pub IsTakenAlike : Segment → Type 0
IsTakenAlike d = (rows : List Row) (pair : Pair) (now : ℕ) (s : EndState)
    → arrive rows pair now s (reading (spell (handed d))) ≡ arrive rows pair now s (reading (spell d))
