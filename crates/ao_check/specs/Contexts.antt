-- Contexts and numbers of segments.
use Rattle.std.specs.Prelude.{◌≡◌, ◌≤◌, ◌^◌, ℕ, true, false, Option, Some, None, ⊤}
use Rattle.std.specs.Option.{ForSome}
use Rattle.book_segments.specs.Segments.{Segment, has, ACK, SYN}
use Rattle.book_macs.specs.declared.context.Context.{Context}

-- the sockets of the segment
pub record HasSockets (d : Segment) (c : Context) : Type 0 where
  pub source : c.source ≡ d.source
  pub destination : c.destination ≡ d.destination

-- the number expected, if there is one, is at most 2^63
abbrev pub IsBelow : Option ℕ → Type 0
IsBelow expected = ForSome expected (λ x. x ≤ 2 ^ 63)

-- it has SYN without ACK, or the peer's initial sequence number is known
abbrev pub IsPlanned : Segment → Option ℕ → Type 0
IsPlanned d None = (has SYN d ≡ true) × (has ACK d ≡ false)
IsPlanned d (Some peer) = ⊤
