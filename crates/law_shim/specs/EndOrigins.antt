-- Where what is handed to the shim's kernel, and what the end accepts, comes from. The file's tops:
-- `IsOfEnd` and `IsOfKernel`.
use Rattle.std.specs.Prelude.{◌≡◌, ℕ, ◌%◌, List, Option, Some, None, IsSomeAnd, Ok, false}
use Rattle.book_base.specs.declared.address.Pair.{Pair}
use Rattle.book_segments.specs.Bytes.{ring}
use Rattle.book_segments.specs.Segments.{Segment, Read, reading, has, SYN}
use Rattle.book_endpoint.specs.Emissions.{Emission}
use Rattle.book_endpoint.specs.States.{EndState}
use Rattle.book_endpoint.specs.Verdicts.{Finding}
use Rattle.book_shim.specs.declared.kept.Isns.{Isns}
use Rattle.book_shim.specs.declared.kept.Kept.{Kept}
use Rattle.book_shim.specs.Keeping.{Setting}
use Rattle.book_shim.specs.Leaving.{Sealed, kept_for, outbound}
use Rattle.book_shim.specs.Arriving.{Opened}
use Rattle.law_shim.specs.Origins.{AgreesWith}
use Rattle.law_shim.specs.Beside.{Event, run, IsAmong, Gave}

-- the shim's connection and that of the end have the same two initial sequence numbers, each being
-- the other one's peer: what was sent of them, 32 bits (RFC 5925, section 5.2)
abbrev pub IsAcross : Option Isns → EndState → Type 0
IsAcross None s = ⊥
IsAcross (Some c) s =
    (s.isn % ring ≡ c.peer % ring) × IsSomeAnd s.peer_isn (λ n. n % ring ≡ c.own % ring)

-- what is handed to the shim's kernel is a segment that the end made in the same context, so
-- without SYN on the connection of the same two initial sequence numbers, but for its IP header,
-- its options and its checksum (own)
pub record IsOfEnd (pair : Pair) (events : List Event) (t : Opened) : Type 0 where
  pub sent : Emission
  pub made : IsAmong sent (run pair events).made
  pub agrees : AgreesWith sent.segment t.segment
  pub context : sent.context ≡ t.passed.context
  pub numbers : has SYN t.segment ≡ false → IsAcross (run pair events).kept.isns sent.state

-- what passed at the end is a segment that the shim's kernel gave, sealed in the same context, so
-- without SYN on the connection of the same two initial sequence numbers, but for its IP header,
-- its options and its checksum (own)
pub record IsOfKernel (pair : Pair) (events : List Event) (s : EndState) (heard : List ℕ)
    (p : Finding) : Type 0 where
  pub segment : Segment
  pub came : reading heard ≡ Read segment
  pub sent : Sealed
  pub made : IsAmong sent (run pair events).sealed
  pub bytes : List ℕ
  pub given : Gave bytes events
  pub read : reading bytes ≡ Read sent.given
  pub agrees : AgreesWith sent.given segment
  pub context : sent.context ≡ p.context
  pub here : Setting
  pub kept : Kept
  pub sealed_so : outbound here pair kept bytes ≡ Ok sent
  pub numbers : has SYN segment ≡ false → IsAcross (kept_for kept sent.given).isns s
