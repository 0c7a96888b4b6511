-- A plan as the draft of a segment.
use Rattle.std.specs.Prelude.{◌≡◌, ℕ, ◌+◌, ◌-◌, ◌<◌, ◌≤◌, min, true, List, take, drop, Option, Some, None, is_some, ⊤}
use Rattle.tcp_segment.specs.Counter.{number}
use Rattle.book_segments.specs.Segments.{FIN, SYN, RST, PSH, ACK}
use Rattle.book_endpoint.specs.States.{EndState}
use Rattle.book_endpoint.specs.Emissions as book
use Rattle.tcp_endpoint.specs.declared.endpoint.Endpoint.{Endpoint}
use Rattle.tcp_endpoint.specs.declared.outlines.Outline.{Outline}
use Rattle.tcp_endpoint.specs.declared.plans.Plan.{Plan}
use Rattle.tcp_endpoint.specs.declared.plans.Plan.TheVariants as plans

-- the draft that is planned, with at most so many bytes
abbrev pub draft_of : EndState → ℕ → Plan → book.Draft
draft_of s most plans.Reset = book.rst_draft s
draft_of s most plans.Syn = book.syn_draft s (record s { next = s.isn + 1 })
draft_of s most plans.SynAck = book.syn_ack_draft s (record s { next = s.isn + 1 })
draft_of s most plans.Data = book.data_draft s (book.fitting s most)
draft_of s most plans.Probe = book.data_draft s 1
draft_of s most plans.Fin = book.fin_draft s
draft_of s most plans.Ack = book.ack_draft s
draft_of s most plans.SynAgain = book.syn_draft s s
draft_of s most plans.SynAckAgain = book.syn_ack_draft s s
draft_of s most plans.Again = book.again_draft s (min (s.next - s.una) most)
draft_of s most plans.FinAgain = book.fin_again_draft s

-- the plan is that draft, or there is none
abbrev pub PlansAs : EndState → ℕ → Option Plan → Option book.Draft → Type 0
PlansAs s most None o = o ≡ None
PlansAs s most (Some p) o = o ≡ Some (draft_of s most p)

-- the flags of a plan
abbrev pub flags_of : Plan → ℕ
flags_of plans.Reset = RST
flags_of plans.Syn = SYN
flags_of plans.SynAck = SYN + ACK
flags_of plans.Data = PSH + ACK
flags_of plans.Probe = PSH + ACK
flags_of plans.Fin = FIN + ACK
flags_of plans.Ack = ACK
flags_of plans.SynAgain = SYN
flags_of plans.SynAckAgain = SYN + ACK
flags_of plans.Again = PSH + ACK
flags_of plans.FinAgain = FIN + ACK

-- the peer's initial sequence number is known
abbrev pub IsKnown : Endpoint → Type 0
IsKnown e = is_some e.peer_isn ≡ true

-- the end can make the segment: what it acknowledges is known, what it carries was given, and a FIN follows the last byte of an end that closes
abbrev pub IsCarried : Endpoint → Plan → Type 0
IsCarried e plans.Reset = IsKnown e
IsCarried e plans.Syn = (number e.sequence.una ≡ e.isn) × (number e.sequence.next ≡ e.isn)
IsCarried e plans.SynAck = IsKnown e × (number e.sequence.una ≤ e.isn + 1) × (number e.sequence.next ≡ e.isn)
IsCarried e plans.Data = IsKnown e × (e.isn < number e.sequence.una) × (number e.sequence.next < e.isn + 1 + e.given)
IsCarried e plans.Probe = IsKnown e × (e.isn < number e.sequence.una) × (number e.sequence.next < e.isn + 1 + e.given)
IsCarried e plans.Fin = IsKnown e × (number e.sequence.next ≡ e.isn + 1 + e.given) × (e.closing ≡ true) × (book.is_sending e.phase ≡ true)
IsCarried e plans.Ack = IsKnown e
IsCarried e plans.SynAgain = ⊤
IsCarried e plans.SynAckAgain = IsKnown e
IsCarried e plans.Again = IsKnown e × (e.isn < number e.sequence.una) × (number e.sequence.una < e.isn + 1 + e.given)
IsCarried e plans.FinAgain = IsKnown e

-- the outline is that of the draft: its number, and its bytes from the queue
pub record IsOutlineOf (queue : List ℕ) (o : Outline) (draft : book.Draft) : Type 0 where
  pub number_is : number o.number ≡ draft.number
  pub payload : take o.count (drop o.offset queue) ≡ draft.payload

-- of so many unsent bytes, for so many of which the peer's window is free, at most so many are carried
abbrev pub IsLeast : ℕ → ℕ → ℕ → Plan → ℕ → Type 0
IsLeast unsent free most plans.Data count = count ≡ min unsent (min free most)
IsLeast unsent free most plan count = ⊤

-- so many bytes are carried: of those that are unsent as many as the peer's window holds, at most so many
abbrev pub IsCounted : Endpoint → ℕ → Plan → ℕ → Type 0
IsCounted e most plan count =
    IsLeast (e.isn + 1 + e.given - number e.sequence.next) (number e.sequence.una + e.send_window - number e.sequence.next) most plan count

-- the bytes that are carried were given
abbrev pub IsWithin : Endpoint → Plan → ℕ → Type 0
IsWithin e plans.Data count = (number e.sequence.next + count ≤ e.isn + 1 + e.given) × (count ≤ 65535)
IsWithin e plan count = ⊤
