-- The numbers that an end keeps, as those of a state.
use Rattle.std.specs.Prelude.{◌≡◌, ℕ, Option, Some, None, is_some}
use Rattle.tcp_segment.specs.declared.counter.Counter.{Counter}
use Rattle.tcp_segment.specs.Counter.{number}
use Rattle.book_endpoint.specs.States.{EndState}
use Rattle.tcp_endpoint.specs.declared.sequence.SequenceState.{SequenceState}
use Rattle.tcp_endpoint.specs.declared.sequence.Received.{Received}

-- the number of a counter, where there is one
abbrev pub value_in : Option Counter → Option ℕ
value_in None = None
value_in (Some c) = Some (number c)

-- the number expected next; 0 while the peer's initial sequence number is not known
abbrev pub expected_in : Option Received → ℕ
expected_in None = 0
expected_in (Some r) = number r.expected

-- the number of the peer's FIN, once it is recorded
abbrev pub fin_in : Option Received → Option ℕ
fin_in None = None
fin_in (Some r) = value_in r.fin

-- the number of the segment in which the peer's window was heard; 0 while there is none
abbrev pub wl1_in : Option Received → ℕ
wl1_in None = 0
wl1_in (Some r) = number r.wl1

-- what that segment acknowledged; 0 while there is none
abbrev pub wl2_in : Option Received → ℕ
wl2_in None = 0
wl2_in (Some r) = number r.wl2

-- each counter stands at the state's number; the peer's are there where its initial sequence number is known
pub record HasNumbersOf (q : SequenceState) (s : EndState) : Type 0 where
  pub una : number q.una ≡ s.una
  pub next : number q.next ≡ s.next
  pub known : is_some q.received ≡ is_some s.peer_isn
  pub expected : expected_in q.received ≡ s.expected
  pub wl1 : wl1_in q.received ≡ s.wl1
  pub wl2 : wl2_in q.received ≡ s.wl2
  pub fin : fin_in q.received ≡ s.fin
