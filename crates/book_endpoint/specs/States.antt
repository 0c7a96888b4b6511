-- The state of an end, how it begins, and the calls that make no segment (RFC 9293, sections 3.3
-- and 3.10). Its top: `EndState`, its beginnings `connected`, `listening`, `started`, and the calls
-- `offered`, `take_out`, `at_end`, `close`, `abort`, `tick`.
use Rattle.std.specs.Prelude.{ℕ, ◌+◌, ◌-◌, ◌^◌, ◌==◌, min, max, nat_lt, nat_le, Bool, true, false}
use Rattle.std.specs.Prelude.{not, ◌&&◌, ◌||◌, List, [], ◌++◌, length, take, Option, Some, None}
use Rattle.std.specs.Prelude.{if◌then◌else◌}
use Rattle.book_base.specs.declared.address.Address.{Address}
use Rattle.book_base.specs.declared.address.Address.TheVariants.{V4, V6}
use Rattle.book_base.specs.declared.address.Pair.{Pair}
use Rattle.book_segments.specs.Received.{bytes_from, below_limit}
use Rattle.book_endpoint.specs.declared.phase.Phase.{Phase}
use Rattle.book_endpoint.specs.declared.phase.Phase.TheVariants.{Listen, SynSent, SynReceived}
use Rattle.book_endpoint.specs.declared.phase.Phase.TheVariants.{Established, FinWait1, FinWait2}
use Rattle.book_endpoint.specs.declared.phase.Phase.TheVariants.{CloseWait, TimeWait, Closed}

-- All numbers of a stream are below this, 2^63, and a segment ends at it at the latest (own).
abbrev pub number_limit : ℕ
number_limit = 2 ^ 63

-- The state of one end of a connection. Its numbers have no bound: what is sent of a number is the
-- number modulo 2^32 (RFC 9293, section 3.3.1, and own).
pub record EndState : Type 0 where
  pub phase : Phase
  pub isn : ℕ  -- ISS: the own initial sequence number
  pub peer_isn : Option ℕ  -- IRS: the peer's initial sequence number, once it is known
  pub una : ℕ  -- SND.UNA: the oldest number that isn't acknowledged
  pub next : ℕ  -- SND.NXT: the number to send next
  pub send_window : ℕ  -- SND.WND: the peer's window
  pub wl1 : ℕ  -- SND.WL1: the number of the segment that told the peer's window
  pub wl2 : ℕ  -- SND.WL2: what that segment acknowledged
  pub expected : ℕ  -- RCV.NXT: the number expected next; 0 while IRS isn't known
  pub given : List ℕ  -- all bytes given; byte i has the number ISS + 1 + i
  pub taken : List ℕ  -- all bytes taken
  pub received : ℕ → Option ℕ  -- the bytes received, by number
  pub fin : Option ℕ  -- the number of the peer's FIN, once it is recorded
  pub ack_owed : Bool  -- an ACK is owed
  pub closing : Bool  -- close was called
  pub aborted : Bool  -- abort was called
  pub rst_owed : Bool  -- a RST is owed
  pub mss : ℕ  -- the peer's maximum segment size
  pub deadline : Option ℕ  -- the end of TIME-WAIT, in seconds
  pub current : Option ℕ  -- the row of the current key, from 1 on (RFC 5925, section 3.3)

-- The number of the peer's first byte is the one after IRS (RFC 9293, section 3.4).
abbrev pub first : Option ℕ → ℕ
first None = 0
first (Some peer) = peer + 1

-- The number of the first byte that is ready to be taken (own).
abbrev pub ready_at : EndState → ℕ
ready_at s = first s.peer_isn + length s.taken

-- How many bytes are ready: those before RCV.NXT that aren't taken; at the number of the peer's
-- FIN, once RCV.NXT is past it, is no byte (own).
abbrev pub ready_count : EndState → ℕ
ready_count s = below_limit s.fin s.expected - ready_at s

-- The greatest window that a segment tells, 16 bits without a scale (RFC 9293, section 3.1).
abbrev pub greatest_window : ℕ
greatest_window = 65535

-- RCV.WND: how many bytes may still be received, of as many as the greatest window tells (RFC 9293,
-- section 3.8.6; how many: own).
abbrev pub window : EndState → ℕ
window s = greatest_window - ready_count s

-- The bytes that are received in order and not taken (RFC 9293, section 3.10.3).
unfoldable pub ready : EndState → List ℕ
ready s = bytes_from s.received (ready_at s) (ready_count s)

-- The own maximum segment size, by the address's family (RFC 9293, section 3.7.1).
abbrev pub own_mss : Address → ℕ
own_mss (V4 bytes) = 1460
own_mss (V6 bytes) = 1440

-- The maximum segment size of a peer whose SYN tells none (RFC 9293, section 3.7.1).
abbrev pub default_mss : Address → ℕ
default_mss (V4 bytes) = 536
default_mss (V6 bytes) = 1220

-- A session as it begins in a phase, with its ISS alone (RFC 9293, section 3.3.1).
abbrev pub beginning : Pair → Phase → ℕ → EndState
beginning pair phase isn = record {
  phase = phase;
  isn = isn;
  peer_isn = None;
  una = isn;
  next = isn;
  send_window = 0;
  wl1 = 0;
  wl2 = 0;
  expected = 0;
  given = [];
  taken = [];
  received = λ p. None;
  fin = None;
  ack_owed = false;
  closing = false;
  aborted = false;
  rst_owed = false;
  mss = default_mss pair.local.address;
  deadline = None;
  current = None;
}

-- An active open (RFC 9293, section 3.10.1).
abbrev pub connected : Pair → ℕ → EndState
connected pair isn = beginning pair SynSent isn

-- A passive open (RFC 9293, section 3.10.1).
abbrev pub listening : Pair → ℕ → EndState
listening pair isn = beginning pair Listen isn

-- A session that begins established, with both initial sequence numbers known (own).
abbrev pub started : Pair → (isn peer_isn : ℕ) → EndState
started pair isn peer = record (beginning pair Established isn) {
  peer_isn = Some peer;
  una = isn + 1;
  next = isn + 1;
  expected = peer + 1;
  send_window = greatest_window;
  wl1 = peer;
  wl2 = isn + 1;
  mss = own_mss pair.local.address;
}

-- The number after the last given byte: that of the own FIN (RFC 9293, section 3.4).
abbrev pub given_end : EndState → ℕ
given_end s = s.isn + 1 + length s.given

-- The end is closed (RFC 9293, section 3.3.2).
abbrev pub is_closed : Phase → Bool
is_closed Closed = true
is_closed _ = false

-- How many bytes may still be given: as many as the greatest window tells aren't acknowledged, and
-- all numbers, with that of the own FIN, are below the limit of numbers (own).
abbrev pub room : EndState → ℕ
room s =
    min (greatest_window - (given_end s - max s.una (s.isn + 1))) (number_limit - 1 - given_end s)

-- Bytes may be given where neither close nor abort was called and the end isn't closed (RFC 9293,
-- section 3.10.2).
abbrev pub gives : EndState → Bool
gives s = not s.closing && not (is_closed s.phase)

-- A piece is given (RFC 9293, section 3.10.2).
abbrev pub give : List ℕ → EndState → EndState
give piece s = record s { given = s.given ++ piece }

-- What an end that is offered a piece may say, in the words of who offers it (RFC 9293, section
-- 3.10.2).
pub record Offers (B : Type 0) : Type 0 where
  pub closed : B  -- it takes none
  pub full : B  -- it has no room for the piece
  pub done : B  -- the piece is given

-- A piece is offered, and told with the state after it: `closed` where the end takes none, else
-- `full` where it has no room for it, else `done` (RFC 9293, section 3.10.2).
abbrev pub offered : {A B : Type 0} → (EndState → B → A) → Offers B → List ℕ → EndState → A
offered tell words piece s =
    if not (gives s) then tell s words.closed
    else (if nat_lt (room s) (length piece) then tell s words.full
    else tell (give piece s) words.done)

-- Data is heard in the phases in which the peer's FIN may still come (RFC 9293, section 3.10.7.4).
abbrev pub hears : Phase → Bool
hears Established = true
hears FinWait1 = true
hears FinWait2 = true
hears _ = false

-- The window opens between two states of an end that hears data (RFC 9293, section 3.8.6.2.2).
abbrev pub opens : (before after : EndState) → Bool
opens before after = hears before.phase && (window before == 0) && nat_lt 0 (window after)

-- A take of so many bytes gives the first of those that are ready (RFC 9293, section 3.10.3).
abbrev pub taking : ℕ → EndState → List ℕ
taking count s = take count (ready s)

-- So many of the ready bytes are taken, or all of them where there are fewer; an ACK is owed where
-- the window opens (RFC 9293, sections 3.10.3 and 3.8.6.2.2).
abbrev pub take_out : ℕ → EndState → EndState
take_out count s =
    let after = record s { taken = s.taken ++ taking count s } in
    record after { ack_owed = s.ack_owed || opens s after }

-- RCV.NXT is past the peer's FIN (RFC 9293, section 3.10.7.4).
abbrev pub passed_fin : Option ℕ → ℕ → Bool
passed_fin None expected = false
passed_fin (Some fin_at) expected = nat_lt fin_at expected

-- The end of the stream is reached: RCV.NXT is past the peer's FIN, and all bytes before it were
-- taken (RFC 9293, section 3.10.3).
abbrev pub at_end : EndState → Bool
at_end s = passed_fin s.fin s.expected && (ready_count s == 0)

-- The close call in each phase (RFC 9293, section 3.10.4).
abbrev pub close_in : Phase → EndState → EndState
close_in Listen s = record s { phase = Closed }
close_in SynSent s = record s { phase = Closed }
close_in Closed s = s
close_in phase s = record s { closing = true }

-- The close call (RFC 9293, section 3.10.4).
abbrev pub close : EndState → EndState
close s = close_in s.phase s

-- An abort in this phase makes a RST owed, where the own SYN was sent: in the phases in which the
-- peer awaits more of this end (RFC 9293, section 3.10.5).
abbrev pub abort_resets : Phase → Bool → Bool
abort_resets SynReceived sent = sent
abort_resets Established sent = true
abort_resets FinWait1 sent = true
abort_resets FinWait2 sent = true
abort_resets CloseWait sent = true
abort_resets _ sent = false

-- The abort call closes; a RST that is owed stays owed (RFC 9293, section 3.10.5).
abbrev pub abort : EndState → EndState
abort s = record s {
  phase = Closed;
  aborted = true;
  rst_owed = s.rst_owed || abort_resets s.phase (nat_lt s.isn s.next);
}

-- A deadline is set and reached (own).
abbrev pub is_due : Option ℕ → ℕ → Bool
is_due None now = false
is_due (Some deadline) now = nat_le deadline now

-- What the clock does in each phase (RFC 9293, section 3.10.8).
abbrev pub tick_in : Phase → ℕ → EndState → EndState
tick_in TimeWait now s = if is_due s.deadline now then record s { phase = Closed } else s
tick_in phase now s = s

-- TIME-WAIT ends at its deadline (RFC 9293, section 3.10.8).
abbrev pub tick : ℕ → EndState → EndState
tick now s = tick_in s.phase now s
