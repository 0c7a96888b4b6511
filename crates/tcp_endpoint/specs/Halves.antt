-- What holds of every end: of its bond, of the RST that it owes, of the numbers that it sends, of those that it receives.
use Rattle.std.specs.Prelude.{◌≡◌, ℕ, ◌+◌, ◌^◌, ◌<◌, ◌≤◌, max, Bool, true, false, Option, Some, None, is_some}
use Rattle.book_base.specs.declared.address.Pair.{Pair}
use Rattle.book_base.specs.Addresses.{IsOneFamily}
use Rattle.book_segments.specs.Received.{below_limit}
use Rattle.book_keys.specs.Rows.{row_limit}
use Rattle.book_endpoint.specs.declared.phase.Phase.{Phase}
use Rattle.book_endpoint.specs.declared.phase.Phase.TheVariants.{Listen, SynSent, Established, FinWait1, FinWait2, CloseWait, Closing, LastAck, TimeWait, Closed}
use Rattle.book_endpoint.specs.States.{first}
use Rattle.ao_check.specs.Bonds.{Bond}
use Rattle.stream_buffers.specs.Kept.{Kept, byte_at}

-- the own FIN was made, or the end is closed
abbrev pub fin_gone : Phase → Bool
fin_gone FinWait1 = true
fin_gone FinWait2 = true
fin_gone Closing = true
fin_gone LastAck = true
fin_gone TimeWait = true
fin_gone Closed = true
fin_gone _ = false

-- the own FIN was made
abbrev pub fin_made : Phase → Bool
fin_made FinWait1 = true
fin_made FinWait2 = true
fin_made Closing = true
fin_made LastAck = true
fin_made TimeWait = true
fin_made _ = false

-- the peer's initial sequence number isn't known yet
abbrev pub waits : Phase → Bool
waits Listen = true
waits SynSent = true
waits _ = false

-- the peer's initial sequence number is known
abbrev pub knows : Phase → Bool
knows Listen = false
knows SynSent = false
knows Closed = false
knows _ = true

-- the handshake is over, and the end isn't closed
abbrev pub is_open : Phase → Bool
is_open Established = true
is_open FinWait1 = true
is_open FinWait2 = true
is_open CloseWait = true
is_open Closing = true
is_open LastAck = true
is_open TimeWait = true
is_open _ = false

-- the peer's FIN isn't passed
abbrev pub before_fin : Phase → Bool
before_fin CloseWait = false
before_fin Closing = false
before_fin LastAck = false
before_fin TimeWait = false
before_fin Closed = false
before_fin _ = true

-- the association is that of this end, with room for the keys of as many rows as a table has at most, and both addresses are of one family
pub record Bound (a : Bond) (sockets : Pair) (isn : ℕ) (peer_isn : Option ℕ) : Type 0 where
  pub pair : a.pair ≡ sockets
  pub own : a.own ≡ isn
  pub peer : a.peer ≡ peer_isn
  pub room : a.keys.rows ≡ row_limit
  pub family : IsOneFamily sockets.local.address sockets.remote.address

-- a RST is owed only where the peer's initial sequence number is known
pub record Owes (rst_owed : Bool) (peer_isn : Option ℕ) : Type 0 where
  pub known : rst_owed ≡ true → is_some peer_isn ≡ true

-- the numbers sent lie in order, and the queue holds the given bytes that aren't acknowledged
pub record Sends (phase : Phase) (closing : Bool) (isn una next given queued : ℕ) : Type 0 where
  pub low : isn ≤ una
  pub order : una ≤ next
  pub high : next ≤ isn + 2 + given
  pub few : isn + 1 + given < 2 ^ 63
  pub unfinished : fin_gone phase ≡ false → next ≤ isn + 1 + given
  pub unacked : waits phase ≡ true → una ≡ isn
  pub acked : is_open phase ≡ true → isn < una
  pub closed : fin_made phase ≡ true → closing ≡ true
  pub queue : queued + max una (isn + 1) ≡ max una (isn + 1 + given)

-- the numbers received: from the first byte that isn't taken to the one that is expected, or to the FIN
pub record Receives (phase : Phase) (peer : Option ℕ) (taken expected : ℕ) (heard : Bool) (fin : Option ℕ) (kept : Kept) : Type 0 where
  pub from : kept.from ≡ first peer + taken
  pub missing : kept.expected ≡ below_limit fin expected
  pub most : expected ≤ 2 ^ 63
  pub same : heard ≡ is_some peer
  pub unknown : waits phase ≡ true → peer ≡ None
  pub known : knows phase ≡ true → is_some peer ≡ true
  pub hearing : before_fin phase ≡ true → kept.expected ≡ expected
  pub untaken : waits phase ≡ true → taken ≡ 0
  pub empty : waits phase ≡ true → (p : ℕ) → byte_at kept p ≡ None
  pub last : (f : ℕ) → fin ≡ Some f → f < 2 ^ 63
  pub clear : (f p : ℕ) → fin ≡ Some f → f ≤ p → byte_at kept p ≡ None
