-- Which state an end stands for, and which tables fit it.
use Rattle.std.specs.Prelude.{◌≡◌, ℕ, ◌+◌, ◌-◌, ◌≤◌, drop, length, List}
use Rattle.tcp_segment.specs.Counter.{number}
use Rattle.book_base.specs.declared.address.Pair.{Pair}
use Rattle.book_keys.specs.Rows.{Row}
use Rattle.book_endpoint.specs.States.{EndState, ready_at}
use Rattle.ao_kdf.specs.Cache.{Cache}
use Rattle.ao_check.specs.Bonds.{Bond, Fits}
use Rattle.stream_buffers.specs.Kept.{byte_at}
use Rattle.tcp_endpoint.specs.declared.endpoint.Endpoint.{Endpoint}
use Rattle.tcp_endpoint.specs.Numbers.{expected_in, fin_in, wl1_in, wl2_in}

-- the end stands for the state: the same numbers; its queue holds the given bytes that aren't acknowledged, its reassembly the received bytes that aren't taken
pub record Stands (e : Endpoint) (s : EndState) : Type 0 where
  pub phase : e.phase ≡ s.phase
  pub isn : e.isn ≡ s.isn
  pub peer_isn : e.peer_isn ≡ s.peer_isn
  pub una : number e.sequence.una ≡ s.una
  pub next : number e.sequence.next ≡ s.next
  pub send_window : e.send_window ≡ s.send_window
  pub wl1 : wl1_in e.sequence.received ≡ s.wl1
  pub wl2 : wl2_in e.sequence.received ≡ s.wl2
  pub expected : expected_in e.sequence.received ≡ s.expected
  pub fin : fin_in e.sequence.received ≡ s.fin
  pub given : e.given ≡ length s.given
  pub queue : e.queue ≡ drop (s.una - (s.isn + 1)) s.given
  pub taken : e.taken ≡ length s.taken
  pub bytes : (p : ℕ) → ready_at s ≤ p → byte_at e.reassembly p ≡ s.received p
  pub ack_owed : e.ack_owed ≡ s.ack_owed
  pub closing : e.closing ≡ s.closing
  pub rst_owed : e.rst_owed ≡ s.rst_owed
  pub mss : e.mss ≡ s.mss
  pub deadline : e.deadline ≡ s.deadline
  pub current : e.association.current ≡ s.current

-- the sockets of the end, its own and its peer's
abbrev pub pair_at_end : Endpoint → Pair
pair_at_end e = e.pair

-- the traffic keys that the end keeps
abbrev pub keys_kept : Endpoint → Cache
keys_kept e = e.association.keys

-- the table fits the end: there is room for its rows, and each kept key and the current row are those of its rows
abbrev pub FitsEnd : List Row → Endpoint → Type 0
FitsEnd rows e = Fits rows e.association

-- all but the association is as before, and that is this one
pub record HasKept (bond : Bond) (before after : Endpoint) : Type 0 where
  pub association : after.association ≡ bond
  pub pair : after.pair ≡ before.pair
  pub isn : after.isn ≡ before.isn
  pub peer_isn : after.peer_isn ≡ before.peer_isn
  pub sequence : after.sequence ≡ before.sequence
  pub send_window : after.send_window ≡ before.send_window
  pub given : after.given ≡ before.given
  pub taken : after.taken ≡ before.taken
  pub phase : after.phase ≡ before.phase
  pub ack_owed : after.ack_owed ≡ before.ack_owed
  pub closing : after.closing ≡ before.closing
  pub rst_owed : after.rst_owed ≡ before.rst_owed
  pub mss : after.mss ≡ before.mss
  pub deadline : after.deadline ≡ before.deadline
  pub queue : after.queue ≡ before.queue
  pub reassembly : after.reassembly ≡ before.reassembly

-- all is as before
abbrev pub IsUnchanged : Endpoint → Endpoint → Type 0
IsUnchanged before after = HasKept before.association before after

-- all is as before, but that more traffic keys may be kept
abbrev pub IsUnmoved : Endpoint → Endpoint → Type 0
IsUnmoved before after = HasKept (record (before.association) { keys = after.association.keys }) before after
