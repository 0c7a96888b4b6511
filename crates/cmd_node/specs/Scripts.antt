-- The scripts that a node's file can say. Our own format.
use Rattle.std.specs.Prelude.{◌≡◌, ℕ, ◌+◌, ◌<◌, ◌≤◌, true, List, length, All}
use Rattle.hex.specs.Hex.{IsBytes}
use Rattle.book_base.specs.declared.address.Address.{Address}
use Rattle.book_base.specs.declared.address.Pair.{Pair}
use Rattle.book_keys.specs.Lifetimes.{greatest_time}
use Rattle.book_lines.specs.Lines.{most_lines}
use Rattle.book_cmd_node.specs.declared.node.Act.{Act}
use Rattle.book_cmd_node.specs.declared.node.Act.TheVariants as act
use Rattle.book_cmd_node.specs.declared.node.NodeEvent.{NodeEvent}
use Rattle.book_cmd_node.specs.declared.node.NodeEvent.TheVariants as event
use Rattle.book_cmd_node.specs.declared.node.NodeScript.{NodeScript}
use Rattle.book_cmd_link.specs.LinkEvents.{greatest_isn}
use Rattle.book_pcap.specs.Packets.{longest_datagram}
use Rattle.book_segments.specs.Sockets.{are_two_of_a_family}
use Rattle.law_scripts.specs.Scripts.{AreBytes, IsAddress, IsSocket}

-- a connection of the node: the node's address here, another one of its family there
pub record IsPair (own : Address) (p : Pair) : Type 0 where
  pub local : p.local.address ≡ own
  pub local_port : p.local.port ≤ 65535
  pub remote : IsSocket p.remote
  pub two : are_two_of_a_family own p.remote.address ≡ true

-- the numbers and lengths of what happens to a connection are in their ranges
abbrev pub IsAct : Act → Type 0
IsAct (act.Open isn) = isn ≤ greatest_isn
IsAct (act.Listen isn) = isn ≤ greatest_isn
IsAct (act.Start isn peer) = (isn ≤ greatest_isn) × (peer ≤ greatest_isn)
IsAct (act.Give bytes) = (0 < length bytes) × IsBytes bytes
IsAct (act.Take count) = count ≤ 65535
IsAct act.Send = Unit {0}
IsAct act.Resend = Unit {0}
IsAct act.Close = Unit {0}
IsAct act.Abort = Unit {0}
IsAct act.Remove = Unit {0}

-- the same of an event, whose connection is one of the node with this address
abbrev pub IsEvent : Address → NodeEvent → Type 0
IsEvent own (event.Clock seconds) = seconds ≤ greatest_time
IsEvent own (event.Inject bytes) = AreBytes 1 longest_datagram bytes
IsEvent own (event.On pair a) = IsPair own pair × IsAct a

-- connections of the node, numbers and lengths in their ranges, and at most 20,000 lines
pub record IsScript (s : NodeScript) : Type 0 where
  pub address : IsAddress s.address
  pub events : All (IsEvent s.address) s.events
  pub lines : 2 + length s.events ≤ most_lines
