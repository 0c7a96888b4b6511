-- The scripts that a link file can say. Our own format.
use Rattle.std.specs.Prelude.{◌≡◌, ℕ, ◌<◌, ◌≤◌, true, List, length, Option, Some, None, All}
use Rattle.hex.specs.Hex.{IsBytes}
use Rattle.book_base.specs.declared.address.Address.{Address}
use Rattle.book_base.specs.declared.address.Address.TheVariants.{V4, V6}
use Rattle.book_base.specs.declared.address.Socket.{Socket}
use Rattle.book_keys.specs.Lifetimes.{greatest_time}
use Rattle.book_keys.specs.MasterKeys.{longest_master_key}
use Rattle.book_keys.specs.Rows.{greatest_key_id, row_limit}
use Rattle.book_lines.specs.Lines.{most_lines}
use Rattle.book_keys.specs.declared.lifetime.Lifetime.{Lifetime}
use Rattle.book_keys.specs.declared.new_row.NewRow.{NewRow}
use Rattle.book_link.specs.declared.event.Event.{Event}
use Rattle.book_link.specs.declared.event.Event.TheVariants as event
use Rattle.book_link.specs.declared.event.Action.TheVariants as action
use Rattle.book_cmd_link.specs.declared.script.SharedKey.{SharedKey}
use Rattle.book_cmd_link.specs.declared.script.Script.{Script}
use Rattle.book_cmd_link.specs.LinkEvents.{greatest_isn, most_segments}
use Rattle.book_pcap.specs.Packets.{longest_datagram}
use Rattle.book_segments.specs.Sockets.{are_two_of_a_family}
use Rattle.law_scripts.specs.Printed.{script_lines}

-- from low to high bytes
pub record AreBytes (low high : ℕ) (bytes : List ℕ) : Type 0 where
  pub least : low ≤ length bytes
  pub most : length bytes ≤ high
  pub small : IsBytes bytes

-- a number from low to high
pub record IsWithin (low high n : ℕ) : Type 0 where
  pub least : low ≤ n
  pub most : n ≤ high

-- times that can be written, and an end that isn't before the beginning (RFC 7210, section 2)
pub record IsLifetime (l : Lifetime) : Type 0 where
  pub first : l.first ≤ greatest_time
  pub last : IsWithin l.first greatest_time l.last

-- ids of one byte, a master key of 1 to 255 bytes, and two lifetimes (RFC 7210, section 2)
pub record IsRow (r : NewRow) : Type 0 where
  pub recv_id : r.recv_id ≤ greatest_key_id
  pub send_id : r.send_id ≤ greatest_key_id
  pub master : AreBytes 1 longest_master_key r.master
  pub sending : IsLifetime r.sending
  pub accepting : IsLifetime r.accepting

-- the numbers and lengths of an event are in their ranges
abbrev pub IsEvent : Event → Type 0
IsEvent (event.At e (action.Clock seconds)) = seconds ≤ greatest_time
IsEvent (event.At e (action.Connect isn)) = isn ≤ greatest_isn
IsEvent (event.At e (action.Listen isn)) = isn ≤ greatest_isn
IsEvent (event.At e (action.Start own peer)) = (own ≤ greatest_isn) × (peer ≤ greatest_isn)
IsEvent (event.At e (action.Give bytes)) = (0 < length bytes) × IsBytes bytes
IsEvent (event.At e (action.Fill count byte)) = (count ≤ 65535) × (byte < 256)
IsEvent (event.At e action.Send) = Unit {0}
IsEvent (event.At e action.Resend) = Unit {0}
IsEvent (event.At e (action.Deliver segment)) = IsWithin 1 most_segments segment
IsEvent (event.At e (action.Inject bytes)) = AreBytes 1 longest_datagram bytes
IsEvent (event.At e (action.Alter segment place mask fixing)) =
    IsWithin 1 most_segments segment × (place ≤ 65535) × (mask < 256)
IsEvent (event.At e (action.Take count)) = count ≤ 65535
IsEvent (event.At e action.Close) = Unit {0}
IsEvent (event.At e action.Abort) = Unit {0}
IsEvent (event.At e (action.AddRow row)) = IsRow row
IsEvent (event.At e (action.Withdraw row)) = IsWithin 1 row_limit row
IsEvent (event.Dump segment) = IsWithin 1 most_segments segment

-- four bytes, or sixteen
abbrev pub IsAddress : Address → Type 0
IsAddress (V4 bytes) = (length bytes ≡ 4) × IsBytes bytes
IsAddress (V6 bytes) = (length bytes ≡ 16) × IsBytes bytes

-- an address, and a port of two bytes
pub record IsSocket (s : Socket) : Type 0 where
  pub address : IsAddress s.address
  pub port : s.port ≤ 65535

-- a master key of 1 to 255 bytes, where there is one
abbrev pub IsKey : Option SharedKey → Type 0
IsKey None = Unit {0}
IsKey (Some k) = AreBytes 1 longest_master_key k.master

-- addresses that differ and are of one family, numbers and lengths in their ranges, and at most 20,000 lines
pub record IsScript (s : Script) : Type 0 where
  pub a : IsSocket s.a
  pub b : IsSocket s.b
  pub two : are_two_of_a_family s.a.address s.b.address ≡ true
  pub key : IsKey s.shared
  pub events : All IsEvent s.events
  pub lines : length (script_lines s) ≤ most_lines
