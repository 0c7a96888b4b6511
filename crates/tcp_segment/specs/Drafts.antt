-- A draft, and one in a caller's slice.
use Rattle.std.specs.Prelude.{◌≡◌, ◌+◌, ◌-◌, ℕ, List, drop, take}
use Rattle.std.specs.Borrow.{MutBor}
use Rattle.lent_bytes.specs.contracts.RefMutSliceU8Room.TheImpl.{ghosts}
use Rattle.lent_bytes.specs.declared.Room.{Ghosts}
use Rattle.tcp_segment.specs.declared.draft.Draft.{Draft}
use Rattle.tcp_segment.specs.declared.spelling.Head.{Head}
use Rattle.tcp_segment.specs.Layout.{HoldsDraft}

module _ {B : Type 0} {g : Ghosts B} (d : Draft B g) where
  -- how many bytes the datagram has
  abbrev pub draft_length : ℕ
  draft_length = d.len

  -- what stands in its MAC field
  abbrev pub mac_field : List ℕ
  mac_field = take (d.payload - d.mac) (drop d.mac (g.bytes d.out))

  -- what stands in its payload
  abbrev pub payload_field : List ℕ
  payload_field = take (d.len - d.payload) (drop d.payload (g.bytes d.out))

-- a draft in a caller's slice
abbrev pub DatagramMut : Type 0
DatagramMut = Draft (MutBor (List ℕ)) ghosts

-- the draft is in this buffer
abbrev pub InBuffer : MutBor (List ℕ) → DatagramMut → Type 0
InBuffer out d = d.out.ghost_name ≡ out.ghost_name

-- both are in one buffer
abbrev pub InOneBuffer : DatagramMut → DatagramMut → Type 0
InOneBuffer before after = InBuffer before.out after

-- the MAC field has so many bytes
abbrev pub HasMacField : DatagramMut → ℕ → Type 0
HasMacField d n = d.mac + n ≡ d.payload

-- the buffer holds the segment of this head, MAC and payload, its TCP checksum zero, and then the rest
abbrev pub Drafted : DatagramMut → Head → List ℕ → List ℕ → List ℕ → Type 0
Drafted d h mac payload rest = HoldsDraft d.out.now d.header d.mac d.payload d.len h 0 mac payload rest
