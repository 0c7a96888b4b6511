-- A part of a capture: a record of a classic pcap file, or a block of a pcapng file.
use Rattle.std.specs.Prelude.{ℕ, ◌+◌, ◌==◌, nat_lt, Bool, List, [], ◌∷◌, ◌++◌, length, slice_get}
use Rattle.std.specs.Prelude.{Option, Some, None, Result, Ok, Err, if◌then◌else◌}
use Rattle.book_base.specs.Results.{◌>>=◌, or_fault}
use Rattle.book_pcap.specs.declared.pcap_head.ByteOrder.TheVariants.{Big}
use Rattle.book_pcap.specs.Packets.{two_at, four_at}
use Rattle.book_captures.specs.declared.block_parts.BlockFault.{BlockFault}
use Rattle.book_captures.specs.declared.block_parts.BodyFault.{BodyFault}
use Rattle.book_captures.specs.declared.block_parts.BodyFault.TheVariants as fault
use Rattle.book_captures.specs.declared.block_parts.Interface.{Interface}
use Rattle.book_captures.specs.declared.capture_parts.Cause.{Cause}
use Rattle.book_captures.specs.declared.capture_parts.Cause.TheVariants as cause
use Rattle.book_captures.specs.declared.capture_parts.Format.{Format}
use Rattle.book_captures.specs.declared.capture_parts.Format.TheVariants.{Pcap, Pcapng}
use Rattle.book_captures.specs.declared.pcap_head.PcapHead.{PcapHead}
use Rattle.book_captures.specs.declared.pcap_head.PcapHeadFault.{PcapHeadFault}
use Rattle.book_captures.specs.declared.pcap_head.RecordFault.{RecordFault}
use Rattle.book_captures.specs.PcapFiles.{KeptPacket, pcap_head, pcap_record_at}
use Rattle.book_captures.specs.Blocks.{Block, section_header, block_at}
use Rattle.book_captures.specs.PcapngFiles.{block_length}
use Rattle.book_captures.specs.BlockContents.{interface_in, stamp_time, Stamped, enhanced_in}
use Rattle.book_captures.specs.BlockContents.{old_in, Unstamped, simple_in}

-- a packet as a capture keeps it: when it was seen, in nanoseconds since 1970, where that is kept;
-- the number of its link type; how many bytes it had; and those that the snapshot left (own)
pub record Frame : Type 0 where
  pub time : Option ℕ
  pub link : ℕ
  pub original : ℕ
  pub bytes : List ℕ

-- what a part says: it shows a packet; or it begins a section or describes an interface, and these
-- are then the section's interfaces; or nothing of both (own)
pub data PartSaid : Type 0 where
  Shows : (frame : Frame) → PartSaid
  Describes : (interfaces : List Interface) → PartSaid
  Neither : PartSaid

-- the most interfaces of a section (own)
abbrev pub most_interfaces : ℕ
most_interfaces = 4096

-- a section begins: behind the magic number of its order stand its major version, which is 1, its
-- minor version, and eight bytes of its length (section 4.1; the last two don't count, own)
unfoldable pub section_said : Block → Result PartSaid BodyFault
section_said b = if nat_lt (length b.body) 16 then Err fault.Short
    else if two_at b.order b.body 4 == 1 then Ok (Describes []) else Err fault.Version

-- one more interface of a section (own)
abbrev pub one_more : List Interface → Interface → Result PartSaid BodyFault
one_more interfaces i = if nat_lt (length interfaces) most_interfaces
    then Ok (Describes (interfaces ++ i ∷ [])) else Err fault.TooManyInterfaces

-- a packet with a time, of this interface, if the section has it (own)
abbrev pub stamped_by : Option Interface → Stamped → Result PartSaid BodyFault
stamped_by None p = Err fault.NoInterface
stamped_by (Some i) p = Ok (Shows (record {
  time = Some (stamp_time i.resolution i.offset p.count);
  link = i.link;
  original = p.original;
  bytes = p.bytes;
}))

-- a packet with a time, in a section with these interfaces (own)
abbrev pub stamped_said : List Interface → Stamped → Result PartSaid BodyFault
stamped_said interfaces p = stamped_by (slice_get interfaces p.interface) p

-- the first interface of a section (own)
abbrev pub first_interface : List Interface → Result Interface BodyFault
first_interface interfaces = or_fault (slice_get interfaces 0) fault.NoInterface

-- a packet without a time, of this interface (own)
abbrev pub plain_by : Interface → Unstamped → Result PartSaid BodyFault
plain_by i p =
    Ok (Shows (record { time = None; link = i.link; original = p.original; bytes = p.bytes }))

-- a packet without a time, in a section whose first interface is this one (own)
abbrev pub plain_said : Block → Interface → Result PartSaid BodyFault
plain_said b i = simple_in b.order i.snapshot b.body >>= plain_by i

-- one more interface of a section (pcapng, section 4.2)
abbrev pub interface_said : List Interface → Block → Result PartSaid BodyFault
interface_said interfaces b = interface_in b.order b.body >>= one_more interfaces

-- the packet of an old block (pcapng, appendix A)
abbrev pub old_said : List Interface → Block → Result PartSaid BodyFault
old_said interfaces b = old_in b.order b.body >>= stamped_said interfaces

-- the packet of a simple block (pcapng, section 4.4)
abbrev pub simple_said : List Interface → Block → Result PartSaid BodyFault
simple_said interfaces b = first_interface interfaces >>= plain_said b

-- the packet of an enhanced block (pcapng, section 4.3)
abbrev pub enhanced_said : List Interface → Block → Result PartSaid BodyFault
enhanced_said interfaces b = enhanced_in b.order b.body >>= stamped_said interfaces

-- what the block says in a section with these interfaces (pcapng, section 4, appendix A)
unfoldable pub block_said : List Interface → Block → Result PartSaid BodyFault
block_said interfaces b = if b.kind == section_header then section_said b
    else if b.kind == 1 then interface_said interfaces b
    else if b.kind == 2 then old_said interfaces b
    else if b.kind == 3 then simple_said interfaces b
    else if b.kind == 6 then enhanced_said interfaces b
    else Ok Neither

-- where the reading of a file stands: in which format, and with which interfaces of the section
-- (own)
pub record FilePlace : Type 0 where
  pub format : Format
  pub interfaces : List Interface

-- a part: what it says, in which format the next one is read, and how many bytes it has (own)
pub record Part : Type 0 where
  pub said : PartSaid
  pub format : Format
  pub size : ℕ

-- the part that a record is (own)
abbrev pub record_part : PcapHead → Result (KeptPacket × List ℕ) RecordFault → Result Part Cause
record_part head (Err why) = Err (cause.Record why)
record_part head (Ok front) = Ok (record {
  said = Shows (record {
    time = Some front.0.time;
    link = head.link;
    original = front.0.original;
    bytes = front.0.bytes;
  });
  format = Pcap head;
  size = 16 + length front.0.bytes;
})

-- the part that a block is, which says this (own)
abbrev pub said_part : Block → Result PartSaid BodyFault → Result Part Cause
said_part b (Err why) = Err (cause.Body why)
said_part b (Ok said) =
    Ok (record { said = said; format = Pcapng (Some b.order); size = block_length b })

-- the part that a block is, in a section with these interfaces (own)
abbrev pub block_part : List Interface → Result (Block × List ℕ) BlockFault → Result Part Cause
block_part interfaces (Err why) = Err (cause.Block why)
block_part interfaces (Ok front) = said_part front.0 (block_said interfaces front.0)

-- the part at the front in this format (own)
abbrev pub part_by : Format → List Interface → List ℕ → Result Part Cause
part_by (Pcap head) interfaces text = record_part head (pcap_record_at head text)
part_by (Pcapng section) interfaces text = block_part interfaces (block_at section text)

-- the part at the front (own)
abbrev pub part_at : FilePlace → List ℕ → Result Part Cause
part_at place text = part_by place.format place.interfaces text

-- the section's interfaces behind a part that says this (own)
abbrev pub interfaces_behind : PartSaid → List Interface → List Interface
interfaces_behind (Describes known) interfaces = known
interfaces_behind said interfaces = interfaces

-- where the reading stands behind a part (own)
abbrev pub behind_part : FilePlace → Part → FilePlace
behind_part place part = record {
  format = part.format;
  interfaces = interfaces_behind part.said place.interfaces;
}

-- how a file begins: where the reading then stands, and how many bytes its header has (own)
pub record OpenedFile : Type 0 where
  pub place : FilePlace
  pub size : ℕ

-- the file is a pcapng file, which begins with a section (pcapng, section 4.1)
abbrev pub is_pcapng : List ℕ → Bool
is_pcapng file = four_at Big file 0 == section_header

-- behind the header of a classic file (own)
abbrev pub behind_head : Result PcapHead PcapHeadFault → Result OpenedFile Cause
behind_head (Err why) = Err (cause.Head why)
behind_head (Ok head) =
    Ok (record { place = record { format = Pcap head; interfaces = [] }; size = 24 })

-- how the file begins: a pcapng file with its first block, any other with a classic file's header
-- (own)
unfoldable pub capture_opened : List ℕ → Result OpenedFile Cause
capture_opened file = if is_pcapng file
    then Ok (record { place = record { format = Pcapng None; interfaces = [] }; size = 0 })
    else behind_head (pcap_head file)
