-- Classic pcap files of either resolution: a header, and then records (libpcap, pcap-savefile).
use Rattle.std.specs.Prelude.{◌≡◌, ℕ, ◌+◌, ◌*◌, ◌%◌, ◌==◌, ◌&&◌, ◌≤◌, nat_lt, List, [], ◌∷◌, ◌++◌}
use Rattle.std.specs.Prelude.{drop, length, slice_range, Option, Some, None, Result, Ok, Err}
use Rattle.std.specs.Prelude.{if◌then◌else◌}
use Rattle.book_pcap.specs.declared.pcap_head.ByteOrder.{ByteOrder}
use Rattle.book_pcap.specs.declared.pcap_head.ByteOrder.TheVariants.{Big, Little}
use Rattle.book_pcap.specs.Packets.{two_at, four_at}
use Rattle.book_captures.specs.declared.pcap_head.Resolution.{Resolution}
use Rattle.book_captures.specs.declared.pcap_head.Resolution.TheVariants.{Microseconds, Nanoseconds}
use Rattle.book_captures.specs.declared.pcap_head.PcapHead.{PcapHead}
use Rattle.book_captures.specs.declared.pcap_head.PcapHeadFault.{PcapHeadFault}
use Rattle.book_captures.specs.declared.pcap_head.PcapHeadFault.TheVariants as head_fault
use Rattle.book_captures.specs.declared.pcap_head.RecordFault.{RecordFault}
use Rattle.book_captures.specs.declared.pcap_head.RecordFault.TheVariants as record_fault

-- the number that begins a file (libpcap, pcap-savefile)
abbrev pub pcap_magic : Resolution → ℕ
pcap_magic Microseconds = 0xa1b2c3d4
pcap_magic Nanoseconds = 0xa1b23c4d

-- the resolution that the first four bytes tell in this order (pcap-savefile)
abbrev pub resolution_by : ByteOrder → List ℕ → Option Resolution
resolution_by order head = if four_at order head 0 == pcap_magic Microseconds then Some Microseconds
    else if four_at order head 0 == pcap_magic Nanoseconds then Some Nanoseconds else None

-- what a header in this order and resolution says: version 2.4, and the link type in the low 16
-- bits of the last field (pcap-savefile; the other fields and bits don't count, own)
abbrev pub head_by : ByteOrder → Resolution → List ℕ → Result PcapHead PcapHeadFault
head_by order resolution head = if (two_at order head 4 == 2) && (two_at order head 6 == 4)
    then Ok (record {
      order = order;
      resolution = resolution;
      link = four_at order head 20 % 65536;
    })
    else Err head_fault.Version

-- what a header says, where the first four bytes tell these resolutions in both orders
-- (pcap-savefile)
abbrev pub head_for : (big little : Option Resolution) → List ℕ → Result PcapHead PcapHeadFault
head_for (Some resolution) little head = head_by Big resolution head
head_for None (Some resolution) head = head_by Little resolution head
head_for None None head = Err head_fault.Magic

-- what the header at the front of a file says, or its first fault (pcap-savefile)
unfoldable pub pcap_head : List ℕ → Result PcapHead PcapHeadFault
pcap_head file = if nat_lt (length file) 24 then Err head_fault.Short
    else head_for (resolution_by Big file) (resolution_by Little file) file

-- the bytes are a header that says this (pcap-savefile; the other fields and bits may be anything,
-- own)
pub record IsPcapHead (head : PcapHead) (bytes : List ℕ) : Type 0 where
  pub magic_number : four_at head.order bytes 0 ≡ pcap_magic head.resolution
  pub major_version : two_at head.order bytes 4 ≡ 2
  pub minor_version : two_at head.order bytes 6 ≡ 4
  pub link_type : four_at head.order bytes 20 % 65536 ≡ head.link
  pub whole : length bytes ≡ 24

-- how many nanoseconds a unit has (own)
abbrev pub nanoseconds : Resolution → ℕ
nanoseconds Microseconds = 1000
nanoseconds Nanoseconds = 1

-- a packet as a capture keeps it: when it was seen, in nanoseconds since 1970, how many bytes it
-- had, and those that the snapshot left (pcap-savefile, and own)
pub record KeptPacket : Type 0 where
  pub time : ℕ
  pub original : ℕ
  pub bytes : List ℕ

-- the time of a record: seconds since 1970, and units of the file's resolution (pcap-savefile)
abbrev pub record_time : PcapHead → List ℕ → ℕ
record_time head text = four_at head.order text 0 * 1000000000
    + four_at head.order text 4 * nanoseconds head.resolution

-- the most bytes that a record may keep (libpcap; own)
abbrev pub most_pcap_kept : ℕ
most_pcap_kept = 262144

-- the record at the front with this kept length, and the bytes behind it (pcap-savefile)
abbrev pub record_of_length : PcapHead → ℕ → List ℕ → Result (KeptPacket × List ℕ) RecordFault
record_of_length head len text = if nat_lt most_pcap_kept len then Err record_fault.TooLong
    else if nat_lt (length text) (16 + len) then Err record_fault.Short
    else Ok (
      record {
        time = record_time head text;
        original = four_at head.order text 12;
        bytes = slice_range text 16 (16 + len);
      },
      drop (16 + len) text,
    )

-- the record at the front, and the bytes behind it: its time, kept length and original length, of
-- four bytes each, and the kept bytes (pcap-savefile)
unfoldable pub pcap_record_at : PcapHead → List ℕ → Result (KeptPacket × List ℕ) RecordFault
pcap_record_at head text = if nat_lt (length text) 16 then Err record_fault.Short
    else record_of_length head (four_at head.order text 8) text

-- the bytes are a record that keeps this packet (pcap-savefile)
pub record IsPcapRecord (head : PcapHead) (kept : KeptPacket) (bytes : List ℕ) : Type 0 where
  pub time : record_time head bytes ≡ kept.time
  pub kept_length : four_at head.order bytes 8 ≡ length kept.bytes
  pub original : four_at head.order bytes 12 ≡ kept.original
  pub kept_bytes : drop 16 bytes ≡ kept.bytes
  pub most : length kept.bytes ≤ most_pcap_kept
  pub whole : length bytes ≡ 16 + length kept.bytes

-- the bytes are records that keep these packets, one after another (pcap-savefile)
abbrev pub ArePcapRecords : PcapHead → List KeptPacket → List ℕ → Type 0
ArePcapRecords head [] bytes = bytes ≡ []
ArePcapRecords head (k ∷ ks) bytes = (one : List ℕ) × (others : List ℕ)
    × IsPcapRecord head k one × ArePcapRecords head ks others × (bytes ≡ one ++ others)

-- the file is a header that says this, records that keep these packets, and a tail (pcap-savefile)
pub record IsPcapFile (head : PcapHead) (kept : List KeptPacket) (tail file : List ℕ) : Type 0 where
  pub front : List ℕ
  pub body : List ℕ
  pub header : IsPcapHead head front
  pub records : ArePcapRecords head kept body
  pub parts : file ≡ front ++ (body ++ tail)
