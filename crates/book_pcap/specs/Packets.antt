-- Classic pcap files: a header, and then packets in records (libpcap, pcap-savefile). `packets_of`
-- is the file's top.
use Rattle.std.specs.Prelude.{ℕ, ◌+◌, ◌*◌, ◌%◌, ◌==◌, ◌&&◌, ◌||◌, nat_lt, Bool}
use Rattle.std.specs.Prelude.{List, [], ◌∷◌, length, take, drop, slice_index, bytes_eq}
use Rattle.std.specs.Prelude.{Option, Some, None, Result, Ok, Err, if◌then◌else◌}
use Rattle.book_base.specs.Fronts.{Front, Ends, Faulted, Leads, fronted}
use Rattle.book_pcap.specs.declared.pcap_head.ByteOrder.{ByteOrder}
use Rattle.book_pcap.specs.declared.pcap_head.ByteOrder.TheVariants.{Big, Little}
use Rattle.book_pcap.specs.declared.pcap_head.LinkType.{LinkType}
use Rattle.book_pcap.specs.declared.pcap_head.LinkType.TheVariants.{Ethernet, Raw}
use Rattle.book_pcap.specs.declared.pcap_head.Head.{Head}
use Rattle.book_pcap.specs.declared.pcap_head.HeadFault.{HeadFault}
use Rattle.book_pcap.specs.declared.pcap_head.HeadFault.TheVariants as head_fault

-- the number of two bytes in this order from a place on (pcap-savefile)
abbrev pub two_at : ByteOrder → List ℕ → ℕ → ℕ
two_at Big b i = slice_index b i * 0x100 + slice_index b (i + 1)
two_at Little b i = slice_index b i + slice_index b (i + 1) * 0x100

-- the number of four bytes in this order from a place on (pcap-savefile)
abbrev pub four_at : ByteOrder → List ℕ → ℕ → ℕ
four_at Big b i = two_at Big b i * 0x10000 + two_at Big b (i + 2)
four_at Little b i = two_at Little b i + two_at Little b (i + 2) * 0x10000

-- the magic number that begins a file (pcap-savefile)
abbrev pub magic : ℕ
magic = 0xa1b2c3d4

-- the order in which the first four bytes are the magic number (pcap-savefile)
abbrev pub order_of : List ℕ → Option ByteOrder
order_of head =
    if four_at Big head 0 == magic then Some Big
    else if four_at Little head 0 == magic then Some Little
    else None

-- what a header says by its order and its link type, of which 1 is Ethernet and 101 is IP alone
-- (libpcap, pcap-linktype)
abbrev pub link_of : ByteOrder → ℕ → Result Head HeadFault
link_of order link =
    if link == 1 then Ok (record { order = order; link = Ethernet })
    else if link == 101 then Ok (record { order = order; link = Raw })
    else Err head_fault.LinkType

-- what a header in this order says: version 2.4, and the link type in the low 16 bits of the last
-- field (pcap-savefile; the other fields and bits don't count, own)
abbrev pub head_in : Option ByteOrder → List ℕ → Result Head HeadFault
head_in None head = Err head_fault.Magic
head_in (Some order) head =
    if (two_at order head 4 == 2) && (two_at order head 6 == 4)
    then link_of order (four_at order head 20 % 0x10000)
    else Err head_fault.Version

-- what the 24 bytes of a header say, or their first fault (pcap-savefile)
unfoldable pub head_of : List ℕ → Result Head HeadFault
head_of head = head_in (order_of head) head

-- what a header says, with the bytes that follow it (pcap-savefile)
abbrev pub and_rest : Result Head HeadFault → List ℕ → Result (Head × List ℕ) HeadFault
and_rest (Ok head) rest = Ok (head, rest)
and_rest (Err fault) rest = Err fault

-- the header of a file with the bytes that follow it, or its fault (pcap-savefile)
abbrev pub opened : List ℕ → Result (Head × List ℕ) HeadFault
opened file =
    if nat_lt (length file) 24 then Err head_fault.Short
    else and_rest (head_of (take 24 file)) (drop 24 file)

-- a packet as its record keeps it: when it was seen, in seconds since 1970, and its kept bytes
-- (pcap-savefile)
pub record Kept : Type 0 where
  pub seconds : ℕ
  pub bytes : List ℕ

-- the most bytes that a record may keep (libpcap; own)
abbrev pub most_kept : ℕ
most_kept = 262144

-- what is wrong with a record: it isn't whole (pcap-savefile)
pub data RecordFault : Type 0 where
  Broken : RecordFault

-- what stands at the front of records, where the first one has this kept length (pcap-savefile)
abbrev pub record_by : ByteOrder → ℕ → List ℕ → Front Kept RecordFault
record_by order len text =
    if nat_lt most_kept len then Faulted Broken
    else if nat_lt (length text) (16 + len) then Faulted Broken
    else Leads (record { seconds = four_at order text 0; bytes = take len (drop 16 text) })
    (drop (16 + len) text)

-- what stands at the front of records, each of seconds, microseconds, kept length and original
-- length of four bytes each, and then the kept bytes (pcap-savefile)
unfoldable pub record_at : ByteOrder → List ℕ → Front Kept RecordFault
record_at order text =
    if length text == 0 then Ends
    else if nat_lt (length text) 16 then Faulted Broken
    else record_by order (four_at order text 8) text

-- bytes 12 and 13 of an Ethernet header say IPv4 or IPv6 (RFC 894; RFC 2464, section 3)
abbrev pub is_ip : List ℕ → Bool
is_ip bytes =
    let kind = take 2 (drop 12 bytes) in
    bytes_eq kind (0x08 ∷ 0x00 ∷ []) || bytes_eq kind (0x86 ∷ 0xdd ∷ [])

-- the greatest length of a datagram: the header of IPv6 and 65,535 bytes (RFC 8200, section 3)
abbrev pub longest_datagram : ℕ
longest_datagram = 40 + 0xffff

-- the most bytes of a capture that is checked: 2^28 (own)
abbrev pub most_capture : ℕ
most_capture = 268435456

-- the datagram of a packet; it has no byte where the packet is passed over (own)
abbrev pub datagram_of : LinkType → List ℕ → List ℕ
datagram_of Raw bytes = take longest_datagram bytes
datagram_of Ethernet bytes = if is_ip bytes then take longest_datagram (drop 14 bytes) else []

-- a packet with a datagram: its number in the file, from 1 on, when it was seen, and its datagram
-- (own)
pub record Packet : Type 0 where
  pub number : ℕ
  pub seconds : ℕ
  pub datagram : List ℕ

-- why the packets of a file end before it does: its header's fault, or the number of a record that
-- isn't whole (own)
pub data FileFault : Type 0 where
  BadHead : (fault : HeadFault) → FileFault
  BadRecord : (number : ℕ) → FileFault

-- the packets with a datagram up to the first fault, and that fault (own)
pub record Packets : Type 0 where
  pub list : List Packet
  pub fault : Option FileFault

-- a packet before others; it is passed over where its datagram has no byte (own)
abbrev pub with_packet : Packet → Packets → Packets
with_packet p others =
    if length p.datagram == 0 then others
    else record { list = p ∷ others.list; fault = others.fault }

-- a packet in front of others; it is passed over where its datagram has no byte (own)
abbrev pub and_packet : Packet → List Packet → List Packet
and_packet p others = if length p.datagram == 0 then others else p ∷ others

-- the packets that have a datagram, of those that records keep, the first of number n (own)
abbrev pub with_datagrams : LinkType → ℕ → List Kept → List Packet
with_datagrams link n [] = []
with_datagrams link n (k ∷ ks) =
    and_packet (record { number = n; seconds = k.seconds; datagram = datagram_of link k.bytes })
    (with_datagrams link (n + 1) ks)

-- the fault behind records, where the next one is of number n and has a fault (own)
abbrev pub fault_at : ℕ → Option RecordFault → Option FileFault
fault_at n None = None
fault_at n (Some Broken) = Some (BadRecord n)

-- the packets of records, the first of number n, and the fault behind them (pcap-savefile)
unfoldable pub packets_in : Head → ℕ → List ℕ → Packets
packets_in head n text =
    let records = fronted (record_at head.order) text in
    record {
      list = with_datagrams head.link n records.items;
      fault = fault_at (n + length records.items) records.fault;
    }

-- the packets behind a header, or the header's fault (pcap-savefile)
abbrev pub packets_behind : Result (Head × List ℕ) HeadFault → Packets
packets_behind (Err fault) = record { list = []; fault = Some (BadHead fault) }
packets_behind (Ok body) = packets_in body.0 1 body.1

-- the packets of a file that have a datagram, up to the first fault, and that fault (pcap-savefile)
abbrev pub packets_of : List ℕ → Packets
packets_of file = packets_behind (opened file)
