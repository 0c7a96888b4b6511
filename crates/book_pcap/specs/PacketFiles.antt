-- Classic pcap files as a grammar: a header, and then records (libpcap, pcap-savefile). `IsFile` is
-- the file's top.
use Rattle.std.specs.Prelude.{◌≡◌, ℕ, ◌+◌, ◌%◌, ◌==◌, ◌≤◌, ◌<◌, if◌then◌else◌}
use Rattle.std.specs.Prelude.{List, [], ◌∷◌, ◌++◌, length, drop}
use Rattle.book_pcap.specs.declared.pcap_head.ByteOrder.{ByteOrder}
use Rattle.book_pcap.specs.declared.pcap_head.LinkType.{LinkType}
use Rattle.book_pcap.specs.declared.pcap_head.LinkType.TheVariants.{Ethernet, Raw}
use Rattle.book_pcap.specs.declared.pcap_head.Head.{Head}
use Rattle.book_pcap.specs.Packets.{two_at, four_at, magic, Kept, most_kept, datagram_of, Packet}

-- the number of a link type (libpcap, pcap-linktype)
abbrev pub link_number : LinkType → ℕ
link_number Ethernet = 1
link_number Raw = 101

-- the bytes are a header that says this: the magic number, version 2.4, and the link type in the
-- low 16 bits of the last field (pcap-savefile; the other fields and bits may be anything, own)
pub record IsHeader (head : Head) (bytes : List ℕ) : Type 0 where
  pub magic_number : four_at head.order bytes 0 ≡ magic
  pub major_version : two_at head.order bytes 4 ≡ 2
  pub minor_version : two_at head.order bytes 6 ≡ 4
  pub link_type : four_at head.order bytes 20 % 0x10000 ≡ link_number head.link
  pub whole : length bytes ≡ 24

-- the bytes are a record that keeps this packet: seconds, microseconds, kept length and original
-- length of four bytes each, and then the kept bytes (pcap-savefile; microseconds and original
-- length may be anything, own)
pub record IsRecord (order : ByteOrder) (kept : Kept) (bytes : List ℕ) : Type 0 where
  pub seen : four_at order bytes 0 ≡ kept.seconds
  pub kept_length : four_at order bytes 8 ≡ length kept.bytes
  pub kept_bytes : drop 16 bytes ≡ kept.bytes
  pub most : length kept.bytes ≤ most_kept
  pub whole : length bytes ≡ 16 + length kept.bytes

-- the bytes are records that keep these packets, one after another (pcap-savefile)
abbrev pub AreRecords : ByteOrder → List Kept → List ℕ → Type 0
AreRecords order [] bytes = bytes ≡ []
AreRecords order (k ∷ ks) bytes =
    (one : List ℕ) × (others : List ℕ)
    × IsRecord order k one × AreRecords order ks others × (bytes ≡ one ++ others)

-- the bytes don't begin with a record, and there are some (own)
pub record IsBroken (order : ByteOrder) (bytes : List ℕ) : Type 0 where
  pub some : 0 < length bytes
  pub no_record : (kept : Kept) (one rest : List ℕ)
      → IsRecord order kept one → bytes ≡ one ++ rest → ⊥

-- the file is a header, records that keep these packets, and a tail (pcap-savefile)
pub record IsFile (head : Head) (kept : List Kept) (tail file : List ℕ) : Type 0 where
  pub front : List ℕ
  pub body : List ℕ
  pub header : IsHeader head front
  pub records : AreRecords head.order kept body
  pub parts : file ≡ front ++ (body ++ tail)
