-- The line form of a pcap file: its packets as lines of stored segments. Our own format.
use Rattle.std.specs.Prelude.{ℕ, List, [], ◌∷◌, ◌++◌, decimal, Result, Ok, Err}
use Rattle.book_base.specs.Hexadecimal.{hex_of}
use Rattle.book_pcap.specs.declared.pcap_head.Head.{Head}
use Rattle.book_pcap.specs.declared.pcap_head.HeadFault.{HeadFault}
use Rattle.book_base.specs.Fronts.{fronted}
use Rattle.book_pcap.specs.declared.pcap_head.LinkType.{LinkType}
use Rattle.book_pcap.specs.Packets.{Kept, record_at, datagram_of, opened}

-- the line of a packet: when it was seen and its datagram in hexadecimal, or a number sign where it has none
abbrev pub packet_line : ℕ → List ℕ → List ℕ
packet_line seconds [] = 35 ∷ []
packet_line seconds (b ∷ bs) = decimal seconds ++ 32 ∷ hex_of (b ∷ bs)

-- a line for each packet that records keep (own)
abbrev pub record_lines : LinkType → List Kept → List ℕ
record_lines link [] = []
record_lines link (k ∷ ks) = packet_line k.seconds (datagram_of link k.bytes) ++ 10 ∷ record_lines link ks

-- the lines of what stands behind a header
abbrev pub lines_behind : Result (Head × List ℕ) HeadFault → List ℕ
lines_behind (Err fault) = []
lines_behind (Ok body) = record_lines body.0.link (fronted (record_at body.0.order) body.1).items

-- a line for each packet of a file up to the first fault (own)
abbrev pub line_form : List ℕ → List ℕ
line_form file = lines_behind (opened file)
