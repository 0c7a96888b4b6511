-- A capture as lines of stored segments, one for each packet. Our own format.
use Rattle.std.specs.Prelude.{ℕ, ◌/◌, List, [], ◌∷◌, ◌++◌, take, codes, decimal, Option, Some, None}
use Rattle.std.specs.Prelude.{Result, Ok, Err}
use Rattle.std.specs.List.{flat_map}
use Rattle.book_base.specs.Hexadecimal.{hex_of}
use Rattle.book_pcap.specs.Packets.{longest_datagram}
use Rattle.book_captures.specs.declared.reasons.Header.{Header}
use Rattle.book_captures.specs.declared.reasons.Header.TheVariants as header
use Rattle.book_captures.specs.declared.reasons.Skipped.{Skipped}
use Rattle.book_captures.specs.declared.reasons.Skipped.TheVariants.{UnknownLink, NotIp, Version}
use Rattle.book_captures.specs.declared.reasons.Skipped.TheVariants.{NotSession, Short, Cut}
use Rattle.book_captures.specs.Frames.{Datagram}
use Rattle.book_captures.specs.Captures.{CapturePacket, frame_datagram}

-- the name of a header (own)
abbrev pub header_text : Header → List ℕ
header_text header.Link = codes "link header"
header_text header.Tag = codes "VLAN tag"
header_text header.Session = codes "PPPoE header"
header_text header.Label = codes "MPLS label"
header_text header.Datagram = codes "IP header"

-- why a packet is passed over, in words (own)
abbrev pub reason_text : Skipped → List ℕ
reason_text (UnknownLink number) = codes "link type " ++ decimal number
reason_text NotIp = codes "not IP"
reason_text Version = codes "IP version"
reason_text NotSession = codes "not PPPoE data"
reason_text (Short part) = codes "ends in " ++ header_text part
reason_text (Cut part) = codes "cut in " ++ header_text part

-- a line that says nothing to `check`, of the packet of this number (own)
abbrev pub remark : ℕ → List ℕ → List ℕ
remark number text = codes "# packet " ++ decimal number ++ 32 ∷ text

-- what is judged of a datagram: its bytes, with those behind it in its frame, as far as one may
-- reach (own)
abbrev pub judged_bytes : Datagram → List ℕ
judged_bytes d = take longest_datagram (d.bytes ++ d.behind)

-- the line of a packet seen at this time that has this datagram, or none for this reason: the
-- seconds since 1970 and the bytes, or a remark (own)
abbrev pub line_by : ℕ → Option ℕ → Result Datagram Skipped → List ℕ
line_by number time (Err why) = remark number (reason_text why)
line_by number None (Ok d) = remark number (codes "no time")
line_by number (Some time) (Ok d) =
    decimal (time / 1000000000) ++ 32 ∷ hex_of (judged_bytes d)

-- the line of a packet (own)
unfoldable pub packet_line : CapturePacket → List ℕ
packet_line p = line_by p.number p.frame.time (frame_datagram p.frame)

-- the lines of packets, each with its newline (own)
abbrev pub packet_lines : List CapturePacket → List ℕ
packet_lines packets = flat_map (λ p. packet_line p ++ 10 ∷ []) packets
