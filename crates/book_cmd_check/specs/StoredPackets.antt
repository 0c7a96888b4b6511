-- The packets of a pcap file as stored segments (own).
use Rattle.book_pcap.specs.Packets.{Packet}
use Rattle.book_cmd_check.specs.Captures.{Stored}

-- the datagram of a packet as a stored segment (pcap-savefile, and own)
abbrev pub stored_packet : Packet → Stored
stored_packet p = record { number = p.number; time = p.seconds; bytes = p.datagram }
