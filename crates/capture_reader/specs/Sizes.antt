-- How many bytes parts have, by those in front (own).
use Rattle.std.specs.Prelude.{ℕ, ◌+◌, nat_lt, List, [], Option, Some, None, Result, Ok, Err, if◌then◌else◌}
use Rattle.book_pcap.specs.declared.pcap_head.ByteOrder.{ByteOrder}
use Rattle.book_pcap.specs.Packets.{four_at}
use Rattle.book_captures.specs.declared.block_parts.BlockFault.{BlockFault}
use Rattle.book_captures.specs.declared.block_parts.BlockFault.TheVariants as block_fault
use Rattle.book_captures.specs.declared.capture_parts.Cause.{Cause}
use Rattle.book_captures.specs.declared.capture_parts.Cause.TheVariants as cause
use Rattle.book_captures.specs.declared.capture_parts.Format.{Format}
use Rattle.book_captures.specs.declared.capture_parts.Format.TheVariants.{Pcap, Pcapng}
use Rattle.book_captures.specs.declared.pcap_head.RecordFault.TheVariants as record_fault
use Rattle.book_captures.specs.PcapFiles.{most_pcap_kept}
use Rattle.book_captures.specs.Blocks.{order_at, length_fault}
use Rattle.book_captures.specs.Parts.{OpenedFile}
use Rattle.capture_reader.specs.declared.sizes.FileFront.{FileFront}

-- how a file begins, as the book has it
abbrev pub seen_front : FileFront → OpenedFile
seen_front f = record {
  place = record { format = f.format; interfaces = [] };
  size = f.size;
}

-- how many bytes at its front show that a file has this format
abbrev pub needed : Format → ℕ
needed (Pcap head) = 24
needed (Pcapng section) = 4

-- how many bytes of a part tell how many it has
abbrev pub head_length : Format → ℕ
head_length (Pcap head) = 16
head_length (Pcapng section) = 12

-- why bytes are no part that end before it does
abbrev pub short_of : Format → Cause
short_of (Pcap head) = cause.Record record_fault.Short
short_of (Pcapng section) = cause.Block block_fault.Short

-- how many bytes a record has that keeps so many, or why it is refused
abbrev pub record_size : ℕ → Result ℕ Cause
record_size len = if nat_lt most_pcap_kept len then Err (cause.Record record_fault.TooLong)
    else Ok (16 + len)

-- how many bytes a block has, unless its total length is refused
abbrev pub size_unless : Option BlockFault → ℕ → Result ℕ Cause
size_unless (Some why) len = Err (cause.Block why)
size_unless None len = Ok len

-- how many bytes a block of this total length has, or why it is refused
abbrev pub block_size : ℕ → Result ℕ Cause
block_size len = size_unless (length_fault len) len

-- how many bytes the block at the front has, in this order
abbrev pub size_in : Result ByteOrder BlockFault → List ℕ → Result ℕ Cause
size_in (Err why) text = Err (cause.Block why)
size_in (Ok order) text = block_size (four_at order text 4)

-- how many bytes the part at the front says that it has, or why it is refused
abbrev pub told_size : Format → List ℕ → Result ℕ Cause
told_size (Pcap head) text = record_size (four_at head.order text 8)
told_size (Pcapng section) text = size_in (order_at section text) text
