-- What is wrong with a capture, in words. Our own format.
use Rattle.std.specs.Prelude.{ℕ, List, [], ◌∷◌, ◌++◌, codes, decimal}
use Rattle.book_captures.specs.declared.block_parts.BlockFault.{BlockFault}
use Rattle.book_captures.specs.declared.block_parts.BlockFault.TheVariants as block_fault
use Rattle.book_captures.specs.declared.block_parts.BodyFault.{BodyFault}
use Rattle.book_captures.specs.declared.block_parts.BodyFault.TheVariants as body_fault
use Rattle.book_captures.specs.declared.capture_parts.CaptureFault.{CaptureFault}
use Rattle.book_captures.specs.declared.capture_parts.Cause.{Cause}
use Rattle.book_captures.specs.declared.capture_parts.Cause.TheVariants.{Head, Record, Block, Body}
use Rattle.book_captures.specs.declared.pcap_head.PcapHeadFault.{PcapHeadFault}
use Rattle.book_captures.specs.declared.pcap_head.PcapHeadFault.TheVariants as head_fault
use Rattle.book_captures.specs.declared.pcap_head.RecordFault.{RecordFault}
use Rattle.book_captures.specs.declared.pcap_head.RecordFault.TheVariants as record_fault

-- what is wrong with a file's header (own)
abbrev pub header_fault_text : PcapHeadFault → List ℕ
header_fault_text head_fault.Short = codes "the file ends in it"
header_fault_text head_fault.Magic = codes "neither pcap nor pcapng"
header_fault_text head_fault.Version = codes "its version is not 2.4"

-- what is wrong with a record (own)
abbrev pub record_fault_text : RecordFault → List ℕ
record_fault_text record_fault.Short = codes "the file ends in it"
record_fault_text record_fault.TooLong = codes "it keeps more than 262144 bytes"

-- what is wrong with a block (own)
abbrev pub block_fault_text : BlockFault → List ℕ
block_fault_text block_fault.Short = codes "the file ends in it"
block_fault_text block_fault.NoSection = codes "no section header is before it"
block_fault_text block_fault.Order = codes "its byte-order magic is none"
block_fault_text block_fault.Length = codes "its total length is none"
block_fault_text block_fault.TooLong = codes "it has more than 16777216 bytes"
block_fault_text block_fault.Trailer = codes "its two total lengths differ"

-- what is wrong with what a block says (own)
abbrev pub body_fault_text : BodyFault → List ℕ
body_fault_text body_fault.Short = codes "it is too short for its fields"
body_fault_text body_fault.Version = codes "its major version is not 1"
body_fault_text body_fault.NoInterface = codes "its interface is not described"
body_fault_text body_fault.TooManyInterfaces = codes "its section has more than 4096 interfaces"

-- which part of a file it is (own)
abbrev pub part_text : Cause → ℕ → List ℕ
part_text (Head why) number = codes "header"
part_text (Record why) number = codes "record " ++ decimal number
part_text (Block why) number = codes "block " ++ decimal number
part_text (Body why) number = codes "block " ++ decimal number

-- what is wrong with it (own)
abbrev pub cause_text : Cause → List ℕ
cause_text (Head why) = header_fault_text why
cause_text (Record why) = record_fault_text why
cause_text (Block why) = block_fault_text why
cause_text (Body why) = body_fault_text why

-- the text of a fault: in which part, where that begins, and what is wrong (own)
unfoldable pub capture_fault_text : CaptureFault → List ℕ
capture_fault_text fault = codes "input: " ++ part_text fault.cause fault.number
    ++ codes ", byte " ++ decimal fault.byte ++ codes ": " ++ cause_text fault.cause ++ 10 ∷ []
