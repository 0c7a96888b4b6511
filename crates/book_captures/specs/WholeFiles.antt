-- The captures in files whose parts are known.
use Rattle.std.specs.Prelude.{ℕ, ◌+◌, List, [], ◌∷◌, length, Option, Some, None}
use Rattle.book_captures.specs.declared.block_parts.Interface.{Interface}
use Rattle.book_captures.specs.declared.capture_parts.Cause.TheVariants as cause
use Rattle.book_captures.specs.declared.pcap_head.PcapHead.{PcapHead}
use Rattle.book_captures.specs.declared.pcap_head.RecordFault.{RecordFault}
use Rattle.book_captures.specs.PcapFiles.{KeptPacket}
use Rattle.book_captures.specs.Blocks.{Block}
use Rattle.book_captures.specs.PcapngFiles.{BrokenBlock, Blocks}
use Rattle.book_captures.specs.Parts.{block_said, said_part, interfaces_behind}
use Rattle.book_captures.specs.Captures.{CapturePacket, Capture, PartCounts, further, ended, broken}
use Rattle.book_captures.specs.Captures.{capture_by}

-- the packets that records keep, the first of number n (own)
abbrev pub packets_kept : PcapHead → ℕ → List KeptPacket → List CapturePacket
packets_kept head n [] = []
packets_kept head n (k ∷ ks) = record {
  number = n;
  frame = record {
    time = Some k.time;
    link = head.link;
    original = k.original;
    bytes = k.bytes;
  };
} ∷ packets_kept head (n + 1) ks

-- how many bytes records have that keep these packets (own)
abbrev pub records_size : List KeptPacket → ℕ
records_size [] = 0
records_size (k ∷ ks) = 16 + length k.bytes + records_size ks

-- the capture in a classic file whose records keep these packets (own)
abbrev pub capture_kept : PcapHead → List KeptPacket → Capture
capture_kept head kept = record { packets = packets_kept head 1 kept; passed = 0; fault = None }

-- the same, where behind them stands what begins with no record, for this reason (own)
abbrev pub capture_broken : PcapHead → List KeptPacket → RecordFault → Capture
capture_broken head kept why = record {
  packets = packets_kept head 1 kept;
  passed = 0;
  fault = Some (record {
    cause = cause.Record why;
    number = 1 + length kept;
    byte = 24 + records_size kept;
  });
}

-- no more blocks, and perhaps a fault (own)
abbrev pub behind_blocks : PartCounts → Option BrokenBlock → Capture
behind_blocks counts None = ended
behind_blocks counts (Some why) = broken counts (cause.Block why.fault)

-- the capture in blocks, in a section with these interfaces and behind so many parts, with the
-- fault behind them; it ends earlier where what a block says is refused (own)
abbrev pub capture_in : List Interface → PartCounts → List Block → Option BrokenBlock → Capture
capture_in interfaces counts [] why = behind_blocks counts why
capture_in interfaces counts (b ∷ bs) why =
    capture_by counts (said_part b (block_said interfaces b)) (λ part.
    capture_in (interfaces_behind part.said interfaces) (further counts part) bs why)

-- the capture in the blocks of a file (own)
abbrev pub capture_in_blocks : Blocks → Capture
capture_in_blocks blocks = capture_in [] (record { packets = 0; parts = 0; bytes = 0 })
    blocks.list blocks.broken
