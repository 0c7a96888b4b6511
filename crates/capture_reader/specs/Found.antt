-- What a reading found, seen as the book says it (own).
use Rattle.std.specs.Prelude.{◌≡◌, ℕ, List, drop, slice_range, Result, Ok, Err}
use Rattle.book_captures.specs.Frames.{Layer, Datagram}
use Rattle.book_captures.specs.PcapFiles.{KeptPacket}
use Rattle.book_captures.specs.Blocks as blocks
use Rattle.capture_reader.specs.declared.blocks.Block.{Block}
use Rattle.capture_reader.specs.declared.pcap_files.Record.{Record}
use Rattle.book_captures.specs.BlockContents as contents
use Rattle.capture_reader.specs.declared.contents.Plain.{Plain}
use Rattle.capture_reader.specs.declared.contents.Stamped.{Stamped}
use Rattle.capture_reader.specs.declared.layers.Follows.{Follows}
use Rattle.capture_reader.specs.declared.frames.FoundDatagram.{FoundDatagram}

-- the answer, seen so, is what the reading gives
abbrev pub Gives : {X Y F : Type 0} → (X → Y) → Result X F → Result Y F → Type 0
Gives view (Ok x) reading = reading ≡ Ok (view x)
Gives view (Err e) reading = reading ≡ Err e

-- a value that is seen as it is
abbrev pub as_it_is : {X : Type 0} → X → X
as_it_is x = x

-- what follows the headers so far
abbrev pub layer : Follows → Layer
layer f = record { protocol = f.protocol; body = f.body.now }

-- the datagram at its place in a frame
abbrev pub seen : List ℕ → FoundDatagram → Datagram
seen frame d = record {
  version = d.version;
  bytes = slice_range frame d.first d.after;
  behind = drop d.after frame;
  extent = d.extent;
  no_length = d.no_length;
  no_checksum = d.no_checksum;
}

-- a packet of a record, without where it lies in memory
abbrev pub seen_record : Record → KeptPacket
seen_record r = record { time = r.time; original = r.original; bytes = r.bytes.now }

-- a block, without where it lies in memory
abbrev pub seen_block : Block → blocks.Block
seen_block b = record { order = b.order; kind = b.kind; body = b.body.now }

-- a packet of a block, without where it lies in memory
abbrev pub seen_stamped : Stamped → contents.Stamped
seen_stamped p = record {
  interface = p.interface;
  count = p.count;
  original = p.original;
  bytes = p.bytes.now;
}

-- a packet of a simple block, without where it lies in memory
abbrev pub seen_plain : Plain → contents.Unstamped
seen_plain p = record { original = p.original; bytes = p.bytes.now }
