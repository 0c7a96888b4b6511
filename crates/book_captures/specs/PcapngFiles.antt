-- A pcapng file as its blocks, one after another (draft-ietf-opsawg-pcapng).
use Rattle.std.specs.Prelude.{◌≡◌, ℕ, zero, suc, ◌+◌, ◌<◌, ◌==◌, List, [], ◌∷◌, ◌++◌, length}
use Rattle.std.specs.Prelude.{Option, Some, None, Result, Ok, Err, if◌then◌else◌}
use Rattle.book_pcap.specs.declared.pcap_head.ByteOrder.{ByteOrder}
use Rattle.book_captures.specs.declared.block_parts.BlockFault.{BlockFault}
use Rattle.book_captures.specs.Blocks.{Block, block_at, IsBlock}

-- the bytes are these blocks, in a section of this order, if in one: behind a block stands one of
-- the same order, or the header of another section (pcapng, section 3.1)
abbrev pub AreBlocks : Option ByteOrder → List Block → List ℕ → Type 0
AreBlocks section [] bytes = bytes ≡ []
AreBlocks section (b ∷ bs) bytes = (one : List ℕ) × (others : List ℕ)
    × IsBlock section b one × AreBlocks (Some b.order) bs others × (bytes ≡ one ++ others)

-- the order of the section behind blocks, if in one (own)
abbrev pub section_behind : Option ByteOrder → List Block → Option ByteOrder
section_behind section [] = section
section_behind section (b ∷ bs) = section_behind (Some b.order) bs

-- why blocks end: a fault, with the number of the block that has it, from 1 on, and of its first
-- byte in the file, from 0 on (own)
pub record BrokenBlock : Type 0 where
  pub fault : BlockFault
  pub number : ℕ
  pub byte : ℕ

-- the blocks up to the first fault, and that fault (own)
pub record Blocks : Type 0 where
  pub list : List Block
  pub broken : Option BrokenBlock

-- a block in front of others (own)
abbrev pub with_block : Block → Blocks → Blocks
with_block b others = record { list = b ∷ others.list; broken = others.broken }

-- how many bytes a block has (pcapng, section 3.1)
abbrev pub block_length : Block → ℕ
block_length b = 12 + length b.body

-- the blocks of bytes of which this is read at the front, the first of this number and at this
-- byte, where those of what follows are known (own)
abbrev pub blocks_by : (number byte : ℕ) → Result (Block × List ℕ) BlockFault
    → (Option ByteOrder → (number byte : ℕ) → List ℕ → Blocks) → Blocks
blocks_by number byte (Err why) others =
    record { list = []; broken = Some (record { fault = why; number = number; byte = byte }) }
blocks_by number byte (Ok front) others = with_block front.0
    (others (Some front.0.order) (number + 1) (byte + block_length front.0) front.1)

-- the blocks of these bytes, in a section of this order, if in one, the first of this number and at
-- this byte; the first argument bounds how many there are (own)
unfoldable pub blocks_from : ℕ → Option ByteOrder → (number byte : ℕ) → List ℕ → Blocks
blocks_from zero section number byte text = record { list = []; broken = None }
blocks_from (suc k) section number byte text = if length text == 0
    then record { list = []; broken = None }
    else blocks_by number byte (block_at section text) (blocks_from k)

-- the blocks of a file up to the first fault, and that fault (own)
unfoldable pub blocks_of : List ℕ → Blocks
blocks_of file = blocks_from (length file) None 1 0 file

-- the file is these blocks, and then bytes that don't begin with one, for this reason (own)
pub record EndsBroken (list : List Block) (broken : BrokenBlock) (file : List ℕ) : Type 0 where
  pub body : List ℕ
  pub tail : List ℕ
  pub parts : file ≡ body ++ tail
  pub blocks : AreBlocks None list body
  pub some : 0 < length tail
  pub fault : block_at (section_behind None list) tail ≡ Err broken.fault
  pub number : broken.number ≡ 1 + length list
  pub byte : broken.byte ≡ length body
