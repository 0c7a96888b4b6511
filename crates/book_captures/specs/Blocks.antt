-- The blocks of a pcapng file (draft-ietf-opsawg-pcapng).
use Rattle.std.specs.Prelude.{◌≡◌, ℕ, ◌-◌, ◌%◌, ◌==◌, ◌≤◌, nat_lt, List, drop, length, slice_range}
use Rattle.std.specs.Prelude.{Option, Some, None, Result, Ok, Err, if◌then◌else◌}
use Rattle.book_base.specs.Results.{◌>>=◌, or_fault}
use Rattle.book_pcap.specs.declared.pcap_head.ByteOrder.{ByteOrder}
use Rattle.book_pcap.specs.declared.pcap_head.ByteOrder.TheVariants.{Big, Little}
use Rattle.book_pcap.specs.Packets.{four_at}
use Rattle.book_captures.specs.declared.block_parts.BlockFault.{BlockFault}
use Rattle.book_captures.specs.declared.block_parts.BlockFault.TheVariants as fault

-- a block: the order of its numbers' bytes, its type, and what stands between its lengths (pcapng,
-- section 3.1)
pub record Block : Type 0 where
  pub order : ByteOrder
  pub kind : ℕ
  pub body : List ℕ

-- the type of the header of a section, in either order (pcapng, section 4.1)
abbrev pub section_header : ℕ
section_header = 0x0a0d0d0a

-- the number by which a section's header tells its order (pcapng, section 4.1)
abbrev pub byte_order_magic : ℕ
byte_order_magic = 0x1a2b3c4d

-- the order that the header of a section tells (pcapng, section 4.1)
abbrev pub told_order : List ℕ → Option ByteOrder
told_order text = if four_at Big text 8 == byte_order_magic then Some Big
    else if four_at Little text 8 == byte_order_magic then Some Little else None

-- the order of the block at the front, in a section of this order, if in one (pcapng, section 4.1)
abbrev pub order_at : Option ByteOrder → List ℕ → Result ByteOrder BlockFault
order_at section text = if four_at Big text 0 == section_header
    then or_fault (told_order text) fault.Order else or_fault section fault.NoSection

-- the most bytes that a block may have (own)
abbrev pub most_in_block : ℕ
most_in_block = 16777216

-- why a block has no such total length (pcapng, section 3.1)
abbrev pub length_fault : ℕ → Option BlockFault
length_fault len = if nat_lt len 12 then Some fault.Length
    else if nat_lt most_in_block len then Some fault.TooLong
    else if len % 4 == 0 then None else Some fault.Length

-- the block at the front with this total length, and the bytes behind it (pcapng, section 3.1)
abbrev pub block_of_length : ByteOrder → ℕ → Option BlockFault → List ℕ
    → Result (Block × List ℕ) BlockFault
block_of_length order len (Some why) text = Err why
block_of_length order len None text = if nat_lt (length text) len then Err fault.Short
    else if four_at order text (len - 4) == len
    then Ok (
      record {
        order = order;
        kind = four_at order text 0;
        body = slice_range text 8 (len - 4);
      },
      drop len text,
    )
    else Err fault.Trailer

-- the block at the front, in a section of this order, if in one, and the bytes behind it: its type
-- and its total length of four bytes each, its body, and the total length again (pcapng, section
-- 3.1)
unfoldable pub block_at : Option ByteOrder → List ℕ → Result (Block × List ℕ) BlockFault
block_at section text = if nat_lt (length text) 12 then Err fault.Short else (do
  order ← order_at section text
  let len = four_at order text 4 in block_of_length order len (length_fault len) text)

-- the bytes are this block, in a section of this order, if in one (pcapng, section 3.1)
pub record IsBlock (section : Option ByteOrder) (block : Block) (bytes : List ℕ) : Type 0 where
  pub order : order_at section bytes ≡ Ok block.order
  pub kind : four_at block.order bytes 0 ≡ block.kind
  pub first_length : four_at block.order bytes 4 ≡ length bytes
  pub body : slice_range bytes 8 (length bytes - 4) ≡ block.body
  pub last_length : four_at block.order bytes (length bytes - 4) ≡ length bytes
  pub least : 12 ≤ length bytes
  pub most : length bytes ≤ most_in_block
  pub aligned : length bytes % 4 ≡ 0
