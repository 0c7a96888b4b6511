-- The capture in a pcapng file is the one in its blocks.
use Rattle.std.proofs.Common.{◌≡◌, ℕ, zero, suc, ◌+◌, ◌==◌, Bool, true, false, List, [], length, drop, Option, Some, None, Result, Ok, Err, if◌then◌else◌, refl, ap, ◌∙◌}
use Rattle.std.proofs.lemmas.List.{drop_at}
use Rattle.book_pcap.specs.declared.pcap_head.ByteOrder.{ByteOrder}
use Rattle.book_captures.specs.declared.block_parts.BlockFault.{BlockFault}
use Rattle.book_captures.specs.declared.block_parts.BodyFault.{BodyFault}
use Rattle.book_captures.specs.declared.block_parts.Interface.{Interface}
use Rattle.book_captures.specs.declared.capture_parts.Cause.{Cause}
use Rattle.book_captures.specs.declared.capture_parts.Format.TheVariants.{Pcapng}
use Rattle.book_captures.specs.Blocks.{Block, block_at}
use Rattle.book_captures.specs.PcapngFiles.{Blocks, block_length, blocks_by, blocks_from, blocks_of}
use Rattle.book_captures.specs.Parts.{PartSaid, block_said, Part, said_part, block_part, interfaces_behind, OpenedFile, capture_opened, is_pcapng}
use Rattle.book_captures.specs.Captures.{PartCounts, further, with_said, ended, capture_by, capture_from, capture_behind, capture_of}
use Rattle.book_captures.specs.WholeFiles.{capture_in, capture_in_blocks}
use Rattle.book_captures.proofs.BlockLaws.{block_found}
use Rattle.book_captures.proofs.CaptureLaws.{block_size}

-- behind a block stand the bytes that were read behind it
past_block : (section : Option ByteOrder) (text : List ℕ) (b : Block) (rest : List ℕ) → block_at section text ≡ Ok (b, rest) → drop (block_length b) text ≡ rest
past_block section text b rest e =
    let f = block_found section text b rest e in
    ap (drop (block_length b)) f.parts ∙ drop_at f.one rest (block_length b) (block_size section b f.one f.is)

-- blocks in a section with these interfaces and behind so many parts, as the file has them and as they are listed
abbrev Alike : ℕ → Option ByteOrder → List Interface → PartCounts → (number byte : ℕ) → List ℕ → Type 0
Alike k section interfaces counts number byte text =
    capture_from k (record { format = Pcapng section; interfaces = interfaces }) counts text
    ≡ capture_in interfaces counts (blocks_from k section number byte text).list (blocks_from k section number byte text).broken

by_said : (k : ℕ) (interfaces : List Interface) (counts : PartCounts) (text : List ℕ) (b : Block) (bs : Blocks) (r : Result PartSaid BodyFault)
    → ((said : PartSaid) → capture_from k (record { format = Pcapng (Some b.order); interfaces = interfaces_behind said interfaces })
    (further counts (record { said = said; format = Pcapng (Some b.order); size = block_length b })) (drop (block_length b) text)
    ≡ capture_in (interfaces_behind said interfaces) (further counts (record { said = said; format = Pcapng (Some b.order); size = block_length b })) bs.list bs.broken)
    → capture_by counts (said_part b r) (λ part. capture_from k (record { format = part.format; interfaces = interfaces_behind part.said interfaces }) (further counts part) (drop part.size text))
    ≡ capture_by counts (said_part b r) (λ part. capture_in (interfaces_behind part.said interfaces) (further counts part) bs.list bs.broken)
by_said k interfaces counts text b bs (Err why) others = refl
by_said k interfaces counts text b bs (Ok said) others = ap (with_said said counts.packets) (others said)

by_block : (k : ℕ) (section : Option ByteOrder) (interfaces : List Interface) (counts : PartCounts) (number byte : ℕ) (text : List ℕ) (r : Result (Block × List ℕ) BlockFault)
    → block_at section text ≡ r
    → ((order : ByteOrder) (known : List Interface) (c : PartCounts) (n at : ℕ) (rest : List ℕ) → Alike k (Some order) known c n at rest)
    → capture_by counts (block_part interfaces r) (λ part. capture_from k (record { format = part.format; interfaces = interfaces_behind part.said interfaces }) (further counts part) (drop part.size text))
    ≡ capture_in interfaces counts (blocks_by number byte r (blocks_from k)).list (blocks_by number byte r (blocks_from k)).broken
by_block k section interfaces counts number byte text (Err why) e others = refl
by_block k section interfaces counts number byte text (Ok front) e others =
    by_said k interfaces counts text front.0 (blocks_from k (Some front.0.order) (number + 1) (byte + block_length front.0) front.1) (block_said interfaces front.0)
    (λ said. let part : Part = record { said = said; format = Pcapng (Some front.0.order); size = block_length front.0 } in
    ap (λ (xs : List ℕ). capture_from k (record { format = Pcapng (Some front.0.order); interfaces = interfaces_behind said interfaces }) (further counts part) xs) (past_block section text front.0 front.1 e)
    ∙ others front.0.order (interfaces_behind said interfaces) (further counts part) (number + 1) (byte + block_length front.0) front.1)

by_empty : (empty : Bool) (k : ℕ) (section : Option ByteOrder) (interfaces : List Interface) (counts : PartCounts) (number byte : ℕ) (text : List ℕ)
    → ((order : ByteOrder) (known : List Interface) (c : PartCounts) (n at : ℕ) (rest : List ℕ) → Alike k (Some order) known c n at rest)
    → (if empty then ended else capture_by counts (block_part interfaces (block_at section text)) (λ part. capture_from k (record { format = part.format; interfaces = interfaces_behind part.said interfaces }) (further counts part) (drop part.size text)))
    ≡ capture_in interfaces counts (if empty then record { list = []; broken = None } else blocks_by number byte (block_at section text) (blocks_from k)).list
    (if empty then record { list = []; broken = None } else blocks_by number byte (block_at section text) (blocks_from k)).broken
by_empty true k section interfaces counts number byte text others = refl
by_empty false k section interfaces counts number byte text others = by_block k section interfaces counts number byte text (block_at section text) refl others

alike : (k : ℕ) (section : Option ByteOrder) (interfaces : List Interface) (counts : PartCounts) (number byte : ℕ) (text : List ℕ) → Alike k section interfaces counts number byte text
unfolding capture_from blocks_from
alike zero section interfaces counts number byte text = refl
alike (suc k) section interfaces counts number byte text =
    by_empty (length text == 0) k section interfaces counts number byte text (λ order known c n at rest. alike k (Some order) known c n at rest)

opens : (ng : Bool) (file : List ℕ) → is_pcapng file ≡ ng → ng ≡ true → capture_opened file ≡ Ok (record { place = record { format = Pcapng None; interfaces = [] }; size = 0 })
unfolding capture_opened
opens true file e t = rw e refl
opens false file e t = absurd (cc)

pub in_blocks : (file : List ℕ) → is_pcapng file ≡ true → capture_of file ≡ capture_in_blocks (blocks_of file)
unfolding capture_of blocks_of
in_blocks file e =
    ap (λ (r : Result OpenedFile Cause). capture_behind r file) (opens true file e refl)
    ∙ alike (length file) None [] (record { packets = 0; parts = 0; bytes = 0 }) 1 0 file
