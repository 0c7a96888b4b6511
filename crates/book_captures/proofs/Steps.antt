-- A capture, part by part.
use Rattle.std.proofs.Common.{◌≡◌, ℕ, zero, suc, ◌+◌, ◌-◌, ◌<◌, ◌≤◌, List, [], length, drop, Result, Ok, Err, refl, sym, ap, ◌∙◌, inl, inr, arith}
use Rattle.std.proofs.lemmas.Bool.{cases_eq, eq-eqb, ne_eqb}
use Rattle.std.proofs.lemmas.List.{length-drop}
use Rattle.book_captures.specs.declared.block_parts.BlockFault.{BlockFault}
use Rattle.book_captures.specs.declared.block_parts.BodyFault.{BodyFault}
use Rattle.book_captures.specs.declared.block_parts.Interface.{Interface}
use Rattle.book_captures.specs.declared.capture_parts.Cause.{Cause}
use Rattle.book_captures.specs.declared.capture_parts.Format.{Format}
use Rattle.book_captures.specs.declared.capture_parts.Format.TheVariants.{Pcap, Pcapng}
use Rattle.book_captures.specs.declared.pcap_head.PcapHead.{PcapHead}
use Rattle.book_captures.specs.declared.pcap_head.RecordFault.{RecordFault}
use Rattle.book_captures.specs.PcapFiles.{KeptPacket, pcap_record_at}
use Rattle.book_captures.specs.Blocks.{Block, block_at}
use Rattle.book_captures.specs.Parts.{PartSaid, block_said, FilePlace, Part, record_part, said_part, block_part, part_by, part_at, behind_part}
use Rattle.book_captures.specs.Captures.{Capture, PartCounts, further, with_said, ended, broken, capture_by, capture_from, capture_at}

pub same_part : (a b : Part) → ◌≡◌ {A = Result Part Cause} (Ok a) (Ok b) → a ≡ b
same_part a b e = cc

size_is : (a part : Part) (n : ℕ) → ◌≡◌ {A = Result Part Cause} (Ok a) (Ok part) → a.size ≡ suc n → 0 < part.size
size_is a part n e s = let same = ap (λ (p : Part). p.size) (same_part a part e) in omega arith

some_record : (head : PcapHead) (r : Result (KeptPacket × List ℕ) RecordFault) (part : Part) → record_part head r ≡ Ok part → 0 < part.size
some_record head (Err why) part e = absurd (cc)
some_record head (Ok front) part e = size_is _ part (15 + length front.0.bytes) e (omega arith)

some_said : (b : Block) (r : Result PartSaid BodyFault) (part : Part) → said_part b r ≡ Ok part → 0 < part.size
some_said b (Err why) part e = absurd (cc)
some_said b (Ok said) part e = size_is _ part (11 + length b.body) e (omega arith)

some_block : (interfaces : List Interface) (r : Result (Block × List ℕ) BlockFault) (part : Part) → block_part interfaces r ≡ Ok part → 0 < part.size
some_block interfaces (Err why) part e = absurd (cc)
some_block interfaces (Ok front) part e = some_said front.0 (block_said interfaces front.0) part e

some_by : (format : Format) (interfaces : List Interface) (text : List ℕ) (part : Part) → part_by format interfaces text ≡ Ok part → 0 < part.size
some_by (Pcap head) interfaces text part e = some_record head (pcap_record_at head text) part e
some_by (Pcapng section) interfaces text part e = some_block interfaces (block_at section text) part e

-- a part has a byte
pub part_some : (place : FilePlace) (text : List ℕ) (part : Part) → part_at place text ≡ Ok part → 0 < part.size
part_some place text part e = some_by place.format place.interfaces text part e

none_left : (k : ℕ) (place : FilePlace) (counts : PartCounts) (text : List ℕ) → length text ≡ 0 → capture_from k place counts text ≡ ended
unfolding capture_from
none_left zero place counts text none = refl
none_left (suc k) place counts text none = rw (eq-eqb (length text) 0 none) refl

pub one_more : (k : ℕ) (place : FilePlace) (counts : PartCounts) (text : List ℕ) → 0 < length text
    → capture_from (suc k) place counts text ≡ capture_by counts (part_at place text) (λ part. capture_from k (behind_part place part) (further counts part) (drop part.size text))
unfolding capture_from
one_more k place counts text some = rw (ne_eqb (length text) 0 (λ e. omega arith)) refl

-- the parts behind one are few enough
alike : (place : FilePlace) (counts : PartCounts) (text : List ℕ) (r : Result Part Cause) (f g : Part → Capture) → part_at place text ≡ r
    → ((part : Part) → 0 < part.size → f part ≡ g part) → capture_by counts r f ≡ capture_by counts r g
alike place counts text (Err why) f g e same = refl
alike place counts text (Ok part) f g e same = ap (with_said part.said counts.packets) (same part (part_some place text part e))

-- how many parts may be read doesn't matter, where they are enough
pub enough : (k m : ℕ) (place : FilePlace) (counts : PartCounts) (text : List ℕ) → length text ≤ k → length text ≤ m → capture_from k place counts text ≡ capture_from m place counts text
enough zero m place counts text le few = none_left zero place counts text (omega arith) ∙ sym (none_left m place counts text (omega arith))
enough (suc k) zero place counts text le few = none_left (suc k) place counts text (omega arith) ∙ sym (none_left zero place counts text (omega arith))
enough (suc k) (suc m) place counts text le few = elim (cases_eq (length text) 0) [
  | inl none ↦ none_left (suc k) place counts text none ∙ sym (none_left (suc m) place counts text none)
  | inr some ↦
      one_more k place counts text (omega arith)
      ∙ (alike place counts text (part_at place text)
      (λ part. capture_from k (behind_part place part) (further counts part) (drop part.size text))
      (λ part. capture_from m (behind_part place part) (further counts part) (drop part.size text)) refl
      (λ part positive. let size = length-drop part.size text in enough k m (behind_part place part) (further counts part) (drop part.size text) (omega arith) (omega arith))
      ∙ sym (one_more m place counts text (omega arith)))
]

-- nothing is left
pub capture_none : (place : FilePlace) (counts : PartCounts) → capture_at place counts [] ≡ ended
capture_none place counts = none_left 0 place counts [] refl

-- one part, and then the others
pub capture_step : (place : FilePlace) (counts : PartCounts) (text : List ℕ) → 0 < length text
    → capture_at place counts text ≡ capture_by counts (part_at place text) (λ part. capture_at (behind_part place part) (further counts part) (drop part.size text))
capture_step place counts text some =
    let k : ℕ = length text - 1 in
    let size : length text ≡ suc k = omega arith in
    ap (λ (n : ℕ). capture_from n place counts text) size
    ∙ (one_more k place counts text some
    ∙ alike place counts text (part_at place text)
    (λ part. capture_from k (behind_part place part) (further counts part) (drop part.size text))
    (λ part. capture_at (behind_part place part) (further counts part) (drop part.size text)) refl
    (λ part positive. let less = length-drop part.size text in enough k (length (drop part.size text)) (behind_part place part) (further counts part) (drop part.size text) (omega arith) (omega arith)))

-- the next part shows what it says
pub capture_part : (place : FilePlace) (counts : PartCounts) (text : List ℕ) (part : Part) → 0 < length text → part_at place text ≡ Ok part
    → capture_at place counts text ≡ with_said part.said counts.packets (capture_at (behind_part place part) (further counts part) (drop part.size text))
capture_part place counts text part some e =
    capture_step place counts text some
    ∙ ap (λ (r : Result Part Cause). capture_by counts r (λ (p : Part). capture_at (behind_part place p) (further counts p) (drop p.size text))) e

-- the next part is faulty
pub capture_faulty : (place : FilePlace) (counts : PartCounts) (text : List ℕ) (why : Cause) → 0 < length text → part_at place text ≡ Err why
    → capture_at place counts text ≡ broken counts why
capture_faulty place counts text why some e =
    capture_step place counts text some
    ∙ ap (λ (r : Result Part Cause). capture_by counts r (λ (p : Part). capture_at (behind_part place p) (further counts p) (drop p.size text))) e
