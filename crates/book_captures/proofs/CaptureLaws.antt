-- A pcapng file is read by its grammar.
use Rattle.std.proofs.Common.{◌≡◌, ◌⊎◌, ℕ, zero, suc, ◌+◌, ◌-◌, ◌<◌, ◌≤◌, List, [], ◌∷◌, ◌++◌, length, drop, Option, Some, None, Result, Ok, Err, refl, sym, ap, ◌∙◌, subst, inl, inr, arith, append_assoc}
use Rattle.std.proofs.lemmas.Bool.{cases_eq, eq-eqb, ne_eqb}
use Rattle.std.proofs.lemmas.List.{length-append, append-nil, nil_from_length, length-drop, length-take-le}
use Rattle.book_pcap.specs.declared.pcap_head.ByteOrder.{ByteOrder}
use Rattle.book_captures.specs.declared.block_parts.BlockFault.{BlockFault}
use Rattle.book_captures.specs.Blocks.{Block, block_at, IsBlock}
use Rattle.book_captures.specs.PcapngFiles.{AreBlocks, section_behind, BrokenBlock, Blocks, with_block, block_length, blocks_by, blocks_from, blocks_of, EndsBroken}
use Rattle.book_captures.proofs.BlockLaws.{block_read, block_found}

-- a block has as many bytes as it says
pub block_size : (section : Option ByteOrder) (b : Block) (one : List ℕ) → IsBlock section b one → length one ≡ block_length b
block_size section b one is =
    let least = is.least in
    let inner = ap (λ (xs : List ℕ). length xs) is.body in
    let rest = length-drop 8 one in
    let size = length-take-le (length one - 4 - 8) (drop 8 one) (omega arith) in
    omega arith

none_left : (k : ℕ) (section : Option ByteOrder) (number byte : ℕ) (text : List ℕ) → length text ≡ 0 → blocks_from k section number byte text ≡ record { list = []; broken = None }
unfolding blocks_from
none_left zero section number byte text none = refl
none_left (suc k) section number byte text none = rw (eq-eqb (length text) 0 none) refl

one_more : (k : ℕ) (section : Option ByteOrder) (number byte : ℕ) (text : List ℕ) → 0 < length text
    → blocks_from (suc k) section number byte text ≡ blocks_by number byte (block_at section text) (blocks_from k)
unfolding blocks_from
one_more k section number byte text some = rw (ne_eqb (length text) 0 (λ e. omega arith)) refl

-- these blocks in front of others
abbrev in_front : List Block → Blocks → Blocks
in_front list others = record { list = list ++ others.list; broken = others.broken }

same_place : (k : ℕ) (section : Option ByteOrder) (a b c d : ℕ) (text : List ℕ) → a ≡ b → c ≡ d → blocks_from k section a c text ≡ blocks_from k section b d text
same_place k section a b c d text e f = ap (λ (n : ℕ). blocks_from k section n c text) e ∙ ap (λ (n : ℕ). blocks_from k section b n text) f

-- blocks in front of other bytes are read; enough may be read, and enough is left to read
record Through (k : ℕ) (section : Option ByteOrder) (number byte : ℕ) (list : List Block) (body tail : List ℕ) : Type 0 where
  left : ℕ
  enough : length tail ≤ left
  is : blocks_from k section number byte (body ++ tail) ≡ in_front list (blocks_from left (section_behind section list) (number + length list) (byte + length body) tail)

through : (list : List Block) (k : ℕ) (section : Option ByteOrder) (number byte : ℕ) (body tail : List ℕ) → length (body ++ tail) ≤ k → AreBlocks section list body
    → Through k section number byte list body tail
through [] k section number byte body tail le are =
    let none = ap (λ (xs : List ℕ). length xs) are in
    let size = length-append body tail in
    record {
      left = k;
      enough = omega arith;
      is = ap (λ (xs : List ℕ). blocks_from k section number byte (xs ++ tail)) are
          ∙ same_place k section number (number + 0) byte (byte + length body) tail (omega arith) (omega arith);
    }
through (b ∷ bs) zero section number byte body tail le are =
    let one = block_size section b are.0 are.2 in
    let size = length-append body tail in
    let parts = ap (λ (xs : List ℕ). length xs) are.4 ∙ length-append are.0 are.1 in
    absurd (omega arith)
through (b ∷ bs) (suc k) section number byte body tail le are =
    let one = block_size section b are.0 are.2 in
    let size = length-append body tail in
    let inner = length-append are.0 are.1 in
    let whole = ap (λ (xs : List ℕ). length xs) are.4 in
    let more = length-append are.1 tail in
    let all = length-append are.0 (are.1 ++ tail) in
    let parts : body ++ tail ≡ are.0 ++ (are.1 ++ tail) = ap (λ (xs : List ℕ). xs ++ tail) are.4 ∙ append_assoc are.0 are.1 tail in
    let rest = through bs k (Some b.order) (number + 1) (byte + block_length b) are.1 tail (omega arith) are.3 in
    let count : number + 1 + length bs ≡ number + suc (length bs) = omega arith in
    let place : byte + block_length b + length are.1 ≡ byte + length body = omega arith in
    record {
      left = rest.left;
      enough = rest.enough;
      is = ap (blocks_from (suc k) section number byte) parts
          ∙ (one_more k section number byte (are.0 ++ (are.1 ++ tail)) (omega arith)
          ∙ (ap (λ (r : Result (Block × List ℕ) BlockFault). blocks_by number byte r (blocks_from k)) (block_read section b are.0 (are.1 ++ tail) are.2)
          ∙ (ap (with_block b) rest.is
          ∙ ap (λ (others : Blocks). in_front (b ∷ bs) others) (same_place rest.left (section_behind (Some b.order) bs) (number + 1 + length bs) (number + suc (length bs)) (byte + block_length b + length are.1) (byte + length body) tail count place))));
    }

-- ---- any bytes are blocks, and then none or a fault

-- no block stands here
record Stuck (section : Option ByteOrder) (tail : List ℕ) : Type 0 where
  some : 0 < length tail
  fault : BlockFault
  is : block_at section tail ≡ Err fault

record Split (section : Option ByteOrder) (text : List ℕ) : Type 0 where
  list : List Block
  body : List ℕ
  tail : List ℕ
  are : AreBlocks section list body
  parts : text ≡ body ++ tail
  ends : (tail ≡ []) ⊎ Stuck (section_behind section list) tail

split_by : (r : Result (Block × List ℕ) BlockFault) (section : Option ByteOrder) (text : List ℕ) → block_at section text ≡ r → 0 < length text
    → ((b : Block) (rest : List ℕ) → length rest < length text → Split (Some b.order) rest) → Split section text
split_by (Err why) section text e some rests =
    record { list = []; body = []; tail = text; are = refl; parts = refl; ends = inr (record { some = some; fault = why; is = e }) }
split_by (Ok front) section text e some rests =
    let f = block_found section text front.0 front.1 e in
    let least = f.is.least in
    let size = ap (λ (xs : List ℕ). length xs) f.parts ∙ length-append f.one front.1 in
    let s = rests front.0 front.1 (omega arith) in
    record {
      list = front.0 ∷ s.list;
      body = f.one ++ s.body;
      tail = s.tail;
      are = (f.one, s.body, f.is, s.are, refl);
      parts = f.parts ∙ (ap (λ (xs : List ℕ). f.one ++ xs) s.parts ∙ sym (append_assoc f.one s.body s.tail));
      ends = s.ends;
    }

empty : (section : Option ByteOrder) (text : List ℕ) → length text ≡ 0 → Split section text
empty section text none = record { list = []; body = []; tail = []; are = refl; parts = nil_from_length text none; ends = inl refl }

split : (n : ℕ) (section : Option ByteOrder) (text : List ℕ) → length text ≤ n → Split section text
split zero section text le = empty section text (omega arith)
split (suc n) section text le = elim (cases_eq (length text) 0) [
  | inl none ↦ empty section text none
  | inr some ↦ split_by (block_at section text) section text refl (omega arith) (λ b rest less. split n (Some b.order) rest (omega arith))
]

-- ---- a file

at_stuck : (k : ℕ) (section : Option ByteOrder) (number byte : ℕ) (tail : List ℕ) (why : BlockFault) → 0 < length tail → length tail ≤ k
    → block_at section tail ≡ Err why → blocks_from k section number byte tail ≡ record { list = []; broken = Some (record { fault = why; number = number; byte = byte }) }
at_stuck zero section number byte tail why some le e = absurd (omega arith)
at_stuck (suc k) section number byte tail why some le e =
    one_more k section number byte tail some ∙ ap (λ (r : Result (Block × List ℕ) BlockFault). blocks_by number byte r (blocks_from k)) e

pub whole_is_read : (list : List Block) (file : List ℕ) → AreBlocks None list file → blocks_of file ≡ record { list = list; broken = None }
unfolding blocks_of
whole_is_read list file are =
    let size = length-append file [] in
    let t = through list (length file) None 1 0 file [] (omega arith) are in
    ap (blocks_from (length file) None 1 0) (sym (append-nil file))
    ∙ (t.is
    ∙ (ap (in_front list) (none_left t.left (section_behind None list) (1 + length list) (0 + length file) [] refl)
    ∙ ap (λ (bs : List Block). record { list = bs; broken = None }) (append-nil list)))

same_broken : (x : BrokenBlock) (number byte : ℕ) → number ≡ x.number → byte ≡ x.byte → record { fault = x.fault; number = number; byte = byte } ≡ x
same_broken x number byte e f =
    ap (λ (n : ℕ). record { fault = x.fault; number = n; byte = byte }) e ∙ ap (λ (n : ℕ). record { fault = x.fault; number = x.number; byte = n }) f

pub broken_is_read : (list : List Block) (broken : BrokenBlock) (file : List ℕ) → EndsBroken list broken file → blocks_of file ≡ record { list = list; broken = Some broken }
unfolding blocks_of
broken_is_read list broken file ends =
    let size = ap (λ (xs : List ℕ). length xs) ends.parts in
    let t = through list (length file) None 1 0 ends.body ends.tail (omega arith) ends.blocks in
    let place : 0 + length ends.body ≡ broken.byte = let is = ends.byte in omega arith in
    ap (blocks_from (length file) None 1 0) ends.parts
    ∙ (t.is
    ∙ (ap (in_front list) (at_stuck t.left (section_behind None list) (1 + length list) (0 + length ends.body) ends.tail broken.fault ends.some t.enough ends.fault)
    ∙ (ap (λ (bs : List Block). record { list = bs; broken = Some (record { fault = broken.fault; number = 1 + length list; byte = 0 + length ends.body }) }) (append-nil list)
    ∙ ap (λ (x : BrokenBlock). record { list = list; broken = Some x }) (same_broken broken (1 + length list) (0 + length ends.body) (sym ends.number) place))))

-- a file that is split so
blocks_alone : (file : List ℕ) (s : Split None file) → s.tail ≡ [] → AreBlocks None s.list file
blocks_alone file s none =
    subst (λ (xs : List ℕ). AreBlocks None s.list xs) (sym (s.parts ∙ (ap (λ (xs : List ℕ). s.body ++ xs) none ∙ append-nil s.body))) s.are

abbrev reason : (file : List ℕ) (s : Split None file) → Stuck (section_behind None s.list) s.tail → BrokenBlock
reason file s stuck = record { fault = stuck.fault; number = 1 + length s.list; byte = length s.body }

blocks_broken : (file : List ℕ) (s : Split None file) (stuck : Stuck (section_behind None s.list) s.tail) → EndsBroken s.list (reason file s stuck) file
blocks_broken file s stuck = record {
  body = s.body;
  tail = s.tail;
  parts = s.parts;
  blocks = s.are;
  some = stuck.some;
  fault = stuck.is;
  number = refl;
  byte = refl;
}

pub whole_read : (list : List Block) (file : List ℕ) → blocks_of file ≡ record { list = list; broken = None } → AreBlocks None list file
whole_read list file e =
    let s = split (length file) None file (omega arith) in
    elim s.ends [
      | inl none ↦
          let are = blocks_alone file s none in
          let same = sym (whole_is_read s.list file are) ∙ e in
          subst (λ (bs : List Block). AreBlocks None bs file) (ap (λ (x : Blocks). x.list) same) are
      | inr stuck ↦
          let same = sym (broken_is_read s.list (reason file s stuck) file (blocks_broken file s stuck)) ∙ e in
          let no = ap (λ (x : Blocks). x.broken) same in absurd (cc)
    ]

some_broken : (x y : BrokenBlock) → Some x ≡ Some y → x ≡ y
some_broken x y e = cc

pub broken_read : (list : List Block) (broken : BrokenBlock) (file : List ℕ) → blocks_of file ≡ record { list = list; broken = Some broken } → EndsBroken list broken file
broken_read list broken file e =
    let s = split (length file) None file (omega arith) in
    elim s.ends [
      | inl none ↦
          let same = sym (whole_is_read s.list file (blocks_alone file s none)) ∙ e in
          let no = ap (λ (x : Blocks). x.broken) same in absurd (cc)
      | inr stuck ↦
          let ends = blocks_broken file s stuck in
          let same = sym (broken_is_read s.list (reason file s stuck) file ends) ∙ e in
          let fault = some_broken (reason file s stuck) broken (ap (λ (x : Blocks). x.broken) same) in
          subst (λ (x : BrokenBlock). EndsBroken list x file) fault
          (subst (λ (bs : List Block). EndsBroken bs (reason file s stuck) file) (ap (λ (x : Blocks). x.list) same) ends)
    ]
