-- A block at the front is read by its grammar.
use Rattle.std.proofs.Common.{◌≡◌, ℕ, ◌-◌, ◌%◌, ◌==◌, ◌≤◌, Bool, true, false, List, ◌++◌, length, take, drop, nat_lt, Option, Some, None, Result, Ok, Err, if◌then◌else◌, refl, sym, ap, ◌∙◌, subst, arith}
use Rattle.std.proofs.lemmas.Bool.{le-ltb, ltb-false, eq-eqb, eqb-true}
use Rattle.std.proofs.lemmas.List.{length-append, length-drop, length-take-le, take-append-drop, take-append-le, take-take, drop_at, drop-append-le}
use Rattle.book_base.specs.Results.{◌>>=◌, or_fault}
use Rattle.book_pcap.specs.declared.pcap_head.ByteOrder.{ByteOrder}
use Rattle.book_pcap.specs.declared.pcap_head.ByteOrder.TheVariants.{Big, Little}
use Rattle.book_pcap.specs.Packets.{four_at}
use Rattle.book_captures.specs.declared.block_parts.BlockFault.{BlockFault}
use Rattle.book_captures.specs.declared.block_parts.BlockFault.TheVariants as fault
use Rattle.book_captures.specs.Blocks.{Block, section_header, byte_order_magic, order_at, length_fault, block_of_length, block_at, IsBlock}
use Rattle.book_captures.proofs.Fronts.{four_front}
use Rattle.book_base.proofs.ListLaws.{take_drop}

-- the order of a block, by the numbers that tell it
abbrev order_by : Option ByteOrder → (kind big little : ℕ) → Result ByteOrder BlockFault
order_by section kind big little = if kind == section_header
    then or_fault (if big == byte_order_magic then Some Big else if little == byte_order_magic then Some Little else None) fault.Order
    else or_fault section fault.NoSection

pub order_front : (section : Option ByteOrder) (xs ys : List ℕ) → 12 ≤ length xs → order_at section (xs ++ ys) ≡ order_at section xs
order_front section xs ys le =
    ap (λ (n : ℕ). order_by section n (four_at Big (xs ++ ys) 8) (four_at Little (xs ++ ys) 8)) (four_front Big xs ys 0 (omega arith))
    ∙ (ap (λ (n : ℕ). order_by section (four_at Big xs 0) n (four_at Little (xs ++ ys) 8)) (four_front Big xs ys 8 (omega arith))
    ∙ ap (λ (n : ℕ). order_by section (four_at Big xs 0) (four_at Big xs 8) n) (four_front Little xs ys 8 (omega arith)))

-- the block of this length
abbrev whole : ByteOrder → ℕ → List ℕ → Block
whole order len text = record { order = order; kind = four_at order text 0; body = take (len - 4 - 8) (drop 8 text) }

no_length_fault : (len : ℕ) → 12 ≤ len → len ≤ 16777216 → len % 4 ≡ 0 → length_fault len ≡ None
no_length_fault len least most aligned = rw (le-ltb len 12 least, le-ltb 16777216 len most, aligned) refl

block_whole : (order : ByteOrder) (len : ℕ) (text : List ℕ) → len ≤ length text → four_at order text (len - 4) ≡ len
    → block_of_length order len None text ≡ Ok (whole order len text, drop len text)
block_whole order len text all last = rw (le-ltb (length text) len all, eq-eqb (four_at order text (len - 4)) len last) refl

at_whole : (section : Option ByteOrder) (order : ByteOrder) (len : ℕ) (text : List ℕ) → order_at section text ≡ Ok order → four_at order text 4 ≡ len
    → 12 ≤ len → len ≤ 16777216 → len % 4 ≡ 0 → len ≤ length text → four_at order text (len - 4) ≡ len
    → block_at section text ≡ Ok (whole order len text, drop len text)
unfolding block_at
at_whole section order len text order_is len_is least most aligned all last =
    rw (le-ltb (length text) 12 (omega arith))
    (ap (λ (r : Result ByteOrder BlockFault). r >>= λ (o : ByteOrder). block_of_length o (four_at o text 4) (length_fault (four_at o text 4)) text) order_is
    ∙ (ap (λ (n : ℕ). block_of_length order n (length_fault n) text) len_is
    ∙ (ap (λ (f : Option BlockFault). block_of_length order len f text) (no_length_fault len least most aligned)
    ∙ block_whole order len text all last)))

same_block : (b : Block) (kind : ℕ) (body : List ℕ) → kind ≡ b.kind → body ≡ b.body → record { order = b.order; kind = kind; body = body } ≡ b
same_block b kind body e f =
    ap (λ (n : ℕ). record { order = b.order; kind = n; body = body }) e
    ∙ ap (λ (xs : List ℕ). record { order = b.order; kind = b.kind; body = xs }) f

pub block_read : (section : Option ByteOrder) (b : Block) (one rest : List ℕ) → IsBlock section b one → block_at section (one ++ rest) ≡ Ok (b, rest)
block_read section b one rest is =
    let least = is.least in
    let most = is.most in
    let size = length-append one rest in
    let len : ℕ = length one in
    let first : four_at b.order (one ++ rest) 4 ≡ length one = four_front b.order one rest 4 (omega arith) ∙ is.first_length in
    let last : four_at b.order (one ++ rest) (length one - 4) ≡ length one = four_front b.order one rest (length one - 4) (omega arith) ∙ is.last_length in
    let kind : four_at b.order (one ++ rest) 0 ≡ b.kind = four_front b.order one rest 0 (omega arith) ∙ is.kind in
    let behind = length-drop 8 one in
    let body : take (length one - 4 - 8) (drop 8 (one ++ rest)) ≡ b.body =
    ap (take (length one - 4 - 8)) (drop-append-le 8 one rest (omega arith))
    ∙ (take-append-le (length one - 4 - 8) (drop 8 one) rest (omega arith) ∙ is.body) in
    at_whole section b.order (length one) (one ++ rest) (order_front section one rest least ∙ is.order) first least most is.aligned (omega arith) last
    ∙ (ap (λ (x : Block). Ok (x, drop (length one) (one ++ rest))) (same_block b (four_at b.order (one ++ rest) 0) (take (length one - 4 - 8) (drop 8 (one ++ rest))) kind body)
    ∙ ap (λ (xs : List ℕ). Ok (b, xs)) (drop_at one rest (length one) refl))

-- a block at the front, as the grammar has it
pub record BlockFront (section : Option ByteOrder) (text : List ℕ) (b : Block) (rest : List ℕ) : Type 0 where
  pub one : List ℕ
  pub is : IsBlock section b one
  pub parts : text ≡ one ++ rest

front_whole : (section : Option ByteOrder) (order : ByteOrder) (len : ℕ) (text : List ℕ) → order_at section text ≡ Ok order → four_at order text 4 ≡ len
    → 12 ≤ len → len ≤ 16777216 → len % 4 ≡ 0 → len ≤ length text → four_at order text (len - 4) ≡ len
    → BlockFront section text (whole order len text) (drop len text)
front_whole section order len text order_is len_is least most aligned all last =
    let one : List ℕ = take len text in
    let rest : List ℕ = drop len text in
    let size : length (take len text) ≡ len = length-take-le len text all in
    let parts : take len text ++ drop len text ≡ text = take-append-drop len text in
    let told : order_at section (take len text) ≡ Ok order =
    sym (order_front section (take len text) (drop len text) (omega arith)) ∙ (ap (order_at section) parts ∙ order_is) in
    let kind : four_at order (take len text) 0 ≡ four_at order text 0 =
    sym (four_front order (take len text) (drop len text) 0 (omega arith)) ∙ ap (λ (xs : List ℕ). four_at order xs 0) parts in
    let first : four_at order (take len text) 4 ≡ len =
    sym (four_front order (take len text) (drop len text) 4 (omega arith)) ∙ (ap (λ (xs : List ℕ). four_at order xs 4) parts ∙ len_is) in
    let last_one : four_at order (take len text) (len - 4) ≡ len =
    sym (four_front order (take len text) (drop len text) (len - 4) (omega arith)) ∙ (ap (λ (xs : List ℕ). four_at order xs (len - 4)) parts ∙ last) in
    let inner : take (len - 4 - 8) (drop 8 (take len text)) ≡ take (len - 4 - 8) (drop 8 text) =
    ap (take (len - 4 - 8)) (take_drop len (len - 8) 8 text (omega arith)) ∙ take-take (len - 4 - 8) (len - 8) (drop 8 text) (omega arith) in
    record {
      one = take len text;
      is = record {
        order = told;
        kind = kind;
        first_length = first ∙ sym size;
        body = ap (λ (n : ℕ). take (n - 4 - 8) (drop 8 (take len text))) size ∙ inner;
        last_length = ap (λ (n : ℕ). four_at order (take len text) (n - 4)) size ∙ (last_one ∙ sym size);
        least = omega arith;
        most = omega arith;
        aligned = ap (λ (n : ℕ). n % 4) size ∙ aligned;
      };
      parts = sym parts;
    }

pair_parts : (a b : Block) (xs ys : List ℕ) → ◌≡◌ {A = Result (Block × List ℕ) BlockFault} (Ok (a, xs)) (Ok (b, ys)) → (a ≡ b) × (xs ≡ ys)
pair_parts a b xs ys e =
    let same : (a, xs) ≡ (b, ys) = cc in (ap (λ (p : Block × List ℕ). p.0) same, ap (λ (p : Block × List ℕ). p.1) same)

-- a total length that has no fault
record Sound (len : ℕ) : Type 0 where
  least : 12 ≤ len
  most : len ≤ 16777216
  aligned : len % 4 ≡ 0

sound_by : (low high even : Bool) (len : ℕ) → nat_lt len 12 ≡ low → nat_lt 16777216 len ≡ high → (len % 4 == 0) ≡ even
    → (if low then Some fault.Length else if high then Some fault.TooLong else if even then None else Some fault.Length) ≡ None → Sound len
sound_by true high even len l h a e = absurd (cc)
sound_by false true even len l h a e = absurd (cc)
sound_by false false true len l h a e = record { least = ltb-false len 12 l; most = ltb-false 16777216 len h; aligned = eqb-true (len % 4) 0 a }
sound_by false false false len l h a e = absurd (cc)

-- what is read of it
abbrev read_as : ByteOrder → ℕ → List ℕ → Result (Block × List ℕ) BlockFault
read_as order len text = Ok (whole order len text, drop len text)

ends_by : (short last : Bool) (section : Option ByteOrder) (order : ByteOrder) (len : ℕ) (text : List ℕ) (b : Block) (rest : List ℕ)
    → order_at section text ≡ Ok order → four_at order text 4 ≡ len → Sound len
    → nat_lt (length text) len ≡ short → (four_at order text (len - 4) == len) ≡ last
    → (if short then Err fault.Short else if last then read_as order len text else Err fault.Trailer) ≡ Ok (b, rest)
    → BlockFront section text b rest
ends_by true last section order len text b rest o n s a l e = absurd (cc)
ends_by false true section order len text b rest o n s a l e =
    let same = pair_parts (whole order len text) b (drop len text) rest e in
    let there = front_whole section order len text o n s.least s.most s.aligned (ltb-false (length text) len a) (eqb-true (four_at order text (len - 4)) len l) in
    subst (λ (x : Block). BlockFront section text x rest) same.0
    (subst (λ (xs : List ℕ). BlockFront section text (whole order len text) xs) same.1 there)
ends_by false false section order len text b rest o n s a l e = absurd (cc)

length_by : (f : Option BlockFault) (section : Option ByteOrder) (order : ByteOrder) (len : ℕ) (text : List ℕ) (b : Block) (rest : List ℕ)
    → order_at section text ≡ Ok order → four_at order text 4 ≡ len → length_fault len ≡ f
    → block_of_length order len f text ≡ Ok (b, rest) → BlockFront section text b rest
length_by (Some why) section order len text b rest o n f e = absurd (cc)
length_by None section order len text b rest o n f e =
    ends_by (nat_lt (length text) len) (four_at order text (len - 4) == len) section order len text b rest o n
    (sound_by (nat_lt len 12) (nat_lt 16777216 len) (len % 4 == 0) len refl refl refl f) refl refl e

read_by : (r : Result ByteOrder BlockFault) (section : Option ByteOrder) (text : List ℕ) (b : Block) (rest : List ℕ) → order_at section text ≡ r
    → (r >>= λ (o : ByteOrder). block_of_length o (four_at o text 4) (length_fault (four_at o text 4)) text) ≡ Ok (b, rest) → BlockFront section text b rest
read_by (Err why) section text b rest o e = absurd (cc)
read_by (Ok order) section text b rest o e =
    length_by (length_fault (four_at order text 4)) section order (four_at order text 4) text b rest o refl refl e

front_by : (short : Bool) (section : Option ByteOrder) (text : List ℕ) (b : Block) (rest : List ℕ) → nat_lt (length text) 12 ≡ short
    → (if short then Err fault.Short else (order_at section text >>= λ (o : ByteOrder). block_of_length o (four_at o text 4) (length_fault (four_at o text 4)) text)) ≡ Ok (b, rest)
    → BlockFront section text b rest
front_by true section text b rest s e = absurd (cc)
front_by false section text b rest s e = read_by (order_at section text) section text b rest refl e

pub block_found : (section : Option ByteOrder) (text : List ℕ) (b : Block) (rest : List ℕ) → block_at section text ≡ Ok (b, rest) → BlockFront section text b rest
unfolding block_at
block_found section text b rest e = front_by (nat_lt (length text) 12) section text b rest refl e
