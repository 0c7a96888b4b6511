-- What stands at the front of a file stays there, whatever follows.
use Rattle.std.proofs.Common.{◌≡◌, ℕ, ◌+◌, ◌-◌, ◌%◌, ◌<◌, ◌≤◌, ◌==◌, Bool, true, false, List, [], ◌++◌, length, take, drop, nat_lt, Option, Some, None, Result, Ok, Err, if◌then◌else◌, refl, sym, ap, ◌∙◌, subst, arith, append_assoc}
use Rattle.std.proofs.lemmas.Bool.{lt-ltb, le-ltb, ltb-false, ltb-true, ne_eqb}
use Rattle.std.proofs.lemmas.List.{length-append, length-drop, drop-append-le, take-append-le}
use Rattle.book_pcap.specs.declared.pcap_head.ByteOrder.{ByteOrder}
use Rattle.book_pcap.specs.declared.pcap_head.ByteOrder.TheVariants.{Big, Little}
use Rattle.book_pcap.specs.Packets.{two_at, four_at}
use Rattle.book_captures.specs.declared.block_parts.BlockFault.{BlockFault}
use Rattle.book_captures.specs.declared.block_parts.BlockFault.TheVariants as block_fault
use Rattle.book_captures.specs.declared.block_parts.BodyFault.{BodyFault}
use Rattle.book_captures.specs.declared.block_parts.Interface.{Interface}
use Rattle.book_captures.specs.declared.capture_parts.Cause.{Cause}
use Rattle.book_captures.specs.declared.capture_parts.Cause.TheVariants as cause
use Rattle.book_captures.specs.declared.capture_parts.Format.{Format}
use Rattle.book_captures.specs.declared.capture_parts.Format.TheVariants.{Pcap, Pcapng}
use Rattle.book_captures.specs.declared.pcap_head.PcapHead.{PcapHead}
use Rattle.book_captures.specs.declared.pcap_head.PcapHeadFault.{PcapHeadFault}
use Rattle.book_captures.specs.declared.pcap_head.PcapHeadFault.TheVariants as head_fault
use Rattle.book_captures.specs.declared.pcap_head.RecordFault.{RecordFault}
use Rattle.book_captures.specs.declared.pcap_head.RecordFault.TheVariants as record_fault
use Rattle.book_captures.specs.declared.pcap_head.Resolution.{Resolution}
use Rattle.book_captures.specs.declared.pcap_head.Resolution.TheVariants.{Microseconds, Nanoseconds}
use Rattle.book_captures.specs.PcapFiles.{record_of_length, pcap_magic, resolution_by, head_by, head_for, pcap_head, KeptPacket, pcap_record_at}
use Rattle.book_captures.specs.Blocks.{Block, order_at, length_fault, block_of_length, block_at}
use Rattle.book_captures.specs.PcapngFiles.{block_length}
use Rattle.book_captures.specs.Parts.{PartSaid, Part, record_part, said_part, block_said, block_part, part_by, OpenedFile, is_pcapng, behind_head, capture_opened}
use Rattle.book_captures.proofs.Fronts.{two_front, four_front}
use Rattle.book_captures.proofs.BlockLaws.{order_front, block_read, block_found}
use Rattle.book_captures.proofs.CaptureLaws.{block_size as block_bytes}
use Rattle.book_captures.proofs.RecordLaws.{record_read, record_found}
use Rattle.book_captures.proofs.Steps.{same_part}
use Rattle.capture_reader.specs.Sizes.{needed, head_length, short_of, record_size, size_unless, block_size, size_in, told_size}

-- ---- a total length that isn't refused

length_by : (low high even : Bool) (len : ℕ) → nat_lt len 12 ≡ low → nat_lt 16777216 len ≡ high
    → (if low then Some block_fault.Length else if high then Some block_fault.TooLong else if even then None else Some block_fault.Length) ≡ None → (12 ≤ len) × (len ≤ 16777216)
length_by true high even len l h e = absurd (cc)
length_by false true even len l h e = absurd (cc)
length_by false false true len l h e = (ltb-false len 12 l, ltb-false 16777216 len h)
length_by false false false len l h e = absurd (cc)

lengths : (len : ℕ) → length_fault len ≡ None → (12 ≤ len) × (len ≤ 16777216)
lengths len e = length_by (nat_lt len 12) (nat_lt 16777216 len) (len % 4 == 0) len refl refl e

pub least_length : (len : ℕ) → None ≡ length_fault len → 12 ≤ len
least_length len e = (lengths len (sym e)).0

pub most_length : (len : ℕ) → None ≡ length_fault len → len ≤ 16777216
most_length len e = (lengths len (sym e)).1

-- ---- too few bytes

record_few : (head : PcapHead) (text : List ℕ) → length text < 16 → pcap_record_at head text ≡ Err record_fault.Short
unfolding pcap_record_at
record_few head text lt = rw (lt-ltb (length text) 16 lt) refl

block_few : (section : Option ByteOrder) (text : List ℕ) → length text < 12 → block_at section text ≡ Err block_fault.Short
unfolding block_at
block_few section text lt = rw (lt-ltb (length text) 12 lt) refl

pub front_short : (format : Format) (interfaces : List Interface) (text : List ℕ) → length text < head_length format → part_by format interfaces text ≡ Err (short_of format)
front_short (Pcap head) interfaces text lt = ap (record_part head) (record_few head text lt)
front_short (Pcapng section) interfaces text lt = ap (block_part interfaces) (block_few section text lt)

-- ---- what the first bytes of a record say

same_why : (a b : Cause) → ◌≡◌ {A = Result ℕ Cause} (Err a) (Err b) → a ≡ b
same_why a b e = cc

-- a part that isn't there for this reason
abbrev failed : Cause → Result Part Cause
failed why = Err why

-- a size and a part that aren't there for one reason
as_part : (a b : Cause) → ◌≡◌ {A = Result ℕ Cause} (Err a) (Err b) → failed a ≡ failed b
as_part a b e = ap failed (same_why a b e)

record_by : (over part : Bool) (head : PcapHead) (len : ℕ) (text : List ℕ) (why : Cause) → nat_lt 262144 len ≡ over
    → record_size len ≡ Err why → record_part head (record_of_length head len text) ≡ Err why
record_by true part head len text why o e = rw o (as_part (cause.Record record_fault.TooLong) why (rw o at e))
record_by false part head len text why o e = let bad = rw o at e in absurd (cc)

record_long : (head : PcapHead) (text : List ℕ) → 16 ≤ length text → pcap_record_at head text ≡ record_of_length head (four_at head.order text 8) text
unfolding pcap_record_at
record_long head text le = rw (le-ltb (length text) 16 le) refl

record_refused : (head : PcapHead) (text : List ℕ) (why : Cause) → 16 ≤ length text → record_size (four_at head.order text 8) ≡ Err why → record_part head (pcap_record_at head text) ≡ Err why
record_refused head text why le e = ap (record_part head) (record_long head text le) ∙ record_by (nat_lt 262144 (four_at head.order text 8)) true head (four_at head.order text 8) text why refl e

same_size : (a b : ℕ) → ◌≡◌ {A = Result ℕ Cause} (Ok a) (Ok b) → a ≡ b
same_size a b e = cc

part_of_by : (over : Bool) (head : PcapHead) (len n : ℕ) (text : List ℕ) → nat_lt 262144 len ≡ over
    → record_size len ≡ Ok n → length text < n → record_part head (record_of_length head len text) ≡ Err (cause.Record record_fault.Short)
part_of_by true head len n text o e lt = let bad = rw o at e in absurd (cc)
part_of_by false head len n text o e lt =
    let same : 16 + len ≡ n = same_size (16 + len) n (rw o at e) in
    rw (o, lt-ltb (length text) (16 + len) (omega arith)) refl

record_less : (head : PcapHead) (n : ℕ) (text : List ℕ) → 16 ≤ length text → record_size (four_at head.order text 8) ≡ Ok n → length text < n
    → record_part head (pcap_record_at head text) ≡ Err (cause.Record record_fault.Short)
record_less head n text le e lt = ap (record_part head) (record_long head text le) ∙ part_of_by (nat_lt 262144 (four_at head.order text 8)) head (four_at head.order text 8) n text refl e lt

-- ---- what the first bytes of a block say

block_long : (section : Option ByteOrder) (text : List ℕ) (order : ByteOrder) → 12 ≤ length text → order_at section text ≡ Ok order
    → block_at section text ≡ block_of_length order (four_at order text 4) (length_fault (four_at order text 4)) text
unfolding block_at
block_long section text order le e = rw (le-ltb (length text) 12 le, e) refl

block_unordered : (section : Option ByteOrder) (text : List ℕ) (why : BlockFault) → 12 ≤ length text → order_at section text ≡ Err why → block_at section text ≡ Err why
unfolding block_at
block_unordered section text why le e = rw (le-ltb (length text) 12 le, e) refl

refused_by_length : (f : Option BlockFault) (interfaces : List Interface) (order : ByteOrder) (len : ℕ) (text : List ℕ) (why : Cause)
    → size_unless f len ≡ Err why → block_part interfaces (block_of_length order len f text) ≡ Err why
refused_by_length (Some fault) interfaces order len text why e = as_part (cause.Block fault) why e
refused_by_length None interfaces order len text why e = absurd (cc)

refused_by_order : (r : Result ByteOrder BlockFault) (section : Option ByteOrder) (interfaces : List Interface) (text : List ℕ) (why : Cause) → 12 ≤ length text → order_at section text ≡ r
    → size_in r text ≡ Err why → block_part interfaces (block_at section text) ≡ Err why
refused_by_order (Err fault) section interfaces text why le o e = ap (block_part interfaces) (block_unordered section text fault le o) ∙ as_part (cause.Block fault) why e
refused_by_order (Ok order) section interfaces text why le o e =
    ap (block_part interfaces) (block_long section text order le o)
    ∙ refused_by_length (length_fault (four_at order text 4)) interfaces order (four_at order text 4) text why e

less_by_length : (f : Option BlockFault) (interfaces : List Interface) (order : ByteOrder) (len n : ℕ) (text : List ℕ)
    → size_unless f len ≡ Ok n → length text < n → block_part interfaces (block_of_length order len f text) ≡ Err (cause.Block block_fault.Short)
less_by_length (Some fault) interfaces order len n text e lt = absurd (cc)
less_by_length None interfaces order len n text e lt =
    let same : len ≡ n = same_size len n e in rw (lt-ltb (length text) len (omega arith)) refl

less_by_order : (r : Result ByteOrder BlockFault) (section : Option ByteOrder) (interfaces : List Interface) (n : ℕ) (text : List ℕ) → 12 ≤ length text → order_at section text ≡ r
    → size_in r text ≡ Ok n → length text < n → block_part interfaces (block_at section text) ≡ Err (cause.Block block_fault.Short)
less_by_order (Err fault) section interfaces n text le o e lt = absurd (cc)
less_by_order (Ok order) section interfaces n text le o e lt =
    ap (block_part interfaces) (block_long section text order le o)
    ∙ less_by_length (length_fault (four_at order text 4)) interfaces order (four_at order text 4) n text e lt

-- a part that is refused by its first bytes
pub front_refused : (format : Format) (interfaces : List Interface) (text : List ℕ) (why : Cause) → head_length format ≤ length text → told_size format text ≡ Err why
    → part_by format interfaces text ≡ Err why
front_refused (Pcap head) interfaces text why le e = record_refused head text why le e
front_refused (Pcapng section) interfaces text why le e = refused_by_order (order_at section text) section interfaces text why le refl e

-- a part that isn't all there
pub front_less : (format : Format) (interfaces : List Interface) (n : ℕ) (text : List ℕ) → head_length format ≤ length text → told_size format text ≡ Ok n → length text < n
    → part_by format interfaces text ≡ Err (short_of format)
front_less (Pcap head) interfaces n text le e lt = record_less head n text le e lt
front_less (Pcapng section) interfaces n text le e lt = less_by_order (order_at section text) section interfaces n text le refl e lt

size_in_stays : (r : Result ByteOrder BlockFault) (text more : List ℕ) → 12 ≤ length text → size_in r (text ++ more) ≡ size_in r text
size_in_stays (Err fault) text more le = refl
size_in_stays (Ok order) text more le = ap block_size (four_front order text more 4 (omega arith))

-- the size stays told
pub size_stays : (format : Format) (text more : List ℕ) → head_length format ≤ length text → told_size format (text ++ more) ≡ told_size format text
size_stays (Pcap head) text more le = ap record_size (four_front head.order text more 8 (omega arith))
size_stays (Pcapng section) text more le =
    ap (λ (r : Result ByteOrder BlockFault). size_in r (text ++ more)) (order_front section text more le) ∙ size_in_stays (order_at section text) text more le

-- ---- a part that is all there

-- a part at the front, which is the same in front of any bytes
pub record Fronts (format : Format) (interfaces : List Interface) (text : List ℕ) (part : Part) : Type 0 where
  pub one : List ℕ
  pub rest : List ℕ
  pub split : text ≡ one ++ rest
  pub size : length one ≡ part.size
  pub least : head_length format ≤ part.size
  pub stays : (more : List ℕ) → part_by format interfaces (one ++ more) ≡ Ok part

record_fronts : (r : Result (KeptPacket × List ℕ) RecordFault) (head : PcapHead) (interfaces : List Interface) (text : List ℕ) (part : Part) → pcap_record_at head text ≡ r
    → record_part head r ≡ Ok part → Fronts (Pcap head) interfaces text part
record_fronts (Err why) head interfaces text part r e = absurd (cc)
record_fronts (Ok front) head interfaces text part r e =
    let f = record_found head text front.0 front.1 r in
    let same = ap (λ (p : Part). p.size) (same_part _ part e) in
    record {
      one = f.one;
      rest = front.1;
      split = f.parts;
      size = f.is.whole ∙ same;
      least = omega arith;
      stays = λ more. ap (record_part head) (record_read head front.0 f.one more f.is) ∙ e;
    }

said_size : (b : Block) (r : Result PartSaid BodyFault) (part : Part) → said_part b r ≡ Ok part → block_length b ≡ part.size
said_size b (Err why) part e = absurd (cc)
said_size b (Ok said) part e = ap (λ (p : Part). p.size) (same_part _ part e)

block_fronts : (r : Result (Block × List ℕ) BlockFault) (section : Option ByteOrder) (interfaces : List Interface) (text : List ℕ) (part : Part) → block_at section text ≡ r
    → block_part interfaces r ≡ Ok part → Fronts (Pcapng section) interfaces text part
block_fronts (Err why) section interfaces text part r e = absurd (cc)
block_fronts (Ok front) section interfaces text part r e =
    let f = block_found section text front.0 front.1 r in
    let same = said_size front.0 (block_said interfaces front.0) part e in
    record {
      one = f.one;
      rest = front.1;
      split = f.parts;
      size = block_bytes section front.0 f.one f.is ∙ same;
      least = omega arith;
      stays = λ more. ap (block_part interfaces) (block_read section front.0 f.one more f.is) ∙ e;
    }

pub part_fronts : (format : Format) (interfaces : List Interface) (text : List ℕ) (part : Part) → part_by format interfaces text ≡ Ok part → Fronts format interfaces text part
part_fronts (Pcap head) interfaces text part e = record_fronts (pcap_record_at head text) head interfaces text part refl e
part_fronts (Pcapng section) interfaces text part e = block_fronts (block_at section text) section interfaces text part refl e

-- ---- a part that is refused, but all there

-- the part is one, or refused at its end
abbrev trailer_by : Bool → List Interface → ByteOrder → ℕ → List ℕ → Result Part Cause
trailer_by true interfaces order kind body =
    let b : Block = record { order = order; kind = kind; body = body } in said_part b (block_said interfaces b)
trailer_by false interfaces order kind body = Err (cause.Block block_fault.Trailer)

trailer_is : (right : Bool) (interfaces : List Interface) (order : ByteOrder) (len : ℕ) (text : List ℕ) → (four_at order text (len - 4) == len) ≡ right → len ≤ length text
    → block_part interfaces (block_of_length order len None text) ≡ trailer_by right interfaces order (four_at order text 0) (take (len - 4 - 8) (drop 8 text))
trailer_is true interfaces order len text r le = rw (le-ltb (length text) len le, r) refl
trailer_is false interfaces order len text r le = rw (le-ltb (length text) len le, r) refl

block_stays_by : (f : Option BlockFault) (interfaces : List Interface) (order : ByteOrder) (len n : ℕ) (text more : List ℕ) → length_fault len ≡ f → size_unless f len ≡ Ok n → n ≤ length text
    → block_part interfaces (block_of_length order len f (text ++ more)) ≡ block_part interfaces (block_of_length order len f text)
block_stays_by (Some fault) interfaces order len n text more f e le = absurd (cc)
block_stays_by None interfaces order len n text more f e le =
    let same : len ≡ n = same_size len n e in
    let bounds = lengths len f in
    let least = bounds.0 in
    let all : len ≤ length text = omega arith in
    let size = length-append text more in
    let right : Bool = four_at order text (len - 4) == len in
    let last : (four_at order (text ++ more) (len - 4) == len) ≡ right = ap (λ (x : ℕ). x == len) (four_front order text more (len - 4) (omega arith)) in
    let kind : four_at order (text ++ more) 0 ≡ four_at order text 0 = four_front order text more 0 (omega arith) in
    let behind = length-drop 8 text in
    let body : take (len - 4 - 8) (drop 8 (text ++ more)) ≡ take (len - 4 - 8) (drop 8 text) =
    ap (take (len - 4 - 8)) (drop-append-le 8 text more (omega arith)) ∙ take-append-le (len - 4 - 8) (drop 8 text) more (omega arith) in
    trailer_is right interfaces order len (text ++ more) last (omega arith)
    ∙ (ap (λ (k : ℕ). trailer_by right interfaces order k (take (len - 4 - 8) (drop 8 (text ++ more)))) kind
    ∙ (ap (trailer_by right interfaces order (four_at order text 0)) body
    ∙ sym (trailer_is right interfaces order len text refl all)))

block_stays : (r : Result ByteOrder BlockFault) (section : Option ByteOrder) (interfaces : List Interface) (n : ℕ) (text more : List ℕ) → 12 ≤ length text → order_at section text ≡ r → size_in r text ≡ Ok n → n ≤ length text
    → block_part interfaces (block_at section (text ++ more)) ≡ block_part interfaces (block_at section text)
block_stays (Err fault) section interfaces n text more least o e le = absurd (cc)
block_stays (Ok order) section interfaces n text more least o e le =
    let size = length-append text more in
    let first : four_at order (text ++ more) 4 ≡ four_at order text 4 = four_front order text more 4 (omega arith) in
    ap (block_part interfaces) (block_long section (text ++ more) order (omega arith) (order_front section text more least ∙ o))
    ∙ (ap (λ (len : ℕ). block_part interfaces (block_of_length order len (length_fault len) (text ++ more))) first
    ∙ (block_stays_by (length_fault (four_at order text 4)) interfaces order (four_at order text 4) n text more refl e le
    ∙ sym (ap (block_part interfaces) (block_long section text order least o))))

whole_by : (over : Bool) (head : PcapHead) (len n : ℕ) (text : List ℕ) (why : Cause) → nat_lt 262144 len ≡ over → record_size len ≡ Ok n → n ≤ length text
    → record_part head (record_of_length head len text) ≡ Err why → ⊥
whole_by true head len n text why o e le refused = let bad = rw o at e in absurd (cc)
whole_by false head len n text why o e le refused =
    let same : 16 + len ≡ n = same_size (16 + len) n (rw o at e) in
    let bad = rw (o, le-ltb (length text) (16 + len) (omega arith)) at refused in absurd (cc)

-- a part that is all there and refused
pub front_faulty : (format : Format) (interfaces : List Interface) (n : ℕ) (text more : List ℕ) (why : Cause) → head_length format ≤ length text → told_size format text ≡ Ok n → n ≤ length text
    → part_by format interfaces text ≡ Err why → part_by format interfaces (text ++ more) ≡ Err why
front_faulty (Pcap head) interfaces n text more why least e le refused =
    absurd (whole_by (nat_lt 262144 (four_at head.order text 8)) head (four_at head.order text 8) n text why refl e le (sym (ap (record_part head) (record_long head text least)) ∙ refused))
front_faulty (Pcapng section) interfaces n text more why least e le refused = block_stays (order_at section text) section interfaces n text more least refl e le ∙ refused

-- ---- how a file begins

magic_front : (order : ByteOrder) (a more : List ℕ) → 4 ≤ length a → resolution_by order (a ++ more) ≡ resolution_by order a
magic_front order a more le =
    ap (λ (n : ℕ). if n == pcap_magic Microseconds then Some Microseconds else if n == pcap_magic Nanoseconds then Some Nanoseconds else None) (four_front order a more 0 (omega arith))

head_by_front : (order : ByteOrder) (resolution : Resolution) (a more : List ℕ) → 24 ≤ length a → head_by order resolution (a ++ more) ≡ head_by order resolution a
head_by_front order resolution a more le =
    rw (two_front order a more 4 (omega arith), two_front order a more 6 (omega arith), four_front order a more 20 (omega arith)) refl

head_for_front : (big little : Option Resolution) (a more : List ℕ) → 24 ≤ length a → head_for big little (a ++ more) ≡ head_for big little a
head_for_front (Some r) little a more le = head_by_front Big r a more le
head_for_front None (Some r) a more le = head_by_front Little r a more le
head_for_front None None a more le = refl

head_long : (file : List ℕ) → 24 ≤ length file → pcap_head file ≡ head_for (resolution_by Big file) (resolution_by Little file) file
unfolding pcap_head
head_long file le = rw (le-ltb (length file) 24 le) refl

head_front : (a more : List ℕ) → 24 ≤ length a → pcap_head (a ++ more) ≡ pcap_head a
head_front a more le =
    let size = length-append a more in
    head_long (a ++ more) (omega arith)
    ∙ (ap (λ (r : Option Resolution). head_for r (resolution_by Little (a ++ more)) (a ++ more)) (magic_front Big a more (omega arith))
    ∙ (ap (λ (r : Option Resolution). head_for (resolution_by Big a) r (a ++ more)) (magic_front Little a more (omega arith))
    ∙ (head_for_front (resolution_by Big a) (resolution_by Little a) a more le
    ∙ sym (head_long a le))))

section_front : (a more : List ℕ) → 4 ≤ length a → is_pcapng (a ++ more) ≡ is_pcapng a
section_front a more le = ap (λ (n : ℕ). n == 168627466) (four_front Big a more 0 (omega arith))

-- how a pcapng file begins
abbrev section_opened : OpenedFile
section_opened = record { place = record { format = Pcapng None; interfaces = [] }; size = 0 }

opened_is : (file : List ℕ) → capture_opened file ≡ (if is_pcapng file then Ok section_opened else behind_head (pcap_head file))
unfolding capture_opened
opened_is file = refl

same_front : (a b : OpenedFile) → ◌≡◌ {A = Result OpenedFile Cause} (Ok a) (Ok b) → a ≡ b
same_front a b e = cc

need_of : (a b : OpenedFile) (n : ℕ) → a ≡ b → needed b.place.format ≤ n → needed a.place.format ≤ n
need_of a b n e le = subst (λ (x : OpenedFile). needed x.place.format ≤ n) (sym e) le

classic_stays : (r : Result PcapHead PcapHeadFault) (a b more : List ℕ) (front : OpenedFile) → pcap_head (a ++ b) ≡ r → behind_head r ≡ Ok front → needed front.place.format ≤ length a
    → is_pcapng (a ++ b) ≡ false → (if is_pcapng (a ++ more) then Ok section_opened else behind_head (pcap_head (a ++ more))) ≡ Ok front
classic_stays (Err why) a b more front h e le no_section = absurd (cc)
classic_stays (Ok head) a b more front h e le no_section =
    let long : 24 ≤ length a = need_of (record { place = record { format = Pcap head; interfaces = [] }; size = 24 }) front (length a) (same_front _ front e) le in
    let none : is_pcapng (a ++ more) ≡ false = section_front a more (omega arith) ∙ (sym (section_front a b (omega arith)) ∙ no_section) in
    let same : pcap_head (a ++ more) ≡ Ok head = head_front a more long ∙ (sym (head_front a b long) ∙ h) in
    rw (none, same) e

stays_by : (ng : Bool) (a b more : List ℕ) (front : OpenedFile) → is_pcapng (a ++ b) ≡ ng → (if ng then Ok section_opened else behind_head (pcap_head (a ++ b))) ≡ Ok front → needed front.place.format ≤ length a
    → (if is_pcapng (a ++ more) then Ok section_opened else behind_head (pcap_head (a ++ more))) ≡ Ok front
stays_by true a b more front s e le =
    let long : 4 ≤ length a = need_of section_opened front (length a) (same_front section_opened front e) le in
    let is : is_pcapng (a ++ more) ≡ true = section_front a more long ∙ (sym (section_front a b long) ∙ s) in
    rw is e
stays_by false a b more front s e le = classic_stays (pcap_head (a ++ b)) a b more front refl e le s

-- a file begins so, whatever stands behind the bytes that show it
pub opened_stays : (a b more : List ℕ) (front : OpenedFile) → capture_opened (a ++ b) ≡ Ok front → needed front.place.format ≤ length a → capture_opened (a ++ more) ≡ Ok front
opened_stays a b more front e le = opened_is (a ++ more) ∙ stays_by (is_pcapng (a ++ b)) a b more front refl (sym (opened_is (a ++ b)) ∙ e) le

refused_stays : (ng : Bool) (a more : List ℕ) (why : Cause) → is_pcapng a ≡ ng → (if ng then Ok section_opened else behind_head (pcap_head a)) ≡ Err why → 24 ≤ length a
    → (if is_pcapng (a ++ more) then Ok section_opened else behind_head (pcap_head (a ++ more))) ≡ Err why
refused_stays true a more why s e le = absurd (cc)
refused_stays false a more why s e le =
    let none : is_pcapng (a ++ more) ≡ false = section_front a more (omega arith) ∙ s in
    rw (none, head_front a more le) e

-- a header that is all there and refused
pub unopened_stays : (a more : List ℕ) (why : Cause) → capture_opened a ≡ Err why → 24 ≤ length a → capture_opened (a ++ more) ≡ Err why
unopened_stays a more why e le = opened_is (a ++ more) ∙ refused_stays (is_pcapng a) a more why refl (sym (opened_is a) ∙ e) le

needs_head : (r : Result PcapHead PcapHeadFault) (front : OpenedFile) → behind_head r ≡ Ok front → needed front.place.format ≤ front.size + 4
needs_head (Err why) front e = absurd (cc)
needs_head (Ok head) front e =
    let one : OpenedFile = record { place = record { format = Pcap head; interfaces = [] }; size = 24 } in
    subst (λ (x : OpenedFile). needed x.place.format ≤ x.size + 4) (same_front one front e) (omega arith)

needs_by : (ng : Bool) (file : List ℕ) (front : OpenedFile) → (if ng then Ok section_opened else behind_head (pcap_head file)) ≡ Ok front → needed front.place.format ≤ front.size + 4
needs_by true file front e = subst (λ (x : OpenedFile). needed x.place.format ≤ x.size + 4) (same_front section_opened front e) (omega arith)
needs_by false file front e = needs_head (pcap_head file) front e

-- a front and four bytes show the format
pub opened_needs : (file : List ℕ) (front : OpenedFile) → capture_opened file ≡ Ok front → needed front.place.format ≤ front.size + 4
opened_needs file front e = needs_by (is_pcapng file) file front (sym (opened_is file) ∙ e)
