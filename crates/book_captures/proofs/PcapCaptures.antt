-- The capture in a classic pcap file is read by the file's grammar.
use Rattle.std.proofs.Common.{◌≡◌, ◌⊎◌, ℕ, zero, suc, ◌+◌, ◌%◌, ◌<◌, ◌≤◌, ◌==◌, ◌&&◌, Bool, true, false, List, [], ◌∷◌, ◌++◌, length, take, drop, nat_lt, Option, Some, None, Result, Ok, Err, if◌then◌else◌, refl, sym, ap, ◌∙◌, subst, inl, inr, arith, append_assoc}
use Rattle.std.specs.Prelude.{slice_index}
use Rattle.std.specs.List.{All}
use Rattle.std.proofs.lemmas.Bool.{cases_eq, cases_lt, le-ltb, ltb-false, eq-eqb, ne_eqb, eqb-true}
use Rattle.std.proofs.lemmas.List.{length-append, append-nil, nil_from_length, drop_at, take-append-drop, length-take-le, get_or_past}
use Rattle.std.proofs.lemmas.List.Elements.{All-get_or}
use Rattle.book_pcap.specs.declared.pcap_head.ByteOrder.{ByteOrder}
use Rattle.book_pcap.specs.declared.pcap_head.ByteOrder.TheVariants.{Big, Little}
use Rattle.book_pcap.specs.Packets.{two_at, four_at}
use Rattle.book_captures.specs.declared.capture_parts.CaptureFault.{CaptureFault}
use Rattle.book_captures.specs.declared.capture_parts.Cause.{Cause}
use Rattle.book_captures.specs.declared.capture_parts.Cause.TheVariants as cause
use Rattle.book_captures.specs.declared.capture_parts.Format.TheVariants.{Pcap}
use Rattle.book_captures.specs.declared.pcap_head.PcapHead.{PcapHead}
use Rattle.book_captures.specs.declared.pcap_head.PcapHeadFault.{PcapHeadFault}
use Rattle.book_captures.specs.declared.pcap_head.PcapHeadFault.TheVariants as head_fault
use Rattle.book_captures.specs.declared.pcap_head.RecordFault.{RecordFault}
use Rattle.book_captures.specs.declared.pcap_head.Resolution.{Resolution}
use Rattle.book_captures.specs.declared.pcap_head.Resolution.TheVariants.{Microseconds, Nanoseconds}
use Rattle.book_captures.specs.PcapFiles.{pcap_magic, resolution_by, head_for, pcap_head, IsPcapHead, KeptPacket, pcap_record_at, ArePcapRecords, IsPcapFile}
use Rattle.book_captures.specs.Parts.{Shows, FilePlace, Part, record_part, part_at, capture_opened, is_pcapng}
use Rattle.book_captures.specs.Captures.{CapturePacket, Capture, PartCounts, further, with_said, capture_at, capture_of}
use Rattle.book_captures.specs.WholeFiles.{packets_kept, records_size, capture_kept, capture_broken}
use Rattle.book_captures.proofs.Fronts.{two_front, four_front}
use Rattle.book_captures.proofs.RecordLaws.{record_read, record_found}
use Rattle.book_captures.proofs.Steps.{capture_none, capture_part, capture_faulty}

-- ---- records in front of other bytes

-- where the reading of records stands
abbrev among : PcapHead → FilePlace
among head = record { format = Pcap head; interfaces = [] }

-- behind records that keep these packets
abbrev past : PartCounts → List KeptPacket → PartCounts
past c ks = record { packets = c.packets + length ks; parts = c.parts + length ks; bytes = c.bytes + records_size ks }

abbrev in_front : List CapturePacket → Capture → Capture
in_front packets others = record { packets = packets ++ others.packets; passed = others.passed; fault = others.fault }

same_counts : (head : PcapHead) (text : List ℕ) (a b : PartCounts) → a.packets ≡ b.packets → a.parts ≡ b.parts → a.bytes ≡ b.bytes
    → capture_at (among head) a text ≡ capture_at (among head) b text
same_counts head text a b e f g =
    ap (λ (n : ℕ). capture_at (among head) (record { packets = n; parts = a.parts; bytes = a.bytes }) text) e
    ∙ (ap (λ (n : ℕ). capture_at (among head) (record { packets = b.packets; parts = n; bytes = a.bytes }) text) f
    ∙ ap (λ (n : ℕ). capture_at (among head) (record { packets = b.packets; parts = b.parts; bytes = n }) text) g)

-- the part that a record is
abbrev part_of : PcapHead → KeptPacket → Part
part_of head k = record {
  said = Shows (record { time = Some k.time; link = head.link; original = k.original; bytes = k.bytes });
  format = Pcap head;
  size = 16 + length k.bytes;
}

same_packets : (head : PcapHead) (a b : ℕ) (ks : List KeptPacket) → a ≡ b → packets_kept head a ks ≡ packets_kept head b ks
same_packets head a b ks e = ap (λ (n : ℕ). packets_kept head n ks) e

pub through : (ks : List KeptPacket) (head : PcapHead) (c : PartCounts) (body tail : List ℕ) → ArePcapRecords head ks body
    → capture_at (among head) c (body ++ tail) ≡ in_front (packets_kept head (c.packets + 1) ks) (capture_at (among head) (past c ks) tail)
through [] head c body tail are =
    ap (λ (xs : List ℕ). capture_at (among head) c (xs ++ tail)) are
    ∙ same_counts head tail c (past c []) (omega arith) (omega arith) (omega arith)
through (k ∷ ks) head c body tail are =
    let one : List ℕ = are.0 in
    let others : List ℕ = are.1 in
    let long = are.2.whole in
    let size = length-append one (others ++ tail) in
    let parts : body ++ tail ≡ one ++ (others ++ tail) = ap (λ (xs : List ℕ). xs ++ tail) are.4 ∙ append_assoc one others tail in
    let is : part_at (among head) (one ++ (others ++ tail)) ≡ Ok (part_of head k) = ap (record_part head) (record_read head k one (others ++ tail) are.2) in
    let left : drop (16 + length k.bytes) (one ++ (others ++ tail)) ≡ others ++ tail = drop_at one (others ++ tail) (16 + length k.bytes) (long) in
    let next : PartCounts = further c (part_of head k) in
    let more = through ks head next others tail are.3 in
    let there = same_counts head tail (past next ks) (past c (k ∷ ks)) (omega arith) (omega arith) (omega arith) in
    ap (capture_at (among head) c) parts
    ∙ (capture_part (among head) c (one ++ (others ++ tail)) (part_of head k) (omega arith) is
    ∙ (ap (λ (xs : List ℕ). with_said (part_of head k).said c.packets (capture_at (among head) next xs)) left
    ∙ (ap (with_said (part_of head k).said c.packets) more
    ∙ ap (λ (x : Capture). with_said (part_of head k).said c.packets (in_front (packets_kept head (c.packets + 1 + 1) ks) x)) there)))

-- ---- any bytes are records, and then none or a fault

record Stuck (head : PcapHead) (tail : List ℕ) : Type 0 where
  some : 0 < length tail
  fault : RecordFault
  is : pcap_record_at head tail ≡ Err fault

record Split (head : PcapHead) (text : List ℕ) : Type 0 where
  list : List KeptPacket
  body : List ℕ
  tail : List ℕ
  are : ArePcapRecords head list body
  parts : text ≡ body ++ tail
  ends : (tail ≡ []) ⊎ Stuck head tail

split_by : (r : Result (KeptPacket × List ℕ) RecordFault) (head : PcapHead) (text : List ℕ) → pcap_record_at head text ≡ r → 0 < length text
    → ((rest : List ℕ) → length rest < length text → Split head rest) → Split head text
split_by (Err why) head text e some rests =
    record { list = []; body = []; tail = text; are = refl; parts = refl; ends = inr (record { some = some; fault = why; is = e }) }
split_by (Ok front) head text e some rests =
    let f = record_found head text front.0 front.1 e in
    let long = f.is.whole in
    let size = ap (λ (xs : List ℕ). length xs) f.parts ∙ length-append f.one front.1 in
    let s = rests front.1 (omega arith) in
    record {
      list = front.0 ∷ s.list;
      body = f.one ++ s.body;
      tail = s.tail;
      are = (f.one, s.body, f.is, s.are, refl);
      parts = f.parts ∙ (ap (λ (xs : List ℕ). f.one ++ xs) s.parts ∙ sym (append_assoc f.one s.body s.tail));
      ends = s.ends;
    }

empty : (head : PcapHead) (text : List ℕ) → length text ≡ 0 → Split head text
empty head text none = record { list = []; body = []; tail = []; are = refl; parts = nil_from_length text none; ends = inl refl }

split : (n : ℕ) (head : PcapHead) (text : List ℕ) → length text ≤ n → Split head text
split zero head text le = empty head text (omega arith)
split (suc n) head text le = elim (cases_eq (length text) 0) [
  | inl none ↦ empty head text none
  | inr some ↦ split_by (pcap_record_at head text) head text refl (omega arith) (λ rest less. split n head rest (omega arith))
]

-- ---- headers

-- the file begins with a header that says this
pub record Heads (head : PcapHead) (file : List ℕ) : Type 0 where
  pub long : 24 ≤ length file
  pub magic_number : four_at head.order file 0 ≡ pcap_magic head.resolution
  pub major : two_at head.order file 4 ≡ 2
  pub minor : two_at head.order file 6 ≡ 4
  pub link : four_at head.order file 20 % 65536 ≡ head.link
  pub no_block : is_pcapng file ≡ false
  pub says : pcap_head file ≡ Ok head

same_head : (a b : PcapHead) → ◌≡◌ {A = Result PcapHead PcapHeadFault} (Ok a) (Ok b) → a ≡ b
same_head a b e = cc

both_true : (a b : Bool) → (a && b) ≡ true → (a ≡ true) × (b ≡ true)
both_true true true e = (refl, refl)
both_true true false e = absurd (cc)
both_true false b e = absurd (cc)

-- what a header of this order and resolution that is read has
record Says (order : ByteOrder) (resolution : Resolution) (file : List ℕ) (head : PcapHead) : Type 0 where
  major : two_at order file 4 ≡ 2
  minor : two_at order file 6 ≡ 4
  is : record { order = order; resolution = resolution; link = four_at order file 20 % 65536 } ≡ head

version_by : (right : Bool) (order : ByteOrder) (resolution : Resolution) (file : List ℕ) (head : PcapHead) → ((two_at order file 4 == 2) && (two_at order file 6 == 4)) ≡ right
    → (if right then Ok (record { order = order; resolution = resolution; link = four_at order file 20 % 65536 }) else Err head_fault.Version) ≡ Ok head
    → Says order resolution file head
version_by true order resolution file head r e =
    let two = both_true (two_at order file 4 == 2) (two_at order file 6 == 4) r in
    record { major = eqb-true (two_at order file 4) 2 two.0; minor = eqb-true (two_at order file 6) 4 two.1; is = same_head _ head e }
version_by false order resolution file head r e = absurd (cc)

magic_by : (micro nano : Bool) (order : ByteOrder) (file : List ℕ) (resolution : Resolution) → (four_at order file 0 == pcap_magic Microseconds) ≡ micro → (four_at order file 0 == pcap_magic Nanoseconds) ≡ nano
    → (if micro then Some Microseconds else if nano then Some Nanoseconds else None) ≡ Some resolution → four_at order file 0 ≡ pcap_magic resolution
magic_by true nano order file resolution m n e = let is : Microseconds ≡ resolution = cc in eqb-true (four_at order file 0) (pcap_magic Microseconds) m ∙ ap pcap_magic is
magic_by false true order file resolution m n e = let is : Nanoseconds ≡ resolution = cc in eqb-true (four_at order file 0) (pcap_magic Nanoseconds) n ∙ ap pcap_magic is
magic_by false false order file resolution m n e = absurd (cc)

magic_is : (order : ByteOrder) (file : List ℕ) (resolution : Resolution) → resolution_by order file ≡ Some resolution → four_at order file 0 ≡ pcap_magic resolution
magic_is order file resolution e = magic_by (four_at order file 0 == pcap_magic Microseconds) (four_at order file 0 == pcap_magic Nanoseconds) order file resolution refl refl e

-- a header that is read
record Read (file : List ℕ) (head : PcapHead) : Type 0 where
  long : 24 ≤ length file
  order : ByteOrder
  resolution : Resolution
  magic_number : four_at order file 0 ≡ pcap_magic resolution
  says : Says order resolution file head

order_by : (big little : Option Resolution) (file : List ℕ) (head : PcapHead) → 24 ≤ length file → resolution_by Big file ≡ big → resolution_by Little file ≡ little
    → head_for big little file ≡ Ok head → Read file head
order_by (Some r) little file head long b l e = record {
  long = long;
  order = Big;
  resolution = r;
  magic_number = magic_is Big file r b;
  says = version_by ((two_at Big file 4 == 2) && (two_at Big file 6 == 4)) Big r file head refl e;
}
order_by None (Some r) file head long b l e = record {
  long = long;
  order = Little;
  resolution = r;
  magic_number = magic_is Little file r l;
  says = version_by ((two_at Little file 4 == 2) && (two_at Little file 6 == 4)) Little r file head refl e;
}
order_by None None file head long b l e = absurd (cc)

length_by : (short : Bool) (file : List ℕ) (head : PcapHead) → nat_lt (length file) 24 ≡ short
    → (if short then Err head_fault.Short else head_for (resolution_by Big file) (resolution_by Little file) file) ≡ Ok head → Read file head
length_by true file head s e = absurd (cc)
length_by false file head s e = order_by (resolution_by Big file) (resolution_by Little file) file head (ltb-false (length file) 24 s) refl refl e

head_read : (file : List ℕ) (head : PcapHead) → pcap_head file ≡ Ok head → Read file head
unfolding pcap_head
head_read file head e = length_by (nat_lt (length file) 24) file head refl e

-- its first 24 bytes are a header
header_of : (file : List ℕ) (head : PcapHead) → pcap_head file ≡ Ok head → IsPcapHead head (take 24 file) × (24 ≤ length file)
header_of file head e =
    let r = head_read file head e in
    let long = r.long in
    let front : List ℕ = take 24 file in
    let rest : List ℕ = drop 24 file in
    let size : length (take 24 file) ≡ 24 = length-take-le 24 file r.long in
    let parts : take 24 file ++ drop 24 file ≡ file = take-append-drop 24 file in
    let made : PcapHead = record { order = r.order; resolution = r.resolution; link = four_at r.order file 20 % 65536 } in
    let link : four_at r.order (take 24 file) 20 ≡ four_at r.order file 20 = sym (four_front r.order (take 24 file) (drop 24 file) 20 (omega arith)) ∙ ap (λ (xs : List ℕ). four_at r.order xs 20) parts in
    let is : IsPcapHead made (take 24 file) = record {
      magic_number = sym (four_front r.order (take 24 file) (drop 24 file) 0 (omega arith)) ∙ (ap (λ (xs : List ℕ). four_at r.order xs 0) parts ∙ r.magic_number);
      major_version = sym (two_front r.order (take 24 file) (drop 24 file) 4 (omega arith)) ∙ (ap (λ (xs : List ℕ). two_at r.order xs 4) parts ∙ r.says.major);
      minor_version = sym (two_front r.order (take 24 file) (drop 24 file) 6 (omega arith)) ∙ (ap (λ (xs : List ℕ). two_at r.order xs 6) parts ∙ r.says.minor);
      link_type = ap (λ (n : ℕ). n % 65536) link;
      whole = size;
    } in
    (subst (λ (h : PcapHead). IsPcapHead h (take 24 file)) r.says.is is, long)

-- ---- what a header of bytes is read as

record LowBytes (file : List ℕ) : Type 0 where
  low : (i : ℕ) → slice_index file i < 256

low_bytes : (file : List ℕ) → All (λ b. b < 256) file → LowBytes file
low_bytes file all = record {
  low = λ i. elim (cases_lt i (length file)) [
    | inl within ↦ All-get_or (λ b. b < 256) file i 0 within all
    | inr over ↦ rw (get_or_past file i 0 over) (omega arith)
  ];
}

-- a number that is magic in one order of bytes is not one of these in the other
not_both : (file : List ℕ) (m n : ℕ) → LowBytes file → four_at Little file 0 ≡ m → four_at Big file 0 ≡ n
    → (n ≡ 2712847316) ⊎ ((n ≡ 2712812621) ⊎ (n ≡ 168627466)) → (m ≡ 2712847316) ⊎ (m ≡ 2712812621) → ⊥
not_both file m n bytes little big is one =
    let a = bytes.low 0 in let b = bytes.low 1 in let c = bytes.low 2 in let d = bytes.low 3 in
    elim one [
      | inl micro ↦ elim is [ inl x ↦ omega arith | inr y ↦ elim y [ inl x ↦ omega arith | inr x ↦ omega arith ] ]
      | inr nano ↦ elim is [ inl x ↦ omega arith | inr y ↦ elim y [ inl x ↦ omega arith | inr x ↦ omega arith ] ]
    ]

-- ---- a file with a header

told_micro : (order : ByteOrder) (file : List ℕ) → four_at order file 0 ≡ pcap_magic Microseconds → resolution_by order file ≡ Some Microseconds
told_micro order file e = rw (eq-eqb (four_at order file 0) (pcap_magic Microseconds) e) refl

told_nano : (order : ByteOrder) (file : List ℕ) → four_at order file 0 ≡ pcap_magic Nanoseconds → resolution_by order file ≡ Some Nanoseconds
told_nano order file e = rw (ne_eqb (four_at order file 0) (pcap_magic Microseconds) (λ m. omega arith), eq-eqb (four_at order file 0) (pcap_magic Nanoseconds) e) refl

told : (resolution : Resolution) (order : ByteOrder) (file : List ℕ) → four_at order file 0 ≡ pcap_magic resolution → resolution_by order file ≡ Some resolution
told Microseconds order file e = told_micro order file e
told Nanoseconds order file e = told_nano order file e

untold : (order : ByteOrder) (file : List ℕ) → (four_at order file 0 ≡ pcap_magic Microseconds → ⊥) → (four_at order file 0 ≡ pcap_magic Nanoseconds → ⊥) → resolution_by order file ≡ None
untold order file m n = rw (ne_eqb (four_at order file 0) (pcap_magic Microseconds) m, ne_eqb (four_at order file 0) (pcap_magic Nanoseconds) n) refl

is_magic : (resolution : Resolution) → (pcap_magic resolution ≡ 2712847316) ⊎ (pcap_magic resolution ≡ 2712812621)
is_magic Microseconds = inl refl
is_magic Nanoseconds = inr refl

-- no file with a header is a pcapng file, and a header in low bytes first is none in high bytes first
no_block : (order : ByteOrder) (resolution : Resolution) (file : List ℕ) → LowBytes file → four_at order file 0 ≡ pcap_magic resolution → is_pcapng file ≡ false
no_block Big resolution file bytes e = ne_eqb (four_at Big file 0) 168627466 (λ b. elim (is_magic resolution) [ inl m ↦ omega arith | inr n ↦ omega arith ])
no_block Little resolution file bytes e = ne_eqb (four_at Big file 0) 168627466 (λ b. not_both file (pcap_magic resolution) 168627466 bytes e b (inr (inr refl)) (is_magic resolution))

read_as : (order : ByteOrder) (resolution : Resolution) (file : List ℕ) → 24 ≤ length file → LowBytes file → four_at order file 0 ≡ pcap_magic resolution
    → two_at order file 4 ≡ 2 → two_at order file 6 ≡ 4 → pcap_head file ≡ Ok (record { order = order; resolution = resolution; link = four_at order file 20 % 65536 })
unfolding pcap_head
read_as Big resolution file long bytes e major minor =
    rw (le-ltb (length file) 24 long, told resolution Big file e, eq-eqb (two_at Big file 4) 2 major, eq-eqb (two_at Big file 6) 4 minor) refl
read_as Little resolution file long bytes e major minor =
    let none : resolution_by Big file ≡ None = untold Big file
    (λ b. not_both file (pcap_magic resolution) (pcap_magic Microseconds) bytes e b (inl refl) (is_magic resolution))
    (λ b. not_both file (pcap_magic resolution) (pcap_magic Nanoseconds) bytes e b (inr (inl refl)) (is_magic resolution)) in
    rw (le-ltb (length file) 24 long, none, told resolution Little file e, eq-eqb (two_at Little file 4) 2 major, eq-eqb (two_at Little file 6) 4 minor) refl

with_link : (head : PcapHead) (n : ℕ) → n ≡ head.link → ◌≡◌ {A = Result PcapHead PcapHeadFault} (Ok (record { order = head.order; resolution = head.resolution; link = n })) (Ok head)
with_link head n e = ap (λ (x : ℕ). Ok (record { order = head.order; resolution = head.resolution; link = x })) e

-- how a file begins that has a header
pub record Begins (head : PcapHead) (file : List ℕ) : Type 0 where
  pub no_block : is_pcapng file ≡ false
  pub says : pcap_head file ≡ Ok head

pub begins : (head : PcapHead) (front rest file : List ℕ) → file ≡ front ++ rest → IsPcapHead head front → All (λ b. b < 256) file → Begins head file
begins head front rest file parts h all =
    let bytes = low_bytes file all in
    let size = h.whole in
    let long = ap (λ (xs : List ℕ). length xs) parts ∙ length-append front rest in
    let m : four_at head.order file 0 ≡ pcap_magic head.resolution = ap (λ (xs : List ℕ). four_at head.order xs 0) parts ∙ (four_front head.order front rest 0 (omega arith) ∙ h.magic_number) in
    let major : two_at head.order file 4 ≡ 2 = ap (λ (xs : List ℕ). two_at head.order xs 4) parts ∙ (two_front head.order front rest 4 (omega arith) ∙ h.major_version) in
    let minor : two_at head.order file 6 ≡ 4 = ap (λ (xs : List ℕ). two_at head.order xs 6) parts ∙ (two_front head.order front rest 6 (omega arith) ∙ h.minor_version) in
    let link : four_at head.order file 20 % 65536 ≡ head.link =
    ap (λ (xs : List ℕ). four_at head.order xs 20 % 65536) parts ∙ (ap (λ (n : ℕ). n % 65536) (four_front head.order front rest 20 (omega arith)) ∙ h.link_type) in
    record {
      no_block = no_block head.order head.resolution file bytes m;
      says = read_as head.order head.resolution file (omega arith) bytes m major minor ∙ with_link head (four_at head.order file 20 % 65536) link;
    }

-- the capture behind a header
pub behind_it : (file : List ℕ) (head : PcapHead) → is_pcapng file ≡ false → pcap_head file ≡ Ok head
    → capture_of file ≡ capture_at (among head) (record { packets = 0; parts = 0; bytes = 24 }) (drop 24 file)
unfolding capture_of capture_opened
behind_it file head classic says = rw (classic, says) refl

refused : (file : List ℕ) (why : PcapHeadFault) → is_pcapng file ≡ false → pcap_head file ≡ Err why
    → capture_of file ≡ record { packets = []; passed = 0; fault = Some (record { cause = cause.Head why; number = 0; byte = 0 }) }
unfolding capture_of capture_opened
refused file why classic says = rw (classic, says) refl

-- records behind a header, and nothing more
all_kept : (head : PcapHead) (kept : List KeptPacket) (file body : List ℕ) → is_pcapng file ≡ false → pcap_head file ≡ Ok head → ArePcapRecords head kept body → drop 24 file ≡ body
    → capture_of file ≡ capture_kept head kept
all_kept head kept file body classic says are e =
    let c : PartCounts = record { packets = 0; parts = 0; bytes = 24 } in
    behind_it file head classic says
    ∙ (ap (capture_at (among head) c) (e ∙ sym (append-nil body))
    ∙ (through kept head c body [] are
    ∙ (ap (in_front (packets_kept head 1 kept)) (capture_none (among head) (past c kept))
    ∙ ap (λ (ps : List CapturePacket). record { packets = ps; passed = 0; fault = None }) (append-nil (packets_kept head 1 kept)))))

-- records behind a header, and then none
none_kept : (head : PcapHead) (kept : List KeptPacket) (file body tail : List ℕ) (why : RecordFault) → is_pcapng file ≡ false → pcap_head file ≡ Ok head → ArePcapRecords head kept body
    → drop 24 file ≡ body ++ tail → 0 < length tail → pcap_record_at head tail ≡ Err why → capture_of file ≡ capture_broken head kept why
none_kept head kept file body tail why classic says are e some faulty =
    let c : PartCounts = record { packets = 0; parts = 0; bytes = 24 } in
    let number : 0 + length kept + 1 ≡ 1 + length kept = omega arith in
    behind_it file head classic says
    ∙ (ap (capture_at (among head) c) e
    ∙ (through kept head c body tail are
    ∙ (ap (in_front (packets_kept head 1 kept)) (capture_faulty (among head) (past c kept) tail (cause.Record why) some (ap (record_part head) faulty))
    ∙ (ap (λ (ps : List CapturePacket). record { packets = ps; passed = 0; fault = Some (record { cause = cause.Record why; number = 0 + length kept + 1; byte = 24 + records_size kept }) }) (append-nil (packets_kept head 1 kept))
    ∙ ap (λ (n : ℕ). record { packets = packets_kept head 1 kept; passed = 0; fault = Some (record { cause = cause.Record why; number = n; byte = 24 + records_size kept }) }) number))))

behind_front : (front rest file : List ℕ) → file ≡ front ++ rest → length front ≡ 24 → drop 24 file ≡ rest
behind_front front rest file parts size = ap (drop 24) parts ∙ drop_at front rest 24 size

pub whole_is_read : (head : PcapHead) (kept : List KeptPacket) (file : List ℕ) → All (λ b. b < 256) file → IsPcapFile head kept [] file → capture_of file ≡ capture_kept head kept
whole_is_read head kept file all f =
    let b = begins head f.front (f.body ++ []) file f.parts f.header all in
    all_kept head kept file f.body b.no_block b.says f.records (behind_front f.front (f.body ++ []) file f.parts f.header.whole ∙ append-nil f.body)

pub broken_is_read : (head : PcapHead) (kept : List KeptPacket) (tail file : List ℕ) (why : RecordFault) → All (λ b. b < 256) file → IsPcapFile head kept tail file
    → 0 < length tail → pcap_record_at head tail ≡ Err why → capture_of file ≡ capture_broken head kept why
broken_is_read head kept tail file why all f some faulty =
    let b = begins head f.front (f.body ++ tail) file f.parts f.header all in
    none_kept head kept file f.body tail why b.no_block b.says f.records (behind_front f.front (f.body ++ tail) file f.parts f.header.whole) some faulty

-- a file whose header is read
record Parsed (file : List ℕ) : Type 0 where
  head : PcapHead
  s : Split head (drop 24 file)
  is : (kept : List KeptPacket) (body tail : List ℕ) → ArePcapRecords head kept body → drop 24 file ≡ body ++ tail → IsPcapFile head kept tail file
  says : pcap_head file ≡ Ok head

parsed : (file : List ℕ) (head : PcapHead) → pcap_head file ≡ Ok head → Parsed file
parsed file head e =
    let h = header_of file head e in
    record {
      head = head;
      s = split (length (drop 24 file)) head (drop 24 file) (omega arith);
      is = λ kept body tail are parts. record {
        front = take 24 file;
        body = body;
        header = h.0;
        records = are;
        parts = sym (take-append-drop 24 file) ∙ ap (λ (xs : List ℕ). take 24 file ++ xs) parts;
      };
      says = e;
    }

-- a capture whose header is refused has this fault
no_head : (r : Result PcapHead PcapHeadFault) (file : List ℕ) → pcap_head file ≡ r → is_pcapng file ≡ false → (c : Capture) → capture_of file ≡ c
    → ((why : PcapHeadFault) → c.fault ≡ Some (record { cause = cause.Head why; number = 0; byte = 0 }) → ⊥) → Parsed file
no_head (Err why) file e classic c is other = absurd (other why (ap (λ (x : Capture). x.fault) (sym is ∙ refused file why classic e)))
no_head (Ok head) file e classic c is other = parsed file head e

-- a capture that ends whole
record Whole (file : List ℕ) (packets : List CapturePacket) : Type 0 where
  head : PcapHead
  kept : List KeptPacket
  is : IsPcapFile head kept [] file
  packets_are : packets ≡ packets_kept head 1 kept

pub whole_read : (file : List ℕ) (packets : List CapturePacket) → is_pcapng file ≡ false → capture_of file ≡ record { packets = packets; passed = 0; fault = None }
    → (head : PcapHead) × (kept : List KeptPacket) × IsPcapFile head kept [] file × (packets ≡ packets_kept head 1 kept)
whole_read file packets classic e =
    let p = no_head (pcap_head file) file refl classic (record { packets = packets; passed = 0; fault = None }) e (λ why f. absurd (cc)) in
    elim p.s.ends [
      | inl none ↦
          let parts : drop 24 file ≡ p.s.body = p.s.parts ∙ (ap (λ (xs : List ℕ). p.s.body ++ xs) none ∙ append-nil p.s.body) in
          let same = sym e ∙ all_kept p.head p.s.list file p.s.body classic p.says p.s.are parts in
          (p.head, p.s.list, p.is p.s.list p.s.body [] p.s.are (parts ∙ sym (append-nil p.s.body)), ap (λ (x : Capture). x.packets) same)
      | inr stuck ↦
          let same = sym e ∙ none_kept p.head p.s.list file p.s.body p.s.tail stuck.fault classic p.says p.s.are p.s.parts stuck.some stuck.is in
          let bad = ap (λ (x : Capture). x.fault) same in absurd (cc)
    ]

same_fault : (a b : CaptureFault) → ◌≡◌ {A = Option CaptureFault} (Some a) (Some b) → a ≡ b
same_fault a b e = cc

same_record : (a b : RecordFault) → ◌≡◌ {A = Cause} (cause.Record a) (cause.Record b) → a ≡ b
same_record a b e = cc

other_cause : (a : RecordFault) (b : PcapHeadFault) → ◌≡◌ {A = Cause} (cause.Record a) (cause.Head b) → ⊥
other_cause a b e = absurd (cc)

no_record : (a : RecordFault) (b : PcapHeadFault) (m n x y : ℕ) → ◌≡◌ {A = Option CaptureFault} (Some (record { cause = cause.Record a; number = m; byte = x })) (Some (record { cause = cause.Head b; number = n; byte = y })) → ⊥
no_record a b m n x y e =
    let one : CaptureFault = record { cause = cause.Record a; number = m; byte = x } in
    let two : CaptureFault = record { cause = cause.Head b; number = n; byte = y } in
    other_cause a b (ap (λ (f : CaptureFault). f.cause) (same_fault one two e))

same_cause : (a b : RecordFault) (m n x y : ℕ) → ◌≡◌ {A = Option CaptureFault} (Some (record { cause = cause.Record a; number = m; byte = x })) (Some (record { cause = cause.Record b; number = n; byte = y })) → a ≡ b
same_cause a b m n x y e =
    let one : CaptureFault = record { cause = cause.Record a; number = m; byte = x } in
    let two : CaptureFault = record { cause = cause.Record b; number = n; byte = y } in
    same_record a b (ap (λ (f : CaptureFault). f.cause) (same_fault one two e))

pub broken_read : (file : List ℕ) (packets : List CapturePacket) (why : RecordFault) (number byte : ℕ) → is_pcapng file ≡ false
    → capture_of file ≡ record { packets = packets; passed = 0; fault = Some (record { cause = cause.Record why; number = number; byte = byte }) }
    → (head : PcapHead) × (kept : List KeptPacket) × (tail : List ℕ) × IsPcapFile head kept tail file × (0 < length tail) × (pcap_record_at head tail ≡ Err why) × (capture_of file ≡ capture_broken head kept why)
broken_read file packets why number byte classic e =
    let p = no_head (pcap_head file) file refl classic (record { packets = packets; passed = 0; fault = Some (record { cause = cause.Record why; number = number; byte = byte }) }) e (λ other f. no_record why other number 0 byte 0 f) in
    elim p.s.ends [
      | inl none ↦
          let parts : drop 24 file ≡ p.s.body = p.s.parts ∙ (ap (λ (xs : List ℕ). p.s.body ++ xs) none ∙ append-nil p.s.body) in
          let same = sym e ∙ all_kept p.head p.s.list file p.s.body classic p.says p.s.are parts in
          let bad = ap (λ (x : Capture). x.fault) same in absurd (cc)
      | inr stuck ↦
          let is = none_kept p.head p.s.list file p.s.body p.s.tail stuck.fault classic p.says p.s.are p.s.parts stuck.some stuck.is in
          let same = sym e ∙ is in
          let reason : why ≡ stuck.fault = same_cause why stuck.fault number (1 + length p.s.list) byte (24 + records_size p.s.list) (ap (λ (x : Capture). x.fault) same) in
          (p.head, p.s.list, p.s.tail, p.is p.s.list p.s.body p.s.tail p.s.are p.s.parts, stuck.some, stuck.is ∙ ap Err (sym reason), is ∙ ap (capture_broken p.head p.s.list) (sym reason))
    ]
