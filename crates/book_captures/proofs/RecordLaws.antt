-- A record at the front is read by its grammar.
use Rattle.std.proofs.Common.{◌≡◌, ℕ, ◌+◌, ◌-◌, ◌*◌, ◌≤◌, Bool, true, false, List, ◌++◌, length, take, drop, nat_lt, Result, Ok, Err, if◌then◌else◌, refl, sym, ap, ◌∙◌, subst, arith}
use Rattle.std.proofs.lemmas.Bool.{le-ltb, ltb-false}
use Rattle.std.proofs.lemmas.List.{length-append, length-drop, length-take-le, take-append-drop, take_at, drop_at, drop-append-le}
use Rattle.book_pcap.specs.Packets.{four_at}
use Rattle.book_captures.specs.declared.pcap_head.PcapHead.{PcapHead}
use Rattle.book_captures.specs.declared.pcap_head.RecordFault.{RecordFault}
use Rattle.book_captures.specs.declared.pcap_head.RecordFault.TheVariants as record_fault
use Rattle.book_captures.specs.PcapFiles.{nanoseconds, KeptPacket, record_time, pcap_record_at, IsPcapRecord}
use Rattle.book_captures.proofs.Fronts.{four_front}
use Rattle.book_base.proofs.ListLaws.{take_drop}

time_front : (head : PcapHead) (xs ys : List ℕ) → 16 ≤ length xs → record_time head (xs ++ ys) ≡ record_time head xs
time_front head xs ys le =
    ap (λ (n : ℕ). n * 1000000000 + four_at head.order (xs ++ ys) 4 * nanoseconds head.resolution) (four_front head.order xs ys 0 (omega arith))
    ∙ ap (λ (n : ℕ). four_at head.order xs 0 * 1000000000 + n * nanoseconds head.resolution) (four_front head.order xs ys 4 (omega arith))

-- the length of what is kept
same_length : (n : ℕ) → 16 + n - 16 ≡ n
same_length n = omega arith

-- the packet of a record of this length
abbrev whole : PcapHead → ℕ → List ℕ → KeptPacket
whole head len text = record { time = record_time head text; original = four_at head.order text 12; bytes = take (16 + len - 16) (drop 16 text) }

record_whole : (head : PcapHead) (text : List ℕ) → 16 ≤ length text → four_at head.order text 8 ≤ 262144 → 16 + four_at head.order text 8 ≤ length text
    → pcap_record_at head text ≡ Ok (whole head (four_at head.order text 8) text, drop (16 + four_at head.order text 8) text)
unfolding pcap_record_at
record_whole head text le fits all =
    rw (le-ltb (length text) 16 le, le-ltb 262144 (four_at head.order text 8) fits, le-ltb (length text) (16 + four_at head.order text 8) all) refl

same_kept : (k : KeptPacket) (time original : ℕ) (bytes : List ℕ) → time ≡ k.time → original ≡ k.original → bytes ≡ k.bytes
    → record { time = time; original = original; bytes = bytes } ≡ k
same_kept k time original bytes e f g =
    ap (λ (n : ℕ). record { time = n; original = original; bytes = bytes }) e
    ∙ (ap (λ (n : ℕ). record { time = k.time; original = n; bytes = bytes }) f
    ∙ ap (λ (b : List ℕ). record { time = k.time; original = k.original; bytes = b }) g)

pub record_read : (head : PcapHead) (k : KeptPacket) (one rest : List ℕ) → IsPcapRecord head k one → pcap_record_at head (one ++ rest) ≡ Ok (k, rest)
record_read head k one rest r =
    let long = r.whole in
    let most = r.most in
    let text : List ℕ = one ++ rest in
    let size = length-append one rest in
    let len : four_at head.order (one ++ rest) 8 ≡ length k.bytes = four_front head.order one rest 8 (omega arith) ∙ r.kept_length in
    let time : record_time head (one ++ rest) ≡ k.time = time_front head one rest (omega arith) ∙ r.time in
    let original : four_at head.order (one ++ rest) 12 ≡ k.original = four_front head.order one rest 12 (omega arith) ∙ r.original in
    let split : drop 16 (one ++ rest) ≡ k.bytes ++ rest = drop-append-le 16 one rest (omega arith) ∙ ap (λ (xs : List ℕ). xs ++ rest) r.kept_bytes in
    let kept : take (16 + four_at head.order (one ++ rest) 8 - 16) (drop 16 (one ++ rest)) ≡ k.bytes =
    ap (λ (n : ℕ). take n (drop 16 (one ++ rest))) (same_length (four_at head.order (one ++ rest) 8) ∙ len)
    ∙ (ap (take (length k.bytes)) split ∙ take_at k.bytes rest (length k.bytes) refl) in
    let others : drop (16 + four_at head.order (one ++ rest) 8) (one ++ rest) ≡ rest = drop_at one rest (16 + four_at head.order (one ++ rest) 8) (omega arith) in
    record_whole head (one ++ rest) (omega arith) (omega arith) (omega arith)
    ∙ (ap (λ (x : KeptPacket). Ok (x, drop (16 + four_at head.order (one ++ rest) 8) (one ++ rest)))
    (same_kept k (record_time head (one ++ rest)) (four_at head.order (one ++ rest) 12) (take (16 + four_at head.order (one ++ rest) 8 - 16) (drop 16 (one ++ rest))) time original kept)
    ∙ ap (λ (xs : List ℕ). Ok (k, xs)) others)

-- a record at the front, as the grammar has it
pub record AtFront (head : PcapHead) (text : List ℕ) (k : KeptPacket) (rest : List ℕ) : Type 0 where
  pub one : List ℕ
  pub is : IsPcapRecord head k one
  pub parts : text ≡ one ++ rest

front_whole : (head : PcapHead) (text : List ℕ) → 16 ≤ length text → four_at head.order text 8 ≤ 262144 → 16 + four_at head.order text 8 ≤ length text
    → AtFront head text (whole head (four_at head.order text 8) text) (drop (16 + four_at head.order text 8) text)
front_whole head text long fits all =
    let one : List ℕ = take (16 + four_at head.order text 8) text in
    let rest : List ℕ = drop (16 + four_at head.order text 8) text in
    let size : length one ≡ 16 + four_at head.order text 8 = length-take-le (16 + four_at head.order text 8) text all in
    let parts : one ++ rest ≡ text = take-append-drop (16 + four_at head.order text 8) text in
    let time : record_time head one ≡ record_time head text = sym (time_front head one rest (omega arith)) ∙ ap (record_time head) parts in
    let original : four_at head.order one 12 ≡ four_at head.order text 12 = sym (four_front head.order one rest 12 (omega arith)) ∙ ap (λ (xs : List ℕ). four_at head.order xs 12) parts in
    let count : four_at head.order one 8 ≡ four_at head.order text 8 = sym (four_front head.order one rest 8 (omega arith)) ∙ ap (λ (xs : List ℕ). four_at head.order xs 8) parts in
    let cut : drop 16 one ≡ take (16 + four_at head.order text 8 - 16) (drop 16 text) = take_drop (16 + four_at head.order text 8) (16 + four_at head.order text 8 - 16) 16 text (omega arith) in
    let behind = length-drop 16 text in
    let kept_size : length (take (16 + four_at head.order text 8 - 16) (drop 16 text)) ≡ four_at head.order text 8 =
    length-take-le (16 + four_at head.order text 8 - 16) (drop 16 text) (omega arith) ∙ same_length (four_at head.order text 8) in
    record {
      one = one;
      is = record { time = time; kept_length = count ∙ sym kept_size; original = original; kept_bytes = cut; most = omega arith; whole = omega arith };
      parts = sym parts;
    }

pair_parts : (k l : KeptPacket) (a b : List ℕ) → ◌≡◌ {A = Result (KeptPacket × List ℕ) RecordFault} (Ok (k, a)) (Ok (l, b)) → (k ≡ l) × (a ≡ b)
pair_parts k l a b e =
    let same : (k, a) ≡ (l, b) = cc in (ap (λ (p : KeptPacket × List ℕ). p.0) same, ap (λ (p : KeptPacket × List ℕ). p.1) same)

-- what is read of it
abbrev read_as : PcapHead → List ℕ → Result (KeptPacket × List ℕ) RecordFault
read_as head text = Ok (whole head (four_at head.order text 8) text, drop (16 + four_at head.order text 8) text)

found_by : (short over part : Bool) (head : PcapHead) (text : List ℕ) (k : KeptPacket) (rest : List ℕ) → nat_lt (length text) 16 ≡ short
    → nat_lt 262144 (four_at head.order text 8) ≡ over → nat_lt (length text) (16 + four_at head.order text 8) ≡ part
    → (if short then Err record_fault.Short else if over then Err record_fault.TooLong else if part then Err record_fault.Short
    else read_as head text) ≡ Ok (k, rest)
    → AtFront head text k rest
found_by true over part head text k rest s o p e = absurd (cc)
found_by false true part head text k rest s o p e = absurd (cc)
found_by false false true head text k rest s o p e = absurd (cc)
found_by false false false head text k rest s o p e =
    let same = pair_parts (whole head (four_at head.order text 8) text) k (drop (16 + four_at head.order text 8) text) rest e in
    let there = front_whole head text (ltb-false (length text) 16 s) (ltb-false 262144 (four_at head.order text 8) o) (ltb-false (length text) (16 + four_at head.order text 8) p) in
    subst (λ (x : KeptPacket). AtFront head text x rest) same.0
    (subst (λ (xs : List ℕ). AtFront head text (whole head (four_at head.order text 8) text) xs) same.1 there)

pub record_found : (head : PcapHead) (text : List ℕ) (k : KeptPacket) (rest : List ℕ) → pcap_record_at head text ≡ Ok (k, rest) → AtFront head text k rest
unfolding pcap_record_at
record_found head text k rest e =
    found_by (nat_lt (length text) 16) (nat_lt 262144 (four_at head.order text 8)) (nat_lt (length text) (16 + four_at head.order text 8)) head text k rest refl refl refl e
