-- The packets of records, one by one.
use Rattle.std.proofs.Common.{◌≡◌, ℕ, suc, ◌+◌, ◌<◌, ◌≤◌, ◌==◌, Bool, true, false, List, [], length, take, drop, Option, Some, None, refl, sym, ap, ◌∙◌, inl, inr, arith}
use Rattle.std.proofs.lemmas.Bool.{cases_lt, cases_eq, lt-ltb, le-ltb, eq-eqb, ne_eqb}
use Rattle.std.proofs.lemmas.List.{length-drop}
use Rattle.book_pcap.specs.declared.pcap_head.ByteOrder.{ByteOrder}
use Rattle.book_pcap.specs.declared.pcap_head.Head.{Head}
use Rattle.book_base.specs.Fronts.{Front, Ends, Faulted, Leads, Fronted, fronted_by, fronted}
use Rattle.book_base.proofs.FrontLaws.{Shrinks, fronted_step}
use Rattle.book_pcap.specs.Packets.{Kept, RecordFault, Broken, four_at, record_by, record_at, Packets, Packet, FileFault, BadRecord, datagram_of, with_packet, and_packet, with_datagrams, fault_at, packets_in}

-- no record is left
pub record_none : (order : ByteOrder) → record_at order [] ≡ Ends
unfolding record_at
record_none order = refl

pub none_at : (order : ByteOrder) (text : List ℕ) → length text ≡ 0 → record_at order text ≡ Ends
unfolding record_at
none_at order text none = rw (eq-eqb (length text) 0 none) refl

-- the 16 bytes of a record aren't all there
pub record_short : (order : ByteOrder) (text : List ℕ) → 0 < length text → length text < 16 → record_at order text ≡ Faulted Broken
unfolding record_at
record_short order text some lt = rw (ne_eqb (length text) 0 (λ e. omega arith), lt-ltb (length text) 16 lt) refl

pub record_long : (order : ByteOrder) (text : List ℕ) → 16 ≤ length text → record_at order text ≡ record_by order (four_at order text 8) text
unfolding record_at
record_long order text le = rw (ne_eqb (length text) 0 (λ e. omega arith), le-ltb (length text) 16 le) refl

-- too many bytes are kept
pub record_over : (order : ByteOrder) (text : List ℕ) → 16 ≤ length text → 262144 < four_at order text 8 → record_at order text ≡ Faulted Broken
record_over order text le over = rw (record_long order text le, lt-ltb 262144 (four_at order text 8) over) refl

-- the kept bytes aren't all there
pub record_part : (order : ByteOrder) (text : List ℕ) → 16 ≤ length text → four_at order text 8 ≤ 262144 → length text < 16 + four_at order text 8 → record_at order text ≡ Faulted Broken
record_part order text le fits lt = rw (record_long order text le, le-ltb 262144 (four_at order text 8) fits, lt-ltb (length text) (16 + four_at order text 8) lt) refl

-- the record is whole
pub record_whole : (order : ByteOrder) (text : List ℕ) → 16 ≤ length text → four_at order text 8 ≤ 262144 → 16 + four_at order text 8 ≤ length text →
    record_at order text ≡ Leads (record { seconds = four_at order text 0; bytes = take (four_at order text 8) (drop 16 text) }) (drop (16 + four_at order text 8) text)
record_whole order text le fits all = rw (record_long order text le, le-ltb 262144 (four_at order text 8) fits, le-ltb (length text) (16 + four_at order text 8) all) refl

-- what follows a whole record is shorter
pub record_rest : (order : ByteOrder) (text : List ℕ) (kept : Kept) (rest : List ℕ) → record_at order text ≡ Leads kept rest → 16 + length rest ≤ length text
record_rest order text kept rest is =
    elim (cases_eq (length text) 0) [
      | inl none ↦ let no : record_at order text ≡ Ends = none_at order text none in let bad = sym no ∙ is in absurd (cc)
      | inr some ↦ elim (cases_lt (length text) 16) [
        | inl short ↦ let bad = sym (record_short order text (omega arith) short) ∙ is in absurd (cc)
        | inr long ↦ elim (cases_lt 262144 (four_at order text 8)) [
          | inl over ↦ let bad = sym (record_over order text long over) ∙ is in absurd (cc)
          | inr fits ↦ elim (cases_lt (length text) (16 + four_at order text 8)) [
            | inl part ↦ let bad = sym (record_part order text long fits part) ∙ is in absurd (cc)
            | inr all ↦
                let same = sym (record_whole order text long fits all) ∙ is in
                let rest_is : drop (16 + four_at order text 8) text ≡ rest = cc in
                let size = length-drop (16 + four_at order text 8) text in
                let count = ap length rest_is in
                omega arith
          ]
        ]
      ]
    ]

-- records are at least their 16 bytes
shrinks : (order : ByteOrder) → Shrinks (record_at order)
shrinks order = record { shorter = λ text kept rest is. let size = record_rest order text kept rest is in omega arith }

-- a packet in front of others, whether it is passed over or not
pub put : (none : Bool) (p : Packet) (list : List Packet) (fault : Option FileFault) → (length p.datagram == 0) ≡ none
    → with_packet p (record { list = list; fault = fault }) ≡ record { list = and_packet p list; fault = fault }
put true p list fault e = rw e refl
put false p list fault e = rw e refl

-- the packets of records with this front, the first of number n, where those of what follows are handed in
abbrev pub packets_by : Head → ℕ → Front Kept RecordFault → (List ℕ → Packets) → Packets
packets_by head n Ends others = record { list = []; fault = None }
packets_by head n (Faulted Broken) others = record { list = []; fault = Some (BadRecord n) }
packets_by head n (Leads kept rest) others = with_packet (record { number = n; seconds = kept.seconds; datagram = datagram_of head.link kept.bytes }) (others rest)

-- the packets of these records, the first of number n, and the fault behind them
abbrev read_as : Head → ℕ → Fronted Kept RecordFault → Packets
read_as head n records = record { list = with_datagrams head.link n records.items; fault = fault_at (n + length records.items) records.fault }

read_by : (f : Front Kept RecordFault) (head : Head) (n : ℕ) (others : List ℕ → Fronted Kept RecordFault) →
    read_as head n (fronted_by f others) ≡ packets_by head n f (λ rest. read_as head (n + 1) (others rest))
read_by Ends head n others = refl
read_by (Faulted Broken) head n others = let same : n + 0 ≡ n = omega arith in ap (λ (i : ℕ). let x : Packets = record { list = []; fault = Some (BadRecord i) } in x) same
read_by (Leads kept rest) head n others =
    let p : Packet = record { number = n; seconds = kept.seconds; datagram = datagram_of head.link kept.bytes } in
    let records = others rest in
    let list = with_datagrams head.link (n + 1) records.items in
    let count : n + suc (length records.items) ≡ n + 1 + length records.items = omega arith in
    ap (λ (i : ℕ). let x : Packets = record { list = and_packet p list; fault = fault_at i records.fault } in x) count
    ∙ sym (put (length p.datagram == 0) p list (fault_at (n + 1 + length records.items) records.fault) refl)

-- the packets of records, by the record at the front
pub packets_step : (head : Head) (n : ℕ) (text : List ℕ) → packets_in head n text ≡ packets_by head n (record_at head.order text) (packets_in head (n + 1))
unfolding packets_in
packets_step head n text =
    ap (read_as head n) (fronted_step (record_at head.order) (shrinks head.order) text)
    ∙ read_by (record_at head.order text) head n (fronted (record_at head.order))
