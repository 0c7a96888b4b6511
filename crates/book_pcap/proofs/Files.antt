-- A pcap file is read by its grammar.
use Rattle.std.proofs.Common.{◌≡◌, ◌⊎◌, ℕ, zero, suc, ◌+◌, ◌%◌, ◌<◌, ◌≤◌, ◌==◌, ◌&&◌, Bool, true, false, List, [], ◌∷◌, ◌++◌, length, take, drop, nat_lt, Option, Some, None, Result, Ok, Err, if◌then◌else◌, refl, sym, ap, ◌∙◌, subst, inl, inr, arith, append_assoc}
use Rattle.std.specs.Prelude.{slice_index}
use Rattle.std.specs.List.{All}
use Rattle.std.proofs.lemmas.List.Elements.{All-take}
use Rattle.std.proofs.lemmas.Bool.{cases_lt, cases_eq, le-ltb, ltb-false, eq-eqb, ne_eqb, eqb-true, and_parts}
use Rattle.std.proofs.lemmas.List.{length-append, length-drop, length-take-le, take-append-drop, take_at, drop_at, nil_from_length, drop-append-le}
use Rattle.book_base.specs.Hexadecimal.{IsByte}
use Rattle.book_pcap.specs.declared.pcap_head.ByteOrder.{ByteOrder}
use Rattle.book_pcap.specs.declared.pcap_head.ByteOrder.TheVariants.{Big, Little}
use Rattle.book_pcap.specs.declared.pcap_head.LinkType.{LinkType}
use Rattle.book_pcap.specs.declared.pcap_head.LinkType.TheVariants.{Ethernet, Raw}
use Rattle.book_pcap.specs.declared.pcap_head.Head.{Head}
use Rattle.book_pcap.specs.declared.pcap_head.HeadFault.{HeadFault}
use Rattle.book_pcap.specs.declared.pcap_head.HeadFault.TheVariants as head_fault
use Rattle.book_base.specs.Fronts.{Front, Ends, Faulted, Leads}
use Rattle.book_pcap.specs.Packets.{two_at, four_at, magic, order_of, link_of, head_in, head_of, and_rest, opened, Kept, RecordFault, Broken, record_at, Packet, Packets, FileFault, BadRecord, datagram_of, with_packet, with_datagrams, packets_in, packets_behind, packets_of}
use Rattle.book_pcap.specs.PacketFiles.{link_number, IsHeader, IsRecord, AreRecords, IsBroken, IsFile}
use Rattle.book_pcap.proofs.Captures.{record_none, record_short, record_over, record_part, record_whole, put, packets_by, packets_step}
use Rattle.book_base.proofs.ListLaws.{take_drop}

-- ---- numbers at a place

at_front : (xs ys : List ℕ) (i : ℕ) → i < length xs → slice_index (xs ++ ys) i ≡ slice_index xs i
at_front [] ys i less = absurd (omega arith)
at_front (x ∷ xs) ys zero less = refl
at_front (x ∷ xs) ys (suc i) less = at_front xs ys i (omega arith)

two_front : (order : ByteOrder) (xs ys : List ℕ) (i : ℕ) → i + 2 ≤ length xs → two_at order (xs ++ ys) i ≡ two_at order xs i
two_front Big xs ys i le =
    let a = at_front xs ys i (omega arith) in
    let b = at_front xs ys (i + 1) (omega arith) in
    rw (a, b) refl
two_front Little xs ys i le =
    let a = at_front xs ys i (omega arith) in
    let b = at_front xs ys (i + 1) (omega arith) in
    rw (a, b) refl

four_front : (order : ByteOrder) (xs ys : List ℕ) (i : ℕ) → i + 4 ≤ length xs → four_at order (xs ++ ys) i ≡ four_at order xs i
four_front Big xs ys i le =
    let a = two_front Big xs ys i (omega arith) in
    let b = two_front Big xs ys (i + 2) (omega arith) in
    omega (arith, a, b)
four_front Little xs ys i le =
    let a = two_front Little xs ys i (omega arith) in
    let b = two_front Little xs ys (i + 2) (omega arith) in
    omega (arith, a, b)

-- ---- a record

same_kept : (k : Kept) (seconds : ℕ) (bytes : List ℕ) → seconds ≡ k.seconds → bytes ≡ k.bytes → record { seconds = seconds; bytes = bytes } ≡ k
same_kept k seconds bytes e f =
    ap (λ (n : ℕ). record { seconds = n; bytes = bytes }) e ∙ ap (λ (b : List ℕ). record { seconds = k.seconds; bytes = b }) f

-- a record at the front is read
pub record_read : (order : ByteOrder) (k : Kept) (one rest : List ℕ) → IsRecord order k one → record_at order (one ++ rest) ≡ Leads k rest
record_read order k one rest r =
    let long = r.whole in
    let most = r.most in
    let size = length-append one rest in
    let len : four_at order (one ++ rest) 8 ≡ length k.bytes = four_front order one rest 8 (omega arith) ∙ r.kept_length in
    let seen : four_at order (one ++ rest) 0 ≡ k.seconds = four_front order one rest 0 (omega arith) ∙ r.seen in
    let split : drop 16 (one ++ rest) ≡ k.bytes ++ rest = drop-append-le 16 one rest (omega arith) ∙ ap (λ (xs : List ℕ). xs ++ rest) r.kept_bytes in
    let kept : take (four_at order (one ++ rest) 8) (drop 16 (one ++ rest)) ≡ k.bytes = rw (len, split) (take_at k.bytes rest (length k.bytes) refl) in
    let others : drop (16 + four_at order (one ++ rest) 8) (one ++ rest) ≡ rest = drop_at one rest (16 + four_at order (one ++ rest) 8) (omega arith) in
    record_whole order (one ++ rest) (omega arith) (omega arith) (omega arith)
    ∙ (ap (λ (x : Kept). Leads x (drop (16 + four_at order (one ++ rest) 8) (one ++ rest)))
    (same_kept k (four_at order (one ++ rest) 0) (take (four_at order (one ++ rest) 8) (drop 16 (one ++ rest))) seen kept)
    ∙ ap (λ (xs : List ℕ). Leads k xs) others)

-- what stands at the front, as the grammar has it
record AtFront (order : ByteOrder) (text : List ℕ) (kept : Kept) (rest : List ℕ) : Type 0 where
  one : List ℕ
  is : IsRecord order kept one
  parts : text ≡ one ++ rest
  shorter : length rest < length text

abbrev Tells : ByteOrder → List ℕ → Front Kept RecordFault → Type 0
Tells order text Ends = text ≡ []
Tells order text (Faulted Broken) = 0 < length text
Tells order text (Leads kept rest) = AtFront order text kept rest

record Told (order : ByteOrder) (text : List ℕ) (f : Front Kept RecordFault) : Type 0 where
  tells : Tells order text f

told_as : (order : ByteOrder) (text : List ℕ) (f g : Front Kept RecordFault) → g ≡ f → Told order text f → Told order text g
told_as order text f g e t = subst (λ (x : Front Kept RecordFault). Told order text x) (sym e) t

told_whole : (order : ByteOrder) (text : List ℕ) → 16 ≤ length text → four_at order text 8 ≤ 262144 → 16 + four_at order text 8 ≤ length text → Told order text (record_at order text)
told_whole order text long fits all =
    let len : ℕ = four_at order text 8 in
    let one : List ℕ = take (16 + four_at order text 8) text in
    let rest : List ℕ = drop (16 + four_at order text 8) text in
    let size : length one ≡ 16 + four_at order text 8 = length-take-le (16 + four_at order text 8) text all in
    let after = length-drop (16 + four_at order text 8) text in
    let parts : one ++ rest ≡ text = take-append-drop (16 + four_at order text 8) text in
    let seen : four_at order one 0 ≡ four_at order text 0 = sym (four_front order one rest 0 (omega arith)) ∙ ap (λ (xs : List ℕ). four_at order xs 0) parts in
    let count : four_at order one 8 ≡ four_at order text 8 = sym (four_front order one rest 8 (omega arith)) ∙ ap (λ (xs : List ℕ). four_at order xs 8) parts in
    let cut : drop 16 one ≡ take (four_at order text 8) (drop 16 text) = take_drop (16 + four_at order text 8) (four_at order text 8) 16 text (omega arith) in
    let behind = length-drop 16 text in
    let kept_size : length (take (four_at order text 8) (drop 16 text)) ≡ four_at order text 8 = length-take-le (four_at order text 8) (drop 16 text) (omega arith) in
    told_as order text (Leads (record { seconds = four_at order text 0; bytes = take (four_at order text 8) (drop 16 text) }) (drop (16 + four_at order text 8) text)) (record_at order text)
    (record_whole order text long fits all)
    (record {
      tells = record {
        one = one;
        is = record { seen = seen; kept_length = count ∙ sym kept_size; kept_bytes = cut; most = omega arith; whole = omega arith };
        parts = sym parts;
        shorter = omega arith;
      };
    })

told : (order : ByteOrder) (text : List ℕ) → Told order text (record_at order text)
told order text = elim (cases_eq (length text) 0) [
  | inl none ↦
      let empty : text ≡ [] = nil_from_length text none in
      told_as order text Ends (record_at order text) (ap (record_at order) empty ∙ record_none order) (record { tells = empty })
  | inr some ↦ elim (cases_lt (length text) 16) [
    | inl short ↦ told_as order text (Faulted Broken) (record_at order text) (record_short order text (omega arith) short) (record { tells = omega arith })
    | inr long ↦ elim (cases_lt 262144 (four_at order text 8)) [
      | inl over ↦ told_as order text (Faulted Broken) (record_at order text) (record_over order text long over) (record { tells = omega arith })
      | inr fits ↦ elim (cases_lt (length text) (16 + four_at order text 8)) [
        | inl part ↦ told_as order text (Faulted Broken) (record_at order text) (record_part order text long fits part) (record { tells = omega arith })
        | inr all ↦ told_whole order text long fits all
      ]
    ]
  ]
]

broken : (order : ByteOrder) (text : List ℕ) → record_at order text ≡ Faulted Broken → 0 < length text → IsBroken order text
broken order text e some = record {
  some = some;
  no_record = λ kept one rest is parts. let whole = record_read order kept one rest is in let same = ap (record_at order) parts in absurd (cc);
}

broken_by : (f : Front Kept RecordFault) (order : ByteOrder) (text : List ℕ) → Told order text f → IsBroken order text → f ≡ Faulted Broken
broken_by Ends order text t b = let none = ap (λ (xs : List ℕ). length xs) t.tells in let some = b.some in absurd (omega arith)
broken_by (Faulted Broken) order text t b = refl
broken_by (Leads kept rest) order text t b = let w = t.tells in absurd (b.no_record kept w.one rest w.is w.parts)

-- ---- records, and what follows them

record Split (order : ByteOrder) (text : List ℕ) : Type 0 where
  kept : List Kept
  body : List ℕ
  tail : List ℕ
  are : AreRecords order kept body
  parts : text ≡ body ++ tail
  ends : (tail ≡ []) ⊎ IsBroken order tail

split_by : (f : Front Kept RecordFault) (order : ByteOrder) (text : List ℕ) → record_at order text ≡ f → Told order text f → ((rest : List ℕ) → length rest < length text → Split order rest) → Split order text
split_by Ends order text e t rests = record { kept = []; body = []; tail = []; are = refl; parts = t.tells; ends = inl refl }
split_by (Faulted Broken) order text e t rests = record { kept = []; body = []; tail = text; are = refl; parts = refl; ends = inr (broken order text e t.tells) }
split_by (Leads k rest) order text e t rests =
    let w = t.tells in
    let s = rests rest w.shorter in
    record {
      kept = k ∷ s.kept;
      body = w.one ++ s.body;
      tail = s.tail;
      are = (w.one, s.body, w.is, s.are, refl);
      parts = w.parts ∙ (ap (λ (xs : List ℕ). w.one ++ xs) s.parts ∙ sym (append_assoc w.one s.body s.tail));
      ends = s.ends;
    }

split_within : (n : ℕ) (order : ByteOrder) (text : List ℕ) → length text ≤ n → Split order text
split_within zero order text le =
    let empty : text ≡ [] = nil_from_length text (omega arith) in
    record { kept = []; body = []; tail = []; are = refl; parts = empty; ends = inl refl }
split_within (suc n) order text le = split_by (record_at order text) order text refl (told order text) (λ rest less. split_within n order rest (omega arith))

split : (order : ByteOrder) (text : List ℕ) → Split order text
split order text = split_within (length text) order text (omega arith)

through : (head : Head) (n : ℕ) (kept : List Kept) (body tail : List ℕ) (fault : Option FileFault) → AreRecords head.order kept body
    → packets_in head (n + length kept) tail ≡ record { list = []; fault = fault }
    → packets_in head n (body ++ tail) ≡ record { list = with_datagrams head.link n kept; fault = fault }
through head n [] body tail fault are e =
    let same : n + 0 ≡ n = omega arith in
    ap (λ (xs : List ℕ). packets_in head n (xs ++ tail)) are ∙ (ap (λ (m : ℕ). packets_in head m tail) (sym same) ∙ e)
through head n (k ∷ ks) body tail fault are e =
    let one : List ℕ = are.0 in
    let others : List ℕ = are.1 in
    let p : Packet = record { number = n; seconds = k.seconds; datagram = datagram_of head.link k.bytes } in
    let parts : body ++ tail ≡ are.0 ++ (are.1 ++ tail) = ap (λ (xs : List ℕ). xs ++ tail) are.4 ∙ append_assoc are.0 are.1 tail in
    let count : n + suc (length ks) ≡ n + 1 + length ks = omega arith in
    let rest = through head (n + 1) ks are.1 tail fault are.3 (ap (λ (m : ℕ). packets_in head m tail) (sym count) ∙ e) in
    ap (packets_in head n) parts
    ∙ (packets_step head n (are.0 ++ (are.1 ++ tail))
    ∙ (ap (λ (f : Front Kept RecordFault). packets_by head n f (packets_in head (n + 1))) (record_read head.order k are.0 (are.1 ++ tail) are.2)
    ∙ (ap (with_packet p) rest ∙ put (length p.datagram == 0) p (with_datagrams head.link (n + 1) ks) fault refl)))

at_end : (head : Head) (n : ℕ) → packets_in head n [] ≡ record { list = []; fault = None }
at_end head n = packets_step head n [] ∙ ap (λ (f : Front Kept RecordFault). packets_by head n f (packets_in head (n + 1))) (record_none head.order)

at_broken : (head : Head) (n : ℕ) (tail : List ℕ) → IsBroken head.order tail → packets_in head n tail ≡ record { list = []; fault = Some (BadRecord n) }
at_broken head n tail b =
    packets_step head n tail ∙ ap (λ (f : Front Kept RecordFault). packets_by head n f (packets_in head (n + 1))) (broken_by (record_at head.order tail) head.order tail (told head.order tail) b)

-- ---- the header

order_read : (order : ByteOrder) (front : List ℕ) → All IsByte front → length front ≡ 24 → four_at order front 0 ≡ magic → order_of front ≡ Some order
order_read Big front bytes long e = rw (eq-eqb (four_at Big front 0) magic e) refl
order_read Little front bytes long e =
    let a : slice_index front 0 < 256 = bytes 0 0 (omega arith) in
    let b : slice_index front 1 < 256 = bytes 1 0 (omega arith) in
    let c : slice_index front 2 < 256 = bytes 2 0 (omega arith) in
    let d : slice_index front 3 < 256 = bytes 3 0 (omega arith) in
    let other : four_at Big front 0 ≡ magic → ⊥ = λ f. omega (arith, e, f) in
    rw (ne_eqb (four_at Big front 0) magic other, eq-eqb (four_at Little front 0) magic e) refl

link_read : (order : ByteOrder) (link : LinkType) (n : ℕ) → n ≡ link_number link → link_of order n ≡ Ok (record { order = order; link = link })
link_read order Ethernet n e = rw (eq-eqb n 1 e) refl
link_read order Raw n e = rw (ne_eqb n 1 (λ f. omega arith), eq-eqb n 101 e) refl

head_read : (head : Head) (front : List ℕ) → All IsByte front → IsHeader head front → head_of front ≡ Ok head
unfolding head_of
head_read head front bytes h =
    ap (λ (o : Option ByteOrder). head_in o front) (order_read head.order front bytes h.whole h.magic_number)
    ∙ rw (eq-eqb (two_at head.order front 4) 2 h.major_version, eq-eqb (two_at head.order front 6) 4 h.minor_version)
    (link_read head.order head.link (four_at head.order front 20 % 65536) h.link_type)

opened_header : (head : Head) (front rest : List ℕ) → All IsByte (front ++ rest) → IsHeader head front → opened (front ++ rest) ≡ Ok (head, rest)
opened_header head front rest bytes h =
    let long = h.whole in
    let size = length-append front rest in
    let first : take 24 (front ++ rest) ≡ front = take_at front rest 24 long in
    let others : drop 24 (front ++ rest) ≡ rest = drop_at front rest 24 long in
    let front_bytes : All IsByte front = subst (λ (xs : List ℕ). All IsByte xs) first (All-take IsByte 24 (front ++ rest) bytes) in
    rw (le-ltb (length (front ++ rest)) 24 (omega arith))
    (ap (λ (xs : List ℕ). and_rest (head_of (take 24 (front ++ rest))) xs) others
    ∙ (ap (λ (xs : List ℕ). and_rest (head_of xs) rest) first ∙ ap (λ (r : Result Head HeadFault). and_rest r rest) (head_read head front front_bytes h)))

order_by : (big little : Bool) (front : List ℕ) (order : ByteOrder) → (four_at Big front 0 == magic) ≡ big → (four_at Little front 0 == magic) ≡ little
    → (if big then Some Big else if little then Some Little else None) ≡ Some order → four_at order front 0 ≡ magic
order_by true little front order b l e =
    let same : Big ≡ order = cc in subst (λ (o : ByteOrder). four_at o front 0 ≡ magic) same (eqb-true (four_at Big front 0) magic b)
order_by false true front order b l e =
    let same : Little ≡ order = cc in subst (λ (o : ByteOrder). four_at o front 0 ≡ magic) same (eqb-true (four_at Little front 0) magic l)
order_by false false front order b l e = absurd (cc)

record IsLink (order : ByteOrder) (n : ℕ) (head : Head) : Type 0 where
  link : LinkType
  numbered : n ≡ link_number link
  says : record { order = order; link = link } ≡ head

link_by : (one two : Bool) (order : ByteOrder) (n : ℕ) (head : Head) → (n == 1) ≡ one → (n == 101) ≡ two
    → (if one then Ok (record { order = order; link = Ethernet }) else if two then Ok (record { order = order; link = Raw }) else Err head_fault.LinkType) ≡ Ok head → IsLink order n head
link_by true two order n head a b e = record { link = Ethernet; numbered = eqb-true n 1 a; says = cc }
link_by false true order n head a b e = record { link = Raw; numbered = eqb-true n 101 b; says = cc }
link_by false false order n head a b e = absurd (cc)

version_by : (fits : Bool) (order : ByteOrder) (front : List ℕ) (head : Head) → four_at order front 0 ≡ magic → length front ≡ 24
    → ((two_at order front 4 == 2) && (two_at order front 6 == 4)) ≡ fits → (if fits then link_of order (four_at order front 20 % 65536) else Err head_fault.Version) ≡ Ok head → IsHeader head front
version_by false order front head m long v e = absurd (cc)
version_by true order front head m long v e =
    let both = and_parts (two_at order front 4 == 2) (two_at order front 6 == 4) v in
    let n : ℕ = four_at order front 20 % 65536 in
    let l = link_by (n == 1) (n == 101) order n head refl refl e in
    let header : IsHeader (record { order = order; link = l.link }) front = record {
      magic_number = m;
      major_version = eqb-true (two_at order front 4) 2 both.0;
      minor_version = eqb-true (two_at order front 6) 4 both.1;
      link_type = l.numbered;
      whole = long;
    } in
    subst (λ (h : Head). IsHeader h front) l.says header

head_found : (order : Option ByteOrder) (front : List ℕ) (head : Head) → order_of front ≡ order → length front ≡ 24 → head_in order front ≡ Ok head → IsHeader head front
head_found None front head o long e = absurd (cc)
head_found (Some order) front head o long e =
    version_by ((two_at order front 4 == 2) && (two_at order front 6 == 4)) order front head
    (order_by (four_at Big front 0 == magic) (four_at Little front 0 == magic) front order refl refl o) long refl e

head_from : (front : List ℕ) (head : Head) → length front ≡ 24 → head_of front ≡ Ok head → IsHeader head front
unfolding head_of
head_from front head long e = head_found (order_of front) front head refl long e

rest_by : (r : Result Head HeadFault) (rest : List ℕ) (opening : Head × List ℕ) → and_rest r rest ≡ Ok opening → (r ≡ Ok opening.0) × (rest ≡ opening.1)
rest_by (Ok head) rest opening e =
    let same : (head, rest) ≡ opening = cc in (ap (λ (p : Head × List ℕ). Ok p.0) same, ap (λ (p : Head × List ℕ). p.1) same)
rest_by (Err fault) rest opening e = absurd (cc)

record Opened (file : List ℕ) (opening : Head × List ℕ) : Type 0 where
  header : IsHeader opening.0 (take 24 file)
  parts : file ≡ take 24 file ++ opening.1

opened_by : (short : Bool) (file : List ℕ) (opening : Head × List ℕ) → nat_lt (length file) 24 ≡ short
    → (if short then Err head_fault.Short else and_rest (head_of (take 24 file)) (drop 24 file)) ≡ Ok opening → Opened file opening
opened_by true file opening s e = absurd (cc)
opened_by false file opening s e =
    let long : 24 ≤ length file = ltb-false (length file) 24 s in
    let r = rest_by (head_of (take 24 file)) (drop 24 file) opening e in
    record {
      header = head_from (take 24 file) opening.0 (length-take-le 24 file long) r.0;
      parts = sym (take-append-drop 24 file) ∙ ap (λ (xs : List ℕ). take 24 file ++ xs) r.1;
    }

-- ---- a file

record Shape (file : List ℕ) (opening : Head × List ℕ) : Type 0 where
  kept : List Kept
  tail : List ℕ
  is : IsFile opening.0 kept tail file
  ends : ((tail ≡ []) × (packets_in opening.0 1 opening.1 ≡ record { list = with_datagrams opening.0.link 1 kept; fault = None }))
      ⊎ (IsBroken opening.0.order tail × (packets_in opening.0 1 opening.1 ≡ record { list = with_datagrams opening.0.link 1 kept; fault = Some (BadRecord (1 + length kept)) }))

shape : (file : List ℕ) (opening : Head × List ℕ) → opened file ≡ Ok opening → Shape file opening
shape file opening e =
    let o = opened_by (nat_lt (length file) 24) file opening refl e in
    let s = split opening.0.order opening.1 in
    record {
      kept = s.kept;
      tail = s.tail;
      is = record { front = take 24 file; body = s.body; header = o.header; records = s.are; parts = o.parts ∙ ap (λ (xs : List ℕ). take 24 file ++ xs) s.parts };
      ends = elim s.ends [
        | inl none ↦ inl (none, ap (packets_in opening.0 1) s.parts ∙ through opening.0 1 s.kept s.body s.tail None s.are (ap (packets_in opening.0 (1 + length s.kept)) none ∙ at_end opening.0 (1 + length s.kept)))
        | inr bad ↦ inr (bad, ap (packets_in opening.0 1) s.parts ∙ through opening.0 1 s.kept s.body s.tail (Some (BadRecord (1 + length s.kept))) s.are (at_broken opening.0 (1 + length s.kept) s.tail bad))
      ];
    }

abbrev ReadAs : List ℕ → List Packet → Type 0
ReadAs file list = (head : Head) × (kept : List Kept) × IsFile head kept [] file × (list ≡ with_datagrams head.link 1 kept)

read_by : (r : Result (Head × List ℕ) HeadFault) (file : List ℕ) (list : List Packet) → opened file ≡ r → packets_behind r ≡ record { list = list; fault = None } → ReadAs file list
read_by (Err fault) file list o e = let no = ap (λ (p : Packets). p.fault) e in absurd (cc)
read_by (Ok opening) file list o e =
    let s = shape file opening o in
    elim s.ends [
      | inl good ↦
          (opening.0, s.kept, subst (λ (t : List ℕ). IsFile opening.0 s.kept t file) good.0 s.is, ap (λ (p : Packets). p.list) (sym e ∙ good.1))
      | inr bad ↦ let no = ap (λ (p : Packets). p.fault) (sym e ∙ bad.1) in absurd (cc)
    ]

pub read_whole : (file : List ℕ) (list : List Packet) → packets_of file ≡ record { list = list; fault = None } → ReadAs file list
read_whole file list e = read_by (opened file) file list refl e

abbrev BrokenAs : List ℕ → List Packet → ℕ → Type 0
BrokenAs file list n = (head : Head) × (kept : List Kept) × (tail : List ℕ) × IsFile head kept tail file × IsBroken head.order tail
    × (list ≡ with_datagrams head.link 1 kept) × (n ≡ 1 + length kept)

record_number : (m n : ℕ) → Some (BadRecord m) ≡ Some (BadRecord n) → m ≡ n
record_number m n e = cc

broken_read_by : (r : Result (Head × List ℕ) HeadFault) (file : List ℕ) (list : List Packet) (n : ℕ) → opened file ≡ r → packets_behind r ≡ record { list = list; fault = Some (BadRecord n) } → BrokenAs file list n
broken_read_by (Err fault) file list n o e = let no = ap (λ (p : Packets). p.fault) e in absurd (cc)
broken_read_by (Ok opening) file list n o e =
    let s = shape file opening o in
    elim s.ends [
      | inl good ↦ let no = ap (λ (p : Packets). p.fault) (sym e ∙ good.1) in absurd (cc)
      | inr bad ↦
          (opening.0, s.kept, s.tail, s.is, bad.0, ap (λ (p : Packets). p.list) (sym e ∙ bad.1), record_number n (1 + length s.kept) (ap (λ (p : Packets). p.fault) (sym e ∙ bad.1)))
    ]

pub read_broken : (file : List ℕ) (list : List Packet) (n : ℕ) → packets_of file ≡ record { list = list; fault = Some (BadRecord n) } → BrokenAs file list n
read_broken file list n e = broken_read_by (opened file) file list n refl e

is_packets : (head : Head) (kept : List Kept) (tail file : List ℕ) (fault : Option FileFault) → All IsByte file → IsFile head kept tail file
    → packets_in head (1 + length kept) tail ≡ record { list = []; fault = fault } → packets_of file ≡ record { list = with_datagrams head.link 1 kept; fault = fault }
is_packets head kept tail file fault bytes f e =
    let whole : All IsByte (f.front ++ (f.body ++ tail)) = subst (λ (xs : List ℕ). All IsByte xs) f.parts bytes in
    ap packets_of f.parts
    ∙ (ap packets_behind (opened_header head f.front (f.body ++ tail) whole f.header) ∙ through head 1 kept f.body tail fault f.records e)

pub whole_is_read : (head : Head) (kept : List Kept) (file : List ℕ) → All IsByte file → IsFile head kept [] file
    → packets_of file ≡ record { list = with_datagrams head.link 1 kept; fault = None }
whole_is_read head kept file bytes f = is_packets head kept [] file None bytes f (at_end head (1 + length kept))

pub broken_is_read : (head : Head) (kept : List Kept) (tail file : List ℕ) → All IsByte file → IsFile head kept tail file → IsBroken head.order tail
    → packets_of file ≡ record { list = with_datagrams head.link 1 kept; fault = Some (BadRecord (1 + length kept)) }
broken_is_read head kept tail file bytes f b = is_packets head kept tail file (Some (BadRecord (1 + length kept))) bytes f (at_broken head (1 + length kept) tail b)
