-- The header and a record among the bytes that are kept.
use Rattle.std.proofs.Common.{◌≡◌, ◌==◌, if◌then◌else◌, inl, inr, ℕ, ◌+◌, ◌-◌, ◌<◌, ◌≤◌, min, List, [], ◌++◌, length, take, drop, Option, None, Ok, Err, refl, sym, ap, ◌∙◌, append_assoc, arith}
use Rattle.std.proofs.lemmas.List.{length-append, length-drop, length-take, take-append-le, drop-append-le, append-nil, nil_from_length, take_min, get_or_append_left}
use Rattle.std.proofs.lemmas.Bool.{cases_eq, eq-eqb, ne_eqb, le-ltb}
use Rattle.std.proofs.lemmas.List.Elements.{All-append}
use Rattle.std.specs.Prelude.{slice_range, slice_index}
use Rattle.ao_base.specs.Buffered.{Buffered}
use Rattle.ao_base.specs.Outside.{Side, told}
use Rattle.ao_base.proofs.Sides.{gave_more, nothing_told, rose_after}
use Rattle.ao_base.proofs.Slices.{part_within}
use Rattle.book_pcap.specs.declared.pcap_head.ByteOrder.{ByteOrder}
use Rattle.book_pcap.specs.declared.pcap_head.ByteOrder.TheVariants.{Big, Little}
use Rattle.book_pcap.specs.declared.pcap_head.LinkType.{LinkType}
use Rattle.book_pcap.specs.declared.pcap_head.Head.{Head}
use Rattle.book_pcap.specs.declared.pcap_head.HeadFault.{HeadFault}
use Rattle.book_pcap.specs.Packets.{head_of, four_at, datagram_of}
use Rattle.book_pcap.proofs.Captures.{record_short, record_over, record_part, record_whole}
use Rattle.ao_base.specs.declared.refill.Filled.TheVariants as filled
use Rattle.pcap_file.specs.declared.records.Found.TheVariants as found
use Rattle.pcap_file.specs.declared.records.Opened.TheVariants as opening
use Rattle.ao_base.specs.Fillings.{Fills}
use Rattle.pcap_file.specs.Parts.{Opens, Finds}
use Rattle.book_base.specs.Hexadecimal.{IsByte}
use Rattle.pcap_file.specs.Reads.{opened_from}

-- a header whose bytes are all kept
head_ready : (text left : List ℕ) (head : Head) → 24 ≤ length text → Ok head ≡ head_of (take 24 text) → opened_from None (text ++ left) ≡ Ok (head, drop 24 text ++ left)
head_ready text left head le is =
    let size = length-append text left in
    rw (le-ltb (length (text ++ left)) 24 (omega arith), take-append-le 24 text left le, drop-append-le 24 text left le, sym is) refl

head_refused : (text left : List ℕ) (fault : HeadFault) → 24 ≤ length text → Err fault ≡ head_of (take 24 text) → opened_from None (text ++ left) ≡ Err fault
head_refused text left fault le is =
    let size = length-append text left in
    rw (le-ltb (length (text ++ left)) 24 (omega arith), take-append-le 24 text left le, sym is) refl

-- the header was read now
pub open_ok : (had : Option Head) (before middle now : Buffered) (a b : Side) (given : List ℕ) (head : Head) → had ≡ None → Fills 24 before middle a b given filled.Enough →
    Ok head ≡ head_of (take 24 middle.kept) → now.kept ≡ drop 24 middle.kept → now.size ≡ middle.size → Opens had before now a b given (opening.Head head)
open_ok had before middle now a b given head none fills is kept size =
    let enough : 24 ≤ length middle.kept = fills.fills in
    rw none (record {
      gave = fills.gave;
      bytes = fills.bytes;
      size = size ∙ fills.size;
      is = (λ left. rw (← fills.kept, kept) (head_ready middle.kept left head enough is), rw (← fills.kept) kept, rw (← fills.kept) enough);
    })

-- and is refused
pub open_bad : (had : Option Head) (before now : Buffered) (a b : Side) (given : List ℕ) (fault : HeadFault) → had ≡ None → Fills 24 before now a b given filled.Enough →
    Err fault ≡ head_of (take 24 now.kept) → Opens had before now a b given (opening.Bad fault)
open_bad had before now a b given fault none fills is =
    let enough : 24 ≤ length now.kept = fills.fills in
    rw none (record {
      gave = fills.gave;
      bytes = fills.bytes;
      size = fills.size;
      is = (
        refl,
        rw (← fills.kept) (head_refused now.kept (told b.bytes) fault enough is),
        fills.kept,
        fills.fits,
        rw (← fills.kept) (rw (append-nil now.kept) at (head_refused now.kept [] fault enough is)),
      );
    })

index : (xs ys : List ℕ) (i : ℕ) → i < length xs → slice_index (xs ++ ys) i ≡ slice_index xs i
index xs ys i lt = get_or_append_left xs ys 0 i lt

-- a number among the first bytes stays, whatever follows
pub four_in_front : (order : ByteOrder) (xs ys : List ℕ) (i : ℕ) → i + 3 < length xs → four_at order (xs ++ ys) i ≡ four_at order xs i
four_in_front Big xs ys i lt = rw (index xs ys i (omega arith), index xs ys (i + 1) (omega arith), index xs ys (i + 2) (omega arith), index xs ys (i + 2 + 1) (omega arith)) refl
four_in_front Little xs ys i lt = rw (index xs ys i (omega arith), index xs ys (i + 1) (omega arith), index xs ys (i + 2) (omega arith), index xs ys (i + 2 + 1) (omega arith)) refl

-- what is kept at the end of the source is the whole content
all_kept : (before now : Buffered) (given : List ℕ) (b : Side) → now.kept ≡ before.kept ++ given → told b.bytes ≡ [] → now.kept ++ told b.bytes ≡ before.kept ++ given
all_kept before now given b kept none = rw none (append-nil now.kept ∙ kept)

-- the 16 bytes of a record aren't all there
found_short : (order : ByteOrder) (before now : Buffered) (a b : Side) (given : List ℕ) → Fills 16 before now a b given filled.Ended → 0 < length now.kept → Finds order before now a b given found.Broken
found_short order before now a b given fills some =
    let all : now.kept ++ told b.bytes ≡ now.kept = rw (nothing_told b fills.fills.1) (append-nil now.kept) in
    record { gave = fills.gave; bytes = fills.bytes; kept = fills.kept; size = fills.size; fits = fills.fits; is = let short = record_short order now.kept some fills.fills.0 in (rw all short, short) }

-- no record is left
found_done : (order : ByteOrder) (before now : Buffered) (a b : Side) (given : List ℕ) → Fills 16 before now a b given filled.Ended → length now.kept ≡ 0 → Finds order before now a b given found.Done
found_done order before now a b given fills none =
    record { gave = fills.gave; bytes = fills.bytes; kept = fills.kept; size = fills.size; fits = fills.fits; is = (nil_from_length now.kept none, fills.fills.1) }

-- the source is at its end before the 16 bytes of a record
pub found_end : (order : ByteOrder) (before now : Buffered) (a b : Side) (given : List ℕ) → Fills 16 before now a b given filled.Ended →
    Finds order before now a b given (if length now.kept == 0 then found.Done else found.Broken)
found_end order before now a b given fills =
    elim (cases_eq (length now.kept) 0) [
      | inl none ↦ rw (eq-eqb (length now.kept) 0 none) (found_done order before now a b given fills none)
      | inr some ↦ rw (ne_eqb (length now.kept) 0 (λ e. omega arith)) (found_short order before now a b given fills (omega arith))
    ]

-- a record that keeps too many bytes
pub found_over : (order : ByteOrder) (before now : Buffered) (a b : Side) (given : List ℕ) (len : ℕ) → Fills 16 before now a b given filled.Enough →
    len ≡ four_at order now.kept 8 → 262144 < len → Finds order before now a b given found.Broken
found_over order before now a b given len fills len_is over =
    let enough : 16 ≤ length now.kept = fills.fills in
    let size = length-append now.kept (told b.bytes) in
    let number : four_at order (now.kept ++ told b.bytes) 8 ≡ len = four_in_front order now.kept (told b.bytes) 8 (omega arith) ∙ sym len_is in
    record { gave = fills.gave; bytes = fills.bytes; kept = fills.kept; size = fills.size; fits = fills.fits; is = (record_over order (now.kept ++ told b.bytes) (omega arith) (rw number over), record_over order now.kept enough (rw len_is at over)) }

-- a read failed on the way to the rest of a record
pub found_fault : (order : ByteOrder) (before middle now : Buffered) (a s b : Side) (first second : List ℕ) (wanted : ℕ) → Fills 16 before middle a s first filled.Enough →
    Fills wanted middle now s b second filled.Fault → Finds order before now a b (first ++ second) found.Fault
found_fault order before middle now a s b first second wanted one two = record {
  gave = gave_more first second a s b one.gave two.gave;
  bytes = All-append IsByte first second one.bytes two.bytes;
  kept = two.kept ∙ (ap (λ xs. xs ++ second) one.kept ∙ append_assoc before.kept first second);
  size = two.size ∙ one.size;
  fits = two.fits;
  is = rose_after (length first) a s b one.gave.counts two.fills;
}

-- a record that isn't all there
pub found_part : (order : ByteOrder) (before middle now : Buffered) (a s b : Side) (first second : List ℕ) (len : ℕ) → Fills 16 before middle a s first filled.Enough →
    Fills (16 + len) middle now s b second filled.Ended → len ≡ four_at order middle.kept 8 → len ≤ 262144 → Finds order before now a b (first ++ second) found.Broken
found_part order before middle now a s b first second len one two len_is le =
    let enough : 16 ≤ length middle.kept = one.fills in
    let size = length-append middle.kept second in
    let all = all_kept middle now second b two.kept (nothing_told b two.fills.1) in
    let short : length (middle.kept ++ second) < 16 + len = rw two.kept at two.fills.0 in
    let number : four_at order (middle.kept ++ second) 8 ≡ len = four_in_front order middle.kept second 8 (omega arith) ∙ sym len_is in
    record {
      gave = gave_more first second a s b one.gave two.gave;
      bytes = All-append IsByte first second one.bytes two.bytes;
      kept = two.kept ∙ (ap (λ xs. xs ++ second) one.kept ∙ append_assoc before.kept first second);
      size = two.size ∙ one.size;
      fits = two.fits;
      is = let part = record_part order (middle.kept ++ second) (omega arith) (rw number le) (rw number short) in (rw all part, rw two.kept part);
    }

-- a whole record
pub found_whole : (order : ByteOrder) (before middle now : Buffered) (a s b : Side) (first second : List ℕ) (seconds len : ℕ) → Fills 16 before middle a s first filled.Enough →
    Fills (16 + len) middle now s b second filled.Enough → seconds ≡ four_at order middle.kept 0 → len ≡ four_at order middle.kept 8 → len ≤ 262144 →
    Finds order before now a b (first ++ second) (found.Whole seconds len)
found_whole order before middle now a s b first second seconds len one two seconds_is len_is le =
    let enough : 16 ≤ length middle.kept = one.fills in
    let more : 16 + len ≤ length now.kept = two.fills in
    let left = told b.bytes in
    let size = length-append now.kept left in
    let rest : length (drop 16 now.kept) ≡ length now.kept - 16 = length-drop 16 now.kept in
    let text : now.kept ++ left ≡ middle.kept ++ (second ++ left) = ap (λ xs. xs ++ left) two.kept ∙ append_assoc middle.kept second left in
    let number : four_at order (now.kept ++ left) 8 ≡ len = rw text (four_in_front order middle.kept (second ++ left) 8 (omega arith) ∙ sym len_is) in
    let time : four_at order (now.kept ++ left) 0 ≡ seconds = rw text (four_in_front order middle.kept (second ++ left) 0 (omega arith) ∙ sym seconds_is) in
    let bytes : take len (drop 16 (now.kept ++ left)) ≡ take len (drop 16 now.kept) =
    ap (take len) (drop-append-le 16 now.kept left (omega arith)) ∙ take-append-le len (drop 16 now.kept) left (omega arith) in
    let after : drop (16 + len) (now.kept ++ left) ≡ drop (16 + len) now.kept ++ left = drop-append-le (16 + len) now.kept left more in
    let fits : four_at order (now.kept ++ left) 8 ≤ 262144 = rw number le in
    let all : 16 + four_at order (now.kept ++ left) 8 ≤ length (now.kept ++ left) = rw number (omega arith) in
    let whole = rw (number, time, bytes, after) at (record_whole order (now.kept ++ left) (omega arith) fits all) in
    record {
      gave = gave_more first second a s b one.gave two.gave;
      bytes = All-append IsByte first second one.bytes two.bytes;
      kept = two.kept ∙ (ap (λ xs. xs ++ second) one.kept ∙ append_assoc before.kept first second);
      size = two.size ∙ one.size;
      fits = two.fits;
      is = (whole, more);
    }

-- the datagram within a packet
pub raw_part : (bytes : List ℕ) (m : ℕ) → m ≡ min (length bytes) 65575 → slice_range bytes 0 m ≡ take 65575 bytes
raw_part bytes m is =
    let size : m - 0 ≡ min 65575 (length bytes) = omega arith in
    ap (λ k. take k bytes) size ∙ take_min 65575 bytes

pub ip_part : (bytes : List ℕ) (m : ℕ) → 14 ≤ length bytes → m ≡ min (length bytes) 65589 → slice_range bytes 14 m ≡ take 65575 (drop 14 bytes)
ip_part bytes m le is =
    let rest : length (drop 14 bytes) ≡ length bytes - 14 = length-drop 14 bytes in
    let size : m - 14 ≡ min 65575 (length (drop 14 bytes)) = omega arith in
    ap (λ k. take k (drop 14 bytes)) size ∙ take_min 65575 (drop 14 bytes)

-- the part that is handed out is the packet's datagram
pub cut_part : (kept : List ℕ) (len first after : ℕ) (link : LinkType) → first ≤ after → after ≤ length (slice_range kept 16 (16 + len)) → 16 + len ≤ length kept →
    slice_range (slice_range kept 16 (16 + len)) first after ≡ datagram_of link (slice_range kept 16 (16 + len)) →
    slice_range kept (16 + first) (16 + after) ≡ datagram_of link (take len (drop 16 kept))
cut_part kept len first after link ordered inside all is =
    let size : 16 + len - 16 ≡ len = omega arith in
    let whole : slice_range kept 16 (16 + len) ≡ take len (drop 16 kept) = ap (λ k. take k (drop 16 kept)) size in
    let many : length (slice_range kept 16 (16 + len)) ≡ min (16 + len - 16) (length (drop 16 kept)) = length-take (16 + len - 16) (drop 16 kept) in
    part_within kept 16 (16 + len) first after ordered (omega arith) ∙ (is ∙ ap (datagram_of link) whole)
