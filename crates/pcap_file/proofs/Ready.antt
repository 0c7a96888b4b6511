-- A record that is kept whole.
use Rattle.std.proofs.Common.{◌≡◌, inl, inr, ℕ, ◌+◌, ◌-◌, ◌<◌, ◌≤◌, nat_le, Bool, true, false, List, [], ◌++◌, length, take, drop, Option, Some, None, Ok, refl, sym, ap, ◌∙◌, arith}
use Rattle.std.proofs.lemmas.Bool.{cases_eq, le-leb, lt-leb}
use Rattle.std.proofs.lemmas.List.{append-nil, drop-append-le, length-append, length-drop, nil_from_length, take-append-le}
use Rattle.std.proofs.lemmas.List.Elements.{All-from_get_or}
use Rattle.std.specs.List.{All}
use Rattle.ao_base.specs.Buffered.{Buffered}
use Rattle.ao_base.specs.Outside.{Side, told}
use Rattle.ao_base.proofs.Sides.{gave_none}
use Rattle.book_pcap.specs.declared.pcap_head.ByteOrder.{ByteOrder}
use Rattle.book_pcap.specs.declared.pcap_head.Head.{Head}
use Rattle.book_base.specs.Fronts.{Front, Ends, Faulted, Leads}
use Rattle.book_pcap.specs.Packets.{RecordFault, Broken, Kept, datagram_of, four_at, record_at}
use Rattle.book_pcap.proofs.Captures.{record_none, record_over, record_part, record_short, record_whole}
use Rattle.pcap_file.specs.declared.packets.PacketStep.TheVariants as step
use Rattle.book_base.specs.Hexadecimal.{IsByte}
use Rattle.pcap_file.specs.Reads.{Steps, ends_within, is_ready, is_whole}
use Rattle.pcap_file.proofs.Calls.{Reached, packet_step, reading}
use Rattle.pcap_file.proofs.Parts.{four_in_front}

-- its 16 bytes aren't all there
pub none_short : (order : ByteOrder) (kept : List ℕ) → length kept < 16 → is_whole (record_at order kept) ≡ false
none_short order kept short = elim (cases_eq (length kept) 0) [
  | inl none ↦ let empty : kept ≡ [] = nil_from_length kept none in rw (empty, record_none order) refl
  | inr some ↦ rw (record_short order kept (omega arith) short) refl
]

-- it keeps too many bytes
pub none_over : (order : ByteOrder) (kept : List ℕ) (len : ℕ) → 16 ≤ length kept → len ≡ four_at order kept 8 → 262144 < len → is_whole (record_at order kept) ≡ false
none_over order kept len enough is over = rw (record_over order kept enough (rw is at over)) refl

-- it isn't all there
pub none_part : (order : ByteOrder) (kept : List ℕ) (len : ℕ) → 16 ≤ length kept → len ≡ four_at order kept 8 → len ≤ 262144 → length kept < 16 + len → is_whole (record_at order kept) ≡ false
none_part order kept len enough is fits part = rw (record_part order kept enough (rw is at fits) (rw is at part)) refl

-- it is all there, whatever follows
pub stays_whole : (order : ByteOrder) (kept : List ℕ) (seconds len : ℕ) → 16 ≤ length kept → seconds ≡ four_at order kept 0 → len ≡ four_at order kept 8 → len ≤ 262144 → 16 + len ≤ length kept →
    (left : List ℕ) → record_at order (kept ++ left) ≡ Leads (record { seconds = seconds; bytes = take len (drop 16 kept) }) (drop (16 + len) kept ++ left)
stays_whole order kept seconds len enough seconds_is len_is le more left =
    let size = length-append kept left in
    let rest : length (drop 16 kept) ≡ length kept - 16 = length-drop 16 kept in
    let number : four_at order (kept ++ left) 8 ≡ len = four_in_front order kept left 8 (omega arith) ∙ sym len_is in
    let time : four_at order (kept ++ left) 0 ≡ seconds = four_in_front order kept left 0 (omega arith) ∙ sym seconds_is in
    let bytes : take len (drop 16 (kept ++ left)) ≡ take len (drop 16 kept) = ap (take len) (drop-append-le 16 kept left (omega arith)) ∙ take-append-le len (drop 16 kept) left (omega arith) in
    let after : drop (16 + len) (kept ++ left) ≡ drop (16 + len) kept ++ left = drop-append-le (16 + len) kept left more in
    let fits : four_at order (kept ++ left) 8 ≤ 262144 = rw number le in
    let all : 16 + four_at order (kept ++ left) 8 ≤ length (kept ++ left) = rw number (omega arith) in
    rw (number, time, bytes, after) at (record_whole order (kept ++ left) (omega arith) fits all)

all_none : All IsByte []
all_none = All-from_get_or IsByte [] 0 (λ i within. absurd (omega arith))

-- a call that asks no source is at the record that is kept
pub reached : (head : Head) (buffer : Buffered) (side : Side) → length buffer.kept ≤ buffer.size → Reached (Some head) head buffer buffer side side []
reached head buffer side fits = record {
  gave = gave_none side;
  bytes = all_none;
  opens = λ left. rw (append-nil buffer.kept) refl;
  kept = sym (append-nil buffer.kept);
  count = omega arith;
  size = refl;
  fits = fits;
}

by_front : (taken : ℕ) (front : Front Kept RecordFault) → is_whole front ≡ false → ends_within taken front ≡ false
by_front taken Ends none = refl
by_front taken (Faulted Broken) none = refl
by_front taken (Leads packet rest) none = absurd (cc)

-- no whole record is kept
pub not_ready : (head : Head) (kept : List ℕ) (taken : ℕ) → is_whole (record_at head.order kept) ≡ false → is_ready (Some head) kept taken ≡ false
not_ready head kept taken none = by_front taken (record_at head.order kept) none

-- a whole record is kept
module _ (head : Head) (kept : List ℕ) (packet : Kept) (handed len : ℕ) (more : 16 + len ≤ length kept)
    (stays : (left : List ℕ) → record_at head.order (kept ++ left) ≡ Leads packet (drop (16 + len) kept ++ left)) where
  ready_is : is_ready (Some head) kept (handed + length kept) ≡ nat_le (handed + (16 + len)) 268435456
  ready_is =
      let here : record_at head.order kept ≡ Leads packet (drop (16 + len) kept) = rw (append-nil kept, append-nil (drop (16 + len) kept)) at (stays []) in
      let rest : length (drop (16 + len) kept) ≡ length kept - (16 + len) = length-drop (16 + len) kept in
      let past : handed + length kept - length (drop (16 + len) kept) ≡ handed + (16 + len) = omega arith in
      ap (ends_within (handed + length kept)) here ∙ ap (λ n. nat_le n 268435456) past

  pub is_over : 268435456 < handed + (16 + len) → false ≡ is_ready (Some head) kept (handed + length kept)
  is_over over = sym (ready_is ∙ lt-leb (handed + (16 + len)) 268435456 over)

  pub is_within : handed + (16 + len) ≤ 268435456 → true ≡ is_ready (Some head) kept (handed + length kept)
  is_within within = sym (ready_is ∙ le-leb (handed + (16 + len)) 268435456 within)

  -- and it is shown
  pub kept_step : (had : Option Head) (count seconds secs : ℕ) (shown over : Bool) (buffer : Buffered) (datagram : List ℕ) (side : Side) → had ≡ Some head → buffer.kept ≡ kept →
      packet ≡ record { seconds = secs; bytes = take len (drop 16 kept) } → buffer.size ≡ 327696 → length kept ≤ buffer.size → over ≡ false → handed + (16 + len) ≤ 268435456 →
      datagram ≡ datagram_of head.link (take len (drop 16 kept)) →
      Steps (reading handed count seconds had shown over buffer) (reading (handed + (16 + len)) (count + 1) secs had true over (record { kept = drop (16 + len) buffer.kept; piece = datagram; size = buffer.size }))
      side side [] step.Packet
  kept_step had count seconds secs shown over buffer datagram side is same packet_is size fits going within datagram_is =
      let none : handed + 0 ≡ handed = omega arith in
      let record_is : record_at head.order (buffer.kept ++ told side.bytes) ≡ Leads (record { seconds = secs; bytes = take len (drop 16 buffer.kept) }) (drop (16 + len) buffer.kept ++ told side.bytes) =
      rw (same, ← packet_is) (stays (told side.bytes)) in
      let told_is : datagram ≡ datagram_of head.link (take len (drop 16 buffer.kept)) = rw same datagram_is in
      let all : 16 + len ≤ length buffer.kept = rw same more in
      rw is (rw none at (packet_step handed count seconds (Some head) head shown over buffer buffer side side [] size (reached head buffer side (rw same fits)) secs len datagram going all (omega arith) record_is told_is))
