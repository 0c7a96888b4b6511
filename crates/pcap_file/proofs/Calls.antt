-- One call of a reader of packets.
use Rattle.std.proofs.Common.{◌≡◌, ℕ, ◌+◌, ◌-◌, ◌<◌, ◌≤◌, Bool, true, false, cond, List, [], ◌++◌, length, take, drop, Option, None, Some, Ok, refl, sym, ap, ◌∙◌, append_assoc, arith}
use Rattle.std.proofs.lemmas.List.{append-nil, length-append, length-drop, drop-append-le}
use Rattle.std.specs.List.{All}
use Rattle.std.proofs.lemmas.List.Elements.{All-append}
use Rattle.ao_base.specs.Buffered.{Buffered}
use Rattle.ao_base.specs.Outside.{Side, Gave, Rose, IsAtEnd, told}
use Rattle.ao_base.proofs.Sides.{gave_more, nothing_told}
use Rattle.book_pcap.specs.declared.pcap_head.Head.{Head}
use Rattle.book_base.specs.Fronts.{Faulted, Leads}
use Rattle.book_pcap.specs.Packets.{RecordFault, Broken, record_at, datagram_of}
use Rattle.pcap_file.specs.declared.records.Found.{Found}
use Rattle.pcap_file.specs.declared.records.Opened.TheVariants as opening
use Rattle.pcap_file.specs.declared.packets.PacketStep.TheVariants as step
use Rattle.pcap_file.specs.Parts.{Opens, Finds}
use Rattle.book_base.specs.Hexadecimal.{IsByte}
use Rattle.pcap_file.specs.Reads.{Reading, opened_from, header_length, Stops, Steps}

-- past the header and at a record
pub record Reached (had : Option Head) (head : Head) (before now : Buffered) (a b : Side) (given : List ℕ) : Type 0 where
  pub gave : Gave given a b
  pub bytes : All IsByte given
  pub opens : (left : List ℕ) → opened_from had ((before.kept ++ given) ++ left) ≡ Ok (head, now.kept ++ left)
  pub kept : now.kept ≡ drop (header_length had) (before.kept ++ given)
  pub count : header_length had + length now.kept ≡ length before.kept + length given
  pub size : now.size ≡ before.size
  pub fits : length now.kept ≤ now.size

pub reach : (had : Option Head) (head : Head) (result : Found) (before middle now : Buffered) (a s b : Side) (first second : List ℕ) → Opens had before middle a s first (opening.Head head) →
    Finds head.order middle now s b second result → Reached had head before now a b (first ++ second)
reach had head result before middle now a s b first second opens finds =
    let le = opens.is.2 in
    let group : (before.kept ++ first) ++ second ≡ before.kept ++ (first ++ second) = append_assoc before.kept first second in
    let text : (left : List ℕ) → (before.kept ++ (first ++ second)) ++ left ≡ (before.kept ++ first) ++ (second ++ left) = λ left. simp append_assoc in
    let body : (left : List ℕ) → now.kept ++ left ≡ middle.kept ++ (second ++ left) = λ left. ap (λ xs. xs ++ left) finds.kept ∙ append_assoc middle.kept second left in
    let whole : now.kept ≡ drop (header_length had) (before.kept ++ (first ++ second)) =
    finds.kept ∙ (ap (λ xs. xs ++ second) opens.is.1 ∙ (sym (drop-append-le (header_length had) (before.kept ++ first) second le) ∙ ap (drop (header_length had)) group)) in
    let size0 : length (before.kept ++ first) ≡ length before.kept + length first = length-append before.kept first in
    let size1 : length middle.kept ≡ length (before.kept ++ first) - header_length had = ap length opens.is.1 ∙ length-drop (header_length had) (before.kept ++ first) in
    let size2 : length now.kept ≡ length middle.kept + length second = ap length finds.kept ∙ length-append middle.kept second in
    let size3 : length (first ++ second) ≡ length first + length second = length-append first second in
    record {
      gave = gave_more first second a s b opens.gave finds.gave;
      bytes = All-append IsByte first second opens.bytes finds.bytes;
      opens = λ left. rw (text left, body left) (opens.is.0 (second ++ left));
      kept = whole;
      count = omega arith;
      size = finds.size ∙ opens.size;
      fits = finds.fits;
    }

-- what a reader is seen as
abbrev pub reading : ℕ → ℕ → ℕ → Option Head → Bool → Bool → Buffered → Reading
reading handed count seconds head shown over buffer =
    record { kept = buffer.kept; taken = handed + length buffer.kept; count = count; head = head; over = over; packet = cond shown (Some (record { number = count; seconds = seconds; datagram = buffer.piece })) None }

-- what it is seen as after a call that showed no packet
abbrev pub stopped : ℕ → ℕ → Option Head → Buffered → Reading
stopped handed count head buffer =
    record { kept = buffer.kept; taken = handed + length buffer.kept; count = count; head = head; over = true; packet = None }

module _ (handed count seconds : ℕ) (had : Option Head) (head : Head) (shown over : Bool) (before now : Buffered) (a b : Side) (given : List ℕ) (size : before.size ≡ 327696)
    (reached : Reached had head before now a b given) where
  stops : Stops (reading handed count seconds had shown over before) (stopped (handed + header_length had) count (Some head) now) given
  stops = record { packet = refl; over = refl; count = refl; kept = reached.kept }

  pub long_step : (len : ℕ) → 16 + len ≤ length now.kept → 268435456 - (handed + header_length had) < 16 + len →
      Steps (reading handed count seconds had shown over before) (stopped (handed + header_length had) count (Some head) now) a b given step.TooLong
  long_step len all lt =
      let n = reached.count in let same = reached.size in let fits = reached.fits in
      record { gave = reached.gave; bytes = reached.bytes; taken = omega arith; counted = omega arith; bound = omega arith; answers = (stops, omega arith, (head, _, reached.opens (told b.bytes), refl, tt)) }

  pub end_step : handed + header_length had ≤ 268435456 → now.kept ≡ [] → IsAtEnd b →
      Steps (reading handed count seconds had shown over before) (stopped (handed + header_length had) count (Some head) now) a b given step.End
  end_step limit none end =
      let n = reached.count in let same = reached.size in let fits = reached.fits in
      let gone : told b.bytes ≡ [] = nothing_told b end in
      let body : now.kept ++ told b.bytes ≡ [] = rw (none, gone) refl in
      let zero : length now.kept ≡ 0 = ap length none in
      record { gave = reached.gave; bytes = reached.bytes; taken = omega arith; counted = omega arith; bound = omega arith; answers = (stops, (head, _, reached.opens (told b.bytes), refl, body), end, none, omega arith) }

  pub broken_step : record_at head.order (now.kept ++ told b.bytes) ≡ Faulted Broken → record_at head.order now.kept ≡ Faulted Broken →
      Steps (reading handed count seconds had shown over before) (stopped (handed + header_length had) count (Some head) now) a b given (step.BadRecord (count + 1))
  broken_step broken kept_broken =
      let all : opened_from had (before.kept ++ given) ≡ Ok (head, now.kept) = rw (append-nil (before.kept ++ given), append-nil now.kept) at (reached.opens []) in
      let n = reached.count in let same = reached.size in let fits = reached.fits in
      record { gave = reached.gave; bytes = reached.bytes; taken = omega arith; counted = omega arith; bound = omega arith; answers = (stops, refl, (head, _, reached.opens (told b.bytes), refl, broken), (head, now.kept, all, refl, kept_broken)) }

  pub fault_step : Rose a b → Steps (reading handed count seconds had shown over before) (stopped (handed + header_length had) count (Some head) now) a b given step.Fault
  fault_step rose =
      let n = reached.count in let same = reached.size in let fits = reached.fits in
      record { gave = reached.gave; bytes = reached.bytes; taken = omega arith; counted = omega arith; bound = omega arith; answers = (stops, rose) }

  pub packet_step : (secs len : ℕ) (datagram : List ℕ) → over ≡ false → 16 + len ≤ length now.kept → (handed + header_length had) + (16 + len) ≤ 268435456 →
      record_at head.order (now.kept ++ told b.bytes) ≡ Leads (record { seconds = secs; bytes = take len (drop 16 now.kept) }) (drop (16 + len) now.kept ++ told b.bytes) →
      datagram ≡ datagram_of head.link (take len (drop 16 now.kept)) →
      Steps (reading handed count seconds had shown over before)
      (reading (handed + header_length had + (16 + len)) (count + 1) secs (Some head) true over (record { kept = drop (16 + len) now.kept; piece = datagram; size = now.size })) a b given step.Packet
  packet_step secs len datagram going all limit whole datagram_is =
      let n = reached.count in let same = reached.size in let fits = reached.fits in
      let rest : length (drop (16 + len) now.kept) ≡ length now.kept - (16 + len) = length-drop (16 + len) now.kept in
      record {
        gave = reached.gave;
        bytes = reached.bytes;
        taken = omega arith;
        counted = omega arith;
        bound = omega arith;
        answers = record {
          head = head;
          body = now.kept ++ told b.bytes;
          packet = record { seconds = secs; bytes = take len (drop 16 now.kept) };
          opens = reached.opens (told b.bytes);
          whole = whole;
          known = refl;
          shown = rw datagram_is refl;
          count = refl;
          within = omega arith;
          going = going;
        };
      }
