-- Packets by their places in a part.
use Rattle.std.proofs.Common.{◌≡◌, ℕ, ◌+◌, ◌-◌, ◌*◌, ◌<◌, ◌≤◌, Bool, true, false, List, ◌++◌, Some, None, length, take, drop, nat_lt, Result, Ok, Err, if◌then◌else◌, refl, sym, ap, ◌∙◌, arith}
use Rattle.std.specs.Prelude.{slice_range, slice_get}
use Rattle.std.proofs.lemmas.Bool.{ltb-false}
use Rattle.std.proofs.lemmas.List.{length-append, length-drop, length-take-le, take-take, drop-drop, drop-append-le}
use Rattle.std.proofs.Math.Seq.{take-append_seam}
use Rattle.book_pcap.specs.declared.pcap_head.ByteOrder.{ByteOrder}
use Rattle.book_pcap.specs.Packets.{two_at, four_at}
use Rattle.book_captures.specs.declared.block_parts.BodyFault.{BodyFault}
use Rattle.book_captures.specs.declared.block_parts.BodyFault.TheVariants as fault
use Rattle.book_captures.specs.declared.pcap_head.PcapHead.{PcapHead}
use Rattle.book_captures.specs.PcapFiles.{KeptPacket, pcap_record_at}
use Rattle.book_captures.specs.BlockContents.{Stamped, stamped_in, enhanced_in, old_in, Unstamped, simple_length, simple_in}
use Rattle.book_captures.specs.declared.block_parts.Interface.{Interface}
use Rattle.book_captures.specs.declared.capture_parts.Cause.{Cause}
use Rattle.book_captures.specs.declared.capture_parts.Format.TheVariants.{Pcap, Pcapng}
use Rattle.book_captures.specs.Parts.{PartSaid, Shows, Part, record_part, said_part, simple_said, block_said}
use Rattle.capture_reader.specs.declared.blocks.BlockPlace.{BlockPlace}
use Rattle.capture_reader.specs.declared.parts.PartSays.{PartSays}
use Rattle.capture_reader.specs.declared.parts.PartSays.TheVariants as says
use Rattle.capture_reader.specs.Places.{placed}
use Rattle.capture_reader.specs.FoundParts.{seen_said, seen_part, block_says, moved_by, IsWithin}
use Rattle.book_base.proofs.ListLaws.{take_drop}
use Rattle.book_captures.proofs.RecordLaws.{record_found}

-- these bytes lie behind so many, within all
pub record Lies (text : List ℕ) (n : ℕ) (bytes : List ℕ) : Type 0 where
  pub here : slice_range text n (n + length bytes) ≡ bytes
  pub within : n + length bytes ≤ length text

pub record_lies : (head : PcapHead) (text : List ℕ) (k : KeptPacket) (rest : List ℕ) → pcap_record_at head text ≡ Ok (k, rest) → Lies text 16 k.bytes
record_lies head text k rest e =
    let f = record_found head text k rest e in
    let long = f.is.whole in
    let size = ap (λ (xs : List ℕ). length xs) f.parts ∙ length-append f.one rest in
    let n : 16 + length k.bytes - 16 ≡ length (drop 16 f.one) = let d = length-drop 16 f.one in omega arith in
    record {
      here = ap (λ (xs : List ℕ). take (16 + length k.bytes - 16) (drop 16 xs)) f.parts
          ∙ (ap (take (16 + length k.bytes - 16)) (drop-append-le 16 f.one rest (omega arith))
          ∙ (ap (λ (i : ℕ). take i (drop 16 f.one ++ rest)) n
          ∙ (take-append_seam (drop 16 f.one) rest ∙ f.is.kept_bytes)));
      within = omega arith;
    }

pub record_place : (head : PcapHead) (text : List ℕ) (k : KeptPacket) (rest : List ℕ) → pcap_record_at head text ≡ Ok (k, rest) → slice_range text 16 (16 + length k.bytes) ≡ k.bytes
record_place head text k rest e = (record_lies head text k rest e).here

pub record_within : (head : PcapHead) (text : List ℕ) (k : KeptPacket) (rest : List ℕ) → pcap_record_at head text ≡ Ok (k, rest) → 16 + length k.bytes ≤ length text
record_within head text k rest e = (record_lies head text k rest e).within

-- so many bytes behind so many others
taken : (body : List ℕ) (n len : ℕ) (bytes : List ℕ) → n + len ≤ length body → take len (drop n body) ≡ bytes → Lies body n bytes
taken body n len bytes le e =
    let rest = length-drop n body in
    let size : length bytes ≡ len = sym (ap (λ (xs : List ℕ). length xs) e) ∙ length-take-le len (drop n body) (omega arith) in
    let same : n + length bytes - n ≡ len = omega arith in
    record { here = ap (λ (i : ℕ). take i (drop n body)) same ∙ e; within = omega arith }

same_stamped : (a b : Stamped) → ◌≡◌ {A = Result Stamped BodyFault} (Ok a) (Ok b) → a ≡ b
same_stamped a b e = cc

stamped_by : (short less : Bool) (order : ByteOrder) (interface : ℕ) (body : List ℕ) (p : Stamped) → nat_lt (length body) 20 ≡ short → nat_lt (length body) (20 + four_at order body 12) ≡ less
    → (if short then Err fault.Short else if less then Err fault.Short else Ok (record {
      interface = interface;
      count = four_at order body 4 * 4294967296 + four_at order body 8;
      original = four_at order body 16;
      bytes = take (four_at order body 12) (drop 20 body);
    })) ≡ Ok p → Lies body 20 p.bytes
stamped_by true less order interface body p s l e = absurd (cc)
stamped_by false true order interface body p s l e = absurd (cc)
stamped_by false false order interface body p s l e =
    taken body 20 (four_at order body 12) p.bytes (ltb-false (length body) (20 + four_at order body 12) l) (ap (λ (x : Stamped). x.bytes) (same_stamped _ p e))

stamped_lies : (order : ByteOrder) (interface : ℕ) (body : List ℕ) (p : Stamped) → stamped_in order interface body ≡ Ok p → Lies body 20 p.bytes
stamped_lies order interface body p e = stamped_by (nat_lt (length body) 20) (nat_lt (length body) (20 + four_at order body 12)) order interface body p refl refl e

pub enhanced_lies : (order : ByteOrder) (body : List ℕ) (p : Stamped) → enhanced_in order body ≡ Ok p → Lies body 20 p.bytes
unfolding enhanced_in
enhanced_lies order body p e = stamped_lies order (four_at order body 0) body p e

pub old_lies : (order : ByteOrder) (body : List ℕ) (p : Stamped) → old_in order body ≡ Ok p → Lies body 20 p.bytes
unfolding old_in
old_lies order body p e = stamped_lies order (two_at order body 0) body p e

same_plain : (a b : Unstamped) → ◌≡◌ {A = Result Unstamped BodyFault} (Ok a) (Ok b) → a ≡ b
same_plain a b e = cc

plain_by : (short less : Bool) (order : ByteOrder) (snapshot : ℕ) (body : List ℕ) (p : Unstamped) → nat_lt (length body) (4 + simple_length snapshot (four_at order body 0)) ≡ less
    → (if short then Err fault.Short else if less then Err fault.Short else Ok (record {
      original = four_at order body 0;
      bytes = take (simple_length snapshot (four_at order body 0)) (drop 4 body);
    })) ≡ Ok p → Lies body 4 p.bytes
plain_by true less order snapshot body p l e = absurd (cc)
plain_by false true order snapshot body p l e = absurd (cc)
plain_by false false order snapshot body p l e =
    taken body 4 (simple_length snapshot (four_at order body 0)) p.bytes (ltb-false (length body) (4 + simple_length snapshot (four_at order body 0)) l) (ap (λ (x : Unstamped). x.bytes) (same_plain _ p e))

pub plain_lies : (order : ByteOrder) (snapshot : ℕ) (body : List ℕ) (p : Unstamped) → simple_in order snapshot body ≡ Ok p → Lies body 4 p.bytes
unfolding simple_in
plain_lies order snapshot body p e = plain_by (nat_lt (length body) 4) (nat_lt (length body) (4 + simple_length snapshot (four_at order body 0))) order snapshot body p refl e

-- a part of a body, by its places in the block
pub in_block : (text : List ℕ) (first after n : ℕ) → first ≤ after → after ≤ n → slice_range text (8 + first) (8 + after) ≡ slice_range (take n (drop 8 text)) first after
in_block text first after n le few =
    let k : 8 + after - (8 + first) ≡ after - first = omega arith in
    let there : drop (8 + first) text ≡ drop first (drop 8 text) = sym (drop-drop first 8 text) in
    let inside : drop first (take n (drop 8 text)) ≡ take (n - first) (drop first (drop 8 text)) = take_drop n (n - first) first (drop 8 text) (omega arith) in
    ap (λ (i : ℕ). take i (drop (8 + first) text)) k
    ∙ (ap (take (after - first)) there
    ∙ sym (ap (take (after - first)) inside ∙ take-take (after - first) (n - first) (drop first (drop 8 text)) (omega arith)))

-- the part that a record is, by its places
pub record_is : (head : PcapHead) (text : List ℕ) (k : KeptPacket) (rest : List ℕ) → pcap_record_at head text ≡ Ok (k, rest) → slice_range text 16 (16 + length k.bytes) ≡ k.bytes
    → record_part head (pcap_record_at head text) ≡ Ok (record {
      said = Shows (record { time = Some k.time; link = head.link; original = k.original; bytes = slice_range text 16 (16 + length k.bytes) });
      format = Pcap head;
      size = 16 + length k.bytes;
    })
record_is head text k rest e here = rw (e, here) refl

-- the packet of a simple block, by its places
pub plain_is : (order : ByteOrder) (kind : ℕ) (interfaces : List Interface) (i : Interface) (body : List ℕ) (p : Unstamped)
    → slice_get interfaces 0 ≡ Some i → simple_in order i.snapshot body ≡ Ok p → slice_range body 4 (4 + length p.bytes) ≡ p.bytes
    → simple_said interfaces (record { order = order; kind = kind; body = body })
    ≡ Ok (Shows (record { time = None; link = i.link; original = p.original; bytes = slice_range body 4 (4 + length p.bytes) }))
plain_is order kind interfaces i body p first e here = rw (first, e, here) refl

-- what a block says, by places in its body and by places in the block
moved_same : (interfaces : List Interface) (text : List ℕ) (n : ℕ) (s : PartSays) → IsWithin s (length interfaces) n
    → seen_said interfaces (take n (drop 8 text)) s ≡ seen_said interfaces text (moved_by 8 s)
moved_same interfaces text n (says.Packet f) w =
    ap (λ (b : List ℕ). Shows (record { time = f.time; link = f.link; original = f.original; bytes = b })) (sym (in_block text f.first f.after n w.0 w.1))
moved_same interfaces text n says.Section w = refl
moved_same interfaces text n (says.Interface i) w = refl
moved_same interfaces text n says.Other w = refl

-- the part that a block is, by its places
pub block_is : (interfaces : List Interface) (text : List ℕ) (place : BlockPlace) (s : PartSays) → 12 ≤ place.len → place.len ≤ length text
    → block_said interfaces (placed text place).0 ≡ Ok (seen_said interfaces (placed text place).0.body s)
    → IsWithin s (length interfaces) (length (placed text place).0.body)
    → block_says interfaces text place ≡ Ok (seen_part interfaces text (record { says = moved_by 8 s; format = Pcapng (Some place.order); size = place.len }))
block_is interfaces text place s least within e w =
    let behind = length-drop 8 text in
    let size : length (take (place.len - 4 - 8) (drop 8 text)) ≡ place.len - 4 - 8 = length-take-le (place.len - 4 - 8) (drop 8 text) (omega arith) in
    let whole : 12 + length (take (place.len - 4 - 8) (drop 8 text)) ≡ place.len = omega arith in
    let same = moved_same interfaces text (place.len - 4 - 8) s (rw size at w) in
    ap (said_part (placed text place).0) e
    ∙ (ap (λ (x : PartSaid). said_part (placed text place).0 (Ok x)) same
    ∙ ap (λ (n : ℕ). Ok (record { said = seen_said interfaces text (moved_by 8 s); format = Pcapng (Some place.order); size = n })) whole)
