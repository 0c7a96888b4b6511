-- A call goes on in the packets, whatever follows what was given.
use Rattle.std.proofs.Common.{◌≡◌, ℕ, ◌+◌, ◌≤◌, List, [], ◌++◌, length, Some, Ok, refl, sym, ap, ◌∙◌, append_assoc, arith}
use Rattle.std.proofs.lemmas.List.{append-nil, append_cancel_right, length-append}
use Rattle.ao_base.specs.Outside.{Side, told}
use Rattle.ao_base.proofs.Sides.{nothing_told}
use Rattle.book_pcap.specs.declared.pcap_head.HeadFault.{HeadFault}
use Rattle.book_pcap.specs.Packets.{BadHead as head_refused, BadRecord as record_refused, datagram_of}
use Rattle.book_pcap.proofs.Captures.{record_none, packets_step}
use Rattle.pcap_file.specs.declared.packets.PacketStep.{PacketStep}
use Rattle.pcap_file.specs.declared.packets.PacketStep.TheVariants.{Packet, End, Fault, TooLong, BadHead, BadRecord}
use Rattle.pcap_file.specs.Reads.{Reading, Steps, Shows, GoesOn, packets_at, opened_from}
use Rattle.pcap_file.proofs.Fronts.{RecordFront, HeadFront, record_front, head_front}

shows_on : (before now : Reading) (b : Side) (text : List ℕ) (shows : Shows before now b (text ++ told b.bytes)) → HeadFront before.head (text ++ told b.bytes) shows.head shows.body →
    RecordFront shows.head.order shows.body shows.packet (now.kept ++ told b.bytes) → GoesOn before now text Packet
shows_on before now b text shows first second =
    let past : List ℕ = first.past ++ second.past in
    let whole : text ++ told b.bytes ≡ (past ++ now.kept) ++ told b.bytes =
    first.split ∙ (ap (λ xs. first.past ++ xs) second.split ∙ (sym (append_assoc first.past second.past (now.kept ++ told b.bytes)) ∙ sym (append_assoc past now.kept (told b.bytes)))) in (
      past,
      record { number = before.count + 1; seconds = shows.packet.seconds; datagram = datagram_of shows.head.link shows.packet.bytes },
      append_cancel_right text (past ++ now.kept) (told b.bytes) whole,
      shows.shown,
      (let some = second.some in omega (arith, length-append first.past second.past)),
      λ more.
          let group : past ++ more ≡ first.past ++ (second.past ++ more) = append_assoc first.past second.past more in
          rw (group, first.stays (second.past ++ more), shows.known, shows.count, packets_step shows.head (before.count + 1) (second.past ++ more), second.stays more) refl,
    )

-- what a call goes on in
pub goes_on : (before now : Reading) (a b : Side) (given : List ℕ) (step : PacketStep) → Steps before now a b given step → GoesOn before now (before.kept ++ given) step
goes_on before now a b given Packet steps =
    let shows = steps.answers in
    shows_on before now b (before.kept ++ given) shows (head_front before.head _ shows.head shows.body shows.opens) (record_front shows.head.order shows.body shows.packet _ shows.whole)
goes_on before now a b given End steps =
    let opening = steps.answers.1 in
    let gone : (before.kept ++ given) ++ told b.bytes ≡ before.kept ++ given = rw (nothing_told b steps.answers.2) (append-nil (before.kept ++ given)) in
    let opens : opened_from before.head (before.kept ++ given) ≡ Ok (opening.0, opening.1) = rw gone at opening.2 in
    rw (opens, opening.4, packets_step opening.0 (before.count + 1) [], record_none opening.0.order) refl
goes_on before now a b given Fault steps = tt
goes_on before now a b given TooLong steps = tt
goes_on before now a b given (BadHead fault) steps = rw (steps.answers.4) refl
goes_on before now a b given (BadRecord n) steps =
    let opening = steps.answers.3 in
    rw (opening.2, packets_step opening.0 (before.count + 1) opening.1, opening.4, steps.answers.1) refl

-- a refused header is refused by all that the source tells
pub head_told : (before now : Reading) (a b : Side) (given : List ℕ) (fault : HeadFault) → Steps before now a b given (BadHead fault) →
    packets_at before ((before.kept ++ given) ++ told b.bytes) ≡ record { list = []; fault = Some (head_refused fault) }
head_told before now a b given fault steps = rw (steps.answers.3) refl

-- and so is a record
pub record_told : (before now : Reading) (a b : Side) (given : List ℕ) (n : ℕ) → Steps before now a b given (BadRecord n) →
    packets_at before ((before.kept ++ given) ++ told b.bytes) ≡ record { list = []; fault = Some (record_refused n) }
record_told before now a b given n steps =
    let opening = steps.answers.2 in
    rw (opening.2, packets_step opening.0 (before.count + 1) opening.1, opening.4, steps.answers.1) refl
