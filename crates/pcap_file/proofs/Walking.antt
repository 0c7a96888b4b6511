-- The answer that the content wants, and the packets of a file one by one.
use Rattle.std.proofs.Common.{◌≡◌, ℕ, ◌+◌, List, [], ◌++◌, length, Some, refl, sym, ap, ◌∙◌, append_assoc, arith}
use Rattle.std.proofs.lemmas.List.{length-append}
use Rattle.ao_base.specs.Outside.{Side, told}
use Rattle.ao_base.proofs.Sides.{told_given}
use Rattle.book_base.specs.Fronts.{Front, Ends, Faulted, Leads}
use Rattle.book_pcap.specs.Packets.{Kept, RecordFault, Broken, record_at, datagram_of}
use Rattle.book_pcap.proofs.Captures.{record_none, packets_step}
use Rattle.pcap_file.specs.declared.packets.PacketStep.{PacketStep}
use Rattle.pcap_file.specs.declared.packets.PacketStep.TheVariants.{Packet, End, Fault, TooLong, BadHead, BadRecord}
use Rattle.pcap_file.specs.Reads.{Reading, Steps, step_at, wanted_step, IsOpen, Exactly, Walks, IsQuiet, IsPacketOrEnd}

at_front : (count : ℕ) (front : Front Kept RecordFault) → IsOpen (step_at count front)
at_front count Ends = tt
at_front count (Faulted Broken) = tt
at_front count (Leads packet rest) = tt

exact_step : (before now : Reading) (a b : Side) (given left : List ℕ) (step : PacketStep) → before.kept ++ left ≡ (before.kept ++ given) ++ told b.bytes →
    Steps before now a b given step → Exactly (wanted_step before left) step
exact_step before now a b given left Packet text steps = rw (text, steps.answers.opens, steps.answers.whole) refl
exact_step before now a b given left End text steps = let opening = steps.answers.1 in rw (text, opening.2, opening.4, record_none opening.0.order) refl
exact_step before now a b given left Fault text steps = tt
exact_step before now a b given left TooLong text steps = let opening = steps.answers.2 in rw (text, opening.2) (at_front before.count (record_at opening.0.order opening.1))
exact_step before now a b given left (BadHead fault) text steps = rw (text, steps.answers.3) refl
exact_step before now a b given left (BadRecord n) text steps = let opening = steps.answers.2 in rw (text, opening.2, opening.4, steps.answers.1) refl

walk_step : (before now : Reading) (a b : Side) (given left : List ℕ) (step : PacketStep) → before.kept ++ left ≡ (before.kept ++ given) ++ told b.bytes →
    Steps before now a b given step → Walks before now left (told b.bytes) step
walk_step before now a b given left Packet text steps =
    let shows = steps.answers in (
      record { number = before.count + 1; seconds = shows.packet.seconds; datagram = datagram_of shows.head.link shows.packet.bytes },
      shows.shown,
      rw (text, shows.opens, shows.known, shows.count, packets_step shows.head (before.count + 1) shows.body, shows.whole) refl,
    )
walk_step before now a b given left End text steps =
    let opening = steps.answers.1 in rw (text, opening.2, opening.4, packets_step opening.0 (before.count + 1) [], record_none opening.0.order) refl
walk_step before now a b given left Fault text steps = tt
walk_step before now a b given left TooLong text steps = tt
walk_step before now a b given left (BadHead fault) text steps = rw (text, steps.answers.3) refl
walk_step before now a b given left (BadRecord n) text steps =
    let opening = steps.answers.2 in
    rw (text, opening.2, packets_step opening.0 (before.count + 1) opening.1, opening.4, steps.answers.1) refl

text_is : (before now : Reading) (a b : Side) (given left : List ℕ) (step : PacketStep) → a.bytes ≡ Some left → Steps before now a b given step →
    before.kept ++ left ≡ (before.kept ++ given) ++ told b.bytes
text_is before now a b given left step is steps =
    ap (λ xs. before.kept ++ xs) (told_given a.bytes b.bytes given left is steps.gave.bytes) ∙ sym (append_assoc before.kept given (told b.bytes))

pub exact_call : (before now : Reading) (a b : Side) (given left : List ℕ) (step : PacketStep) → a.bytes ≡ Some left → Steps before now a b given step → Exactly (wanted_step before left) step
exact_call before now a b given left step is steps = exact_step before now a b given left step (text_is before now a b given left step is steps) steps

pub walk_call : (before now : Reading) (a b : Side) (given left : List ℕ) (step : PacketStep) → a.bytes ≡ Some left → Steps before now a b given step → Walks before now left (told b.bytes) step
walk_call before now a b given left step is steps = walk_step before now a b given left step (text_is before now a b given left step is steps) steps

good_step : (before now : Reading) (a b : Side) (given left : List ℕ) (step : PacketStep) → IsQuiet before a b left →
    left ≡ given ++ told b.bytes → Steps before now a b given step → Exactly (wanted_step before left) step → IsPacketOrEnd step
good_step before now a b given left Packet quiet split steps exact = tt
good_step before now a b given left End quiet split steps exact = tt
good_step before now a b given left Fault quiet split steps exact = absurd (quiet.quiet steps.answers.1)
good_step before now a b given left TooLong quiet split steps exact =
    let size : length left ≡ length given + length (told b.bytes) = rw split (length-append given (told b.bytes)) in
    let over = steps.answers.1 in
    let taken = steps.taken in
    let most = quiet.most in
    absurd (omega arith)
good_step before now a b given left (BadHead fault) quiet split steps exact = absurd (rw exact at quiet.sound)
good_step before now a b given left (BadRecord n) quiet split steps exact = absurd (rw exact at quiet.sound)

pub quiet_call : (before now : Reading) (a b : Side) (given left : List ℕ) (step : PacketStep) → IsQuiet before a b left → Steps before now a b given step → IsPacketOrEnd step
quiet_call before now a b given left step quiet steps =
    good_step before now a b given left step quiet (told_given a.bytes b.bytes given left quiet.told steps.gave.bytes) steps (exact_call before now a b given left step quiet.told steps)
