-- The next packet of what is to come.
use Rattle.std.proofs.Common.{◌≡◌, ℕ, List, [], ◌++◌, Option, Some, IsSome, Result, Ok, Err, refl, sym, ap, ◌∙◌, append_assoc}
use Rattle.std.proofs.lemmas.List.{append-nil}
use Rattle.ao_base.specs.Outside.{Side, told}
use Rattle.ao_base.proofs.Sides.{told_given, nothing_told}
use Rattle.book_captures.specs.Parts.{PartSaid, Shows, Describes, Neither}
use Rattle.book_captures.specs.Captures.{CapturePacket, with_said}
use Rattle.capture_walk.specs.declared.reader.CaptureHalt.{CaptureHalt}
use Rattle.capture_walk.specs.declared.reader.CaptureHalt.TheVariants as halt
use Rattle.capture_walk.specs.declared.reader.CaptureStep.{CaptureStep}
use Rattle.capture_walk.specs.declared.reader.CaptureStep.TheVariants as step
use Rattle.capture_walk.specs.Reads.{Reading, to_come, left_to_come, packet_shown, ShowsPacket, Passes, Steps, Walks}

passes_on : (before now : Reading) (text left left_now : List ℕ) (said : PartSaid) → before.kept ++ left ≡ text ++ left_now → Passes before now text said
    → left_to_come before left ≡ with_said said before.counts.packets (left_to_come now left_now)
passes_on before now text left left_now said split p =
    ap (to_come before) (split ∙ (ap (λ (xs : List ℕ). xs ++ left_now) p.split ∙ append_assoc p.past now.kept left_now)) ∙ p.says (now.kept ++ left_now)

by_answer : (before now : Reading) (a b : Side) (given left : List ℕ) (result : Result CaptureStep CaptureHalt) → before.kept ++ left ≡ (before.kept ++ given) ++ told b.bytes
    → Steps before now a b given result → Walks before now left (told b.bytes) result
by_answer before now a b given left (Ok step.Packet) split s =
    (s.answers.0, s.answers.2, s.answers.1.shown, passes_on before now (before.kept ++ given) left (told b.bytes) s.answers.0 split s.answers.1)
by_answer before now a b given left (Ok step.Block) split s =
    (s.answers.0, s.answers.2, passes_on before now (before.kept ++ given) left (told b.bytes) s.answers.0 split s.answers.1)
by_answer before now a b given left (Ok step.End) split s =
    ap (to_come before) (split ∙ (ap (λ (xs : List ℕ). (before.kept ++ given) ++ xs) (nothing_told b s.answers.1) ∙ append-nil (before.kept ++ given))) ∙ s.answers.2
by_answer before now a b given left (Err halt.Read) split s = tt
by_answer before now a b given left (Err halt.TooLong) split s = tt
by_answer before now a b given left (Err (halt.Broken fault)) split s = ap (to_come before) split ∙ s.answers.2

pub walks : (before now : Reading) (a b : Side) (given left : List ℕ) (result : Result CaptureStep CaptureHalt) → a.bytes ≡ Some left
    → Steps before now a b given result → Walks before now left (told b.bytes) result
walks before now a b given left result is s =
    by_answer before now a b given left result
    (ap (λ (xs : List ℕ). before.kept ++ xs) (told_given a.bytes b.bytes given left is s.gave.bytes) ∙ sym (append_assoc before.kept given (told b.bytes))) s

some_by : (said : PartSaid) (count : ℕ) (packet : Option CapturePacket) → ShowsPacket said → packet ≡ packet_shown count said → IsSome packet
some_by (Shows frame) count packet shows e = rw e refl
some_by (Describes known) count packet shows e = absurd shows
some_by Neither count packet shows e = absurd shows

pub some_shown : (before now : Reading) (a b : Side) (given : List ℕ) (result : Result CaptureStep CaptureHalt) → Steps before now a b given result → result ≡ Ok step.Packet → IsSome now.packet
some_shown before now a b given result s e =
    let t = rw e at s in some_by t.answers.0 before.counts.packets now.packet t.answers.2 t.answers.1.shown
