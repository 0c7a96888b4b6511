-- The line of a packet, and what is written of it.
use Rattle.std.proofs.Common.{◌≡◌, ℕ, ◌-◌, ◌≤◌, true, false, List, [], ◌∷◌, ◌++◌, length, take, drop, min, Option, Some, None, Result, Ok, Err, IfSome, IsSome, refl, ap, ◌∙◌, arith, ◌/◌, decimal, IfOk}
use Rattle.std.proofs.lemmas.List.Folds.{drop_split}
use Rattle.book_base.specs.Hexadecimal.{hex_of}
use Rattle.std.proofs.lemmas.List.{take_all, take_min, length-drop}
use Rattle.ao_base.specs.Outside.{Side}
use Rattle.ao_base.proofs.Sides.{took_none}
use Rattle.book_captures.specs.declared.reasons.Skipped.{Skipped}
use Rattle.book_captures.specs.Frames.{Datagram}
use Rattle.book_captures.specs.Captures.{CapturePacket, frame_datagram}
use Rattle.book_captures.specs.PacketLines.{line_by, packet_line}
use Rattle.capture_reader.specs.declared.frames.FoundDatagram.{FoundDatagram}
use Rattle.capture_reader.specs.Found.{Gives, seen}
use Rattle.scope_lines.specs.Writes.{found_in}

-- a slice of a slice's end
pub end_taken : (n at : ℕ) (xs : List ℕ) → at ≤ length xs → n ≡ min 65575 (length (take (length xs - at) (drop at xs))) → take n (take (length xs - at) (drop at xs)) ≡ take 65575 (drop at xs)
end_taken n at xs within is =
    let size = length-drop at xs in
    let whole : take (length xs - at) (drop at xs) ≡ drop at xs = take_all (length xs - at) (drop at xs) (omega arith) in
    rw (is, whole) (take_min 65575 (drop at xs))

given_found : (frame : List ℕ) (found : Result FoundDatagram Skipped) (r : Result Datagram Skipped) → Gives (seen frame) found r → r ≡ found_in frame found
given_found frame (Ok d) r gives = gives
given_found frame (Err why) r gives = gives

line_of : (p : CapturePacket) (number : ℕ) (time : Option ℕ) (frame : List ℕ) (found : Result FoundDatagram Skipped) → number ≡ p.number → time ≡ p.frame.time → frame ≡ p.frame.bytes
    → Gives (seen p.frame.bytes) found (frame_datagram p.frame) → line_by number time (found_in frame found) ≡ packet_line p
unfolding packet_line
line_of p number time frame found number_is time_is frame_is gives = rw (number_is, time_is, frame_is, given_found p.frame.bytes found (frame_datagram p.frame) gives) refl

-- the line of the packet that is shown
pub line_done : (packet : Option CapturePacket) (number : ℕ) (time : Option ℕ) (frame : List ℕ) (found : Result FoundDatagram Skipped) (line : List ℕ) → IfSome packet (λ p. number ≡ p.number) → IfSome packet (λ p. time ≡ p.frame.time)
    → IfSome packet (λ p. frame ≡ p.frame.bytes) → IfSome packet (λ p. Gives (seen p.frame.bytes) found (frame_datagram p.frame)) → line ≡ line_by number time (found_in frame found) ++ 10 ∷ []
    → IfSome packet (λ p. line ≡ packet_line p ++ 10 ∷ [])
line_done None number time frame found line number_is time_is frame_is gives is = tt
line_done (Some p) number time frame found line number_is time_is frame_is gives is = is ∙ ap (λ xs. xs ++ 10 ∷ []) (line_of p number time frame found number_is time_is frame_is gives)

-- the line of a datagram that was found is that of its bytes with those behind it
pub stored_line : (number t : ℕ) (time : Option ℕ) (frame : List ℕ) (d : FoundDatagram) (found : Result FoundDatagram Skipped) (bytes : List ℕ) → time ≡ Some t → found ≡ Ok d → d.first ≤ d.after → bytes ≡ take 65575 (drop d.first frame)
    → decimal (t / 1000000000) ++ 32 ∷ hex_of bytes ≡ line_by number time (found_in frame found)
stored_line number t time frame d found bytes time_is found_is ordered bytes_are =
    rw (time_is, found_is, bytes_are) (ap (λ (xs : List ℕ). decimal (t / 1000000000) ++ 32 ∷ hex_of (take 65575 xs)) (drop_split frame d.first d.after ordered))

-- where it lies in its frame
pub found_within : (packet : Option CapturePacket) (frame : List ℕ) (found : Result FoundDatagram Skipped) → IsSome packet → IfSome packet (λ p. frame ≡ p.frame.bytes) → IfOk found (λ d. d.first ≤ d.after)
    → IfSome packet (λ p. IfOk found (λ d. d.after ≤ length p.frame.bytes)) → IfOk found (λ d. (d.first ≤ d.after) × (d.after ≤ length frame))
found_within None frame found some frame_is ordered within = let bad : false ≡ true = some in absurd (cc)
found_within (Some p) frame (Err why) some frame_is ordered within = tt
found_within (Some p) frame (Ok d) some frame_is ordered within = (ordered, rw frame_is within)
