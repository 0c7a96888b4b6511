-- What is judged of the packet that a reader shows.
use Rattle.std.proofs.Common.{◌≡◌, ℕ, ◌/◌, ◌≤◌, List, take, drop, Option, Some, Result, Ok, Err, IfSome, refl, ap}
use Rattle.std.proofs.lemmas.List.Folds.{drop_split}
use Rattle.book_captures.specs.declared.reasons.Skipped.{Skipped}
use Rattle.book_captures.specs.Frames.{Datagram}
use Rattle.book_captures.specs.Captures.{CapturePacket, frame_datagram}
use Rattle.book_cmd_check.specs.Captures.{Stored}
use Rattle.book_sessions.specs.declared.outcome.PassedOver.{PassedOver}
use Rattle.book_sessions.specs.Sessions.{captured_by, captured_of_packet}
use Rattle.capture_reader.specs.declared.frames.FoundDatagram.{FoundDatagram}
use Rattle.capture_reader.specs.Found.{Gives, seen}
use Rattle.scope_lines.specs.Writes.{found_in}

abbrev ok_stored : Stored → Result Stored PassedOver
ok_stored s = Ok s

-- what is judged of a datagram that was found, with those bytes behind it
pub stored_found : (number t : ℕ) (time : Option ℕ) (frame : List ℕ) (d : FoundDatagram) (found : Result FoundDatagram Skipped) (bytes : List ℕ) → time ≡ Some t → found ≡ Ok d → d.first ≤ d.after → bytes ≡ take 65575 (drop d.first frame)
    → ◌≡◌ {A = Result Stored PassedOver} (Ok (record { number = number; time = t / 1000000000; bytes = bytes })) (captured_by number time (found_in frame found))
stored_found number t time frame d found bytes time_is found_is ordered bytes_are =
    rw (time_is, found_is, bytes_are)
    (ap (λ (xs : List ℕ). ok_stored (record { number = number; time = t / 1000000000; bytes = take 65575 xs })) (drop_split frame d.first d.after ordered))

given_found : (frame : List ℕ) (found : Result FoundDatagram Skipped) (r : Result Datagram Skipped) → Gives (seen frame) found r → r ≡ found_in frame found
given_found frame (Ok d) r gives = gives
given_found frame (Err why) r gives = gives

of_frame : (p : CapturePacket) (time : Option ℕ) (frame : List ℕ) (found : Result FoundDatagram Skipped) → time ≡ p.frame.time → frame ≡ p.frame.bytes → Gives (seen p.frame.bytes) found (frame_datagram p.frame) →
    captured_by p.number time (found_in frame found) ≡ captured_of_packet p
of_frame p time frame found time_is frame_is gives = rw (time_is, frame_is, given_found p.frame.bytes found (frame_datagram p.frame) gives) refl

pub stored_is : (packet : Option CapturePacket) (p : CapturePacket) (time : Option ℕ) (frame : List ℕ) (found : Result FoundDatagram Skipped) → packet ≡ Some p
    → IfSome packet (λ p. time ≡ p.frame.time) → IfSome packet (λ p. frame ≡ p.frame.bytes) → IfSome packet (λ p. Gives (seen p.frame.bytes) found (frame_datagram p.frame))
    → captured_by p.number time (found_in frame found) ≡ captured_of_packet p
stored_is packet p time frame found is time_is frame_is gives = of_frame p time frame found (rw is at time_is) (rw is at frame_is) (rw is at gives)
