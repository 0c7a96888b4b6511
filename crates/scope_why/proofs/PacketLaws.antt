-- What is judged of the packet that a reader shows.
use Rattle.std.proofs.Common.{◌≡◌, ℕ, List, Option, Some, Result, Ok, Err, IfSome, refl}
use Rattle.book_captures.specs.declared.reasons.Skipped.{Skipped}
use Rattle.book_captures.specs.Frames.{Datagram}
use Rattle.book_captures.specs.Captures.{CapturePacket, frame_datagram}
use Rattle.book_sessions.specs.Sessions.{captured_by, captured_of_packet}
use Rattle.capture_reader.specs.declared.frames.FoundDatagram.{FoundDatagram}
use Rattle.capture_reader.specs.Found.{Gives, seen}
use Rattle.scope_lines.specs.Writes.{found_in}

given_found : (frame : List ℕ) (found : Result FoundDatagram Skipped) (r : Result Datagram Skipped) → Gives (seen frame) found r → r ≡ found_in frame found
given_found frame (Ok d) r gives = gives
given_found frame (Err why) r gives = gives

of_frame : (p : CapturePacket) (time : Option ℕ) (frame : List ℕ) (found : Result FoundDatagram Skipped) → time ≡ p.frame.time → frame ≡ p.frame.bytes → Gives (seen p.frame.bytes) found (frame_datagram p.frame) →
    captured_by p.number time (found_in frame found) ≡ captured_of_packet p
of_frame p time frame found time_is frame_is gives = rw (time_is, frame_is, given_found p.frame.bytes found (frame_datagram p.frame) gives) refl

pub stored_is : (packet : Option CapturePacket) (p : CapturePacket) (time : Option ℕ) (frame : List ℕ) (found : Result FoundDatagram Skipped) → packet ≡ Some p
    → IfSome packet (λ p. time ≡ p.frame.time) → IfSome packet (λ p. frame ≡ p.frame.bytes) → IfSome packet (λ p. Gives (seen p.frame.bytes) found (frame_datagram p.frame))
    → captured_by p.number time (found_in frame found) ≡ captured_of_packet p
stored_is packet p time frame found is time_is frame_is gives = of_frame p time frame found (rw is at time_is) (rw is at frame_is) (rw is at gives)
