-- What was read of a capture (own).
use Rattle.std.specs.Prelude.{◌≡◌, ℕ, ◌+◌, ◌≤◌, false, List, [], ◌∷◌, ◌++◌, length, Option, Some}
use Rattle.std.specs.Prelude.{None}
use Rattle.std.specs.List.{All}
use Rattle.ao_base.specs.Outside.{Side, Gave}
use Rattle.book_base.specs.Hexadecimal.{IsByte}
use Rattle.book_captures.specs.Captures.{CapturePacket, Capture, capture_of}
use Rattle.capture_walk.specs.Reads.{Reading, most_ahead, most_buffered, most_read, to_come}

-- these packets, with so many blocks passed over, in front of others (own)
abbrev pub shown_before : List CapturePacket → ℕ → Capture → Capture
shown_before shown passed others = record {
  packets = shown ++ others.packets;
  passed = passed + others.passed;
  fault = others.fault;
}

-- these packets were read, and no others: they are those of the bytes in front, and whatever
-- follows is read by a reader that stands there; little more was taken (own)
pub record HasRead (given : List ℕ) (read : List CapturePacket) : Type 0 where
  pub front : List ℕ
  pub rest : List ℕ
  pub split : given ≡ front ++ rest
  pub few : length rest ≤ most_ahead
  pub reader : Reading
  pub goes_on : (more : List ℕ) →
      capture_of (front ++ more) ≡ shown_before read reader.passed (to_come reader more)

-- the packet that is shown, if one is
abbrev pub listed : Option CapturePacket → List CapturePacket
listed None = []
listed (Some p) = p ∷ []

-- the reader took these bytes in all and showed these packets: they are the packets of the bytes in
-- front of those that it keeps, whatever follows
pub record HasShown (reading : Reading) (given : List ℕ) (shown : List CapturePacket) : Type 0 where
  pub front : List ℕ
  pub split : given ≡ front ++ reading.kept
  pub comes : (more : List ℕ) →
      capture_of (front ++ more) ≡ shown_before shown reading.passed (to_come reading more)
  pub bytes : reading.counts.bytes ≡ length front
  pub near : length reading.kept ≤ most_buffered

-- these bytes were given, and these packets shown
pub record HasTaken (reader : Reading) (given : List ℕ) (shown : List CapturePacket)
    (source_before source_now : Side) : Type 0 where
  pub gave : Gave given source_before source_now
  pub bytes : All IsByte given
  pub shows : HasShown reader given shown
  pub within : reader.counts.bytes ≤ most_read
  pub going : reader.over ≡ false
