-- The packets of a capture as files have them (own).
use Rattle.std.specs.Prelude.{◌≡◌, ℕ, ◌+◌, ◌<◌, List, [], ◌∷◌, Some}
use Rattle.std.specs.List.{All}
use Rattle.book_base.specs.Hexadecimal.{IsByte}
use Rattle.book_captures.specs.Captures.{CapturePacket}

-- a packet of a file: its number, that of its link type and its time in nanoseconds have 64 bits, and
-- its frame is bytes (own)
pub record IsSeen (p : CapturePacket) : Type 0 where
  pub number : p.number < 18446744073709551616
  pub link : p.frame.link < 18446744073709551616
  pub time : (t : ℕ) → p.frame.time ≡ Some t → t < 18446744073709551616
  pub bytes : All IsByte p.frame.bytes

-- packets of a file one after another, the first of number n (own)
abbrev pub AreSeen : ℕ → List CapturePacket → Type 0
AreSeen n [] = Unit {0}
AreSeen n (p ∷ ps) = (p.number ≡ n) × IsSeen p × AreSeen (n + 1) ps
