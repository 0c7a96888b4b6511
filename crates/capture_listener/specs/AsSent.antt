-- Bytes whose header checksum is set (own).
use Rattle.std.specs.Prelude.{◌≡◌, ℕ, ◌-◌, ◌%◌, ◌==◌, true, false, List, Option, Some, None, if◌then◌else◌}
use Rattle.std.specs.declared.vec.Vec.{Vec}
use Rattle.book_sessions.specs.AsSent.{lacks_checksum, mended}

-- the complement of the one's complement sum, for a plain sum (RFC 1071)
abbrev pub complement_at : ℕ → ℕ
complement_at s = if s == 0 then 65535 else (if s % 65535 == 0 then 0 else 65535 - s % 65535)

-- the bytes with a header checksum, where it isn't set
abbrev pub IsMended : {Z : Type 0} → List ℕ → Option (Vec ℕ Z) → Type 0
IsMended bytes None = lacks_checksum bytes ≡ false
IsMended bytes (Some v) = (lacks_checksum bytes ≡ true) × (v.items ≡ mended bytes)
