-- Segments that show nothing new of their connection (own). Its tops: `IsOld` and `IsLast`.
use Rattle.std.specs.Prelude.{◌≡◌, ◌≤◌, ℕ, true, false, List, Some, None}
use Rattle.std.specs.List.{AllByRecursion}
use Rattle.book_sessions.specs.declared.uses.KeyUse.{KeyUse}
use Rattle.book_sessions.specs.declared.uses.SeenPass.{SeenPass}
use Rattle.book_sessions.specs.declared.uses.SeenSegment.{SeenSegment}
use Rattle.book_sessions.specs.Retiring.{Evidence, evidence_of}
use Rattle.book_sessions.specs.Sessions.{SessionTable, reached_before}

-- the segment doesn't pass, or isn't a RST, and is a SYN, or takes no numbers, or ends no further
-- than those of its connection that passed before it (RFC 9293, sections 3.4 and 3.5, and own)
pub data IsOld (s : SeenSegment) (uses : List KeyUse) : Type 0 where
  Refused : s.pass ≡ None → IsOld s uses
  Syn : s.bits.rst ≡ false → s.bits.syn ≡ true → IsOld s uses
  AckAlone : (p : SeenPass) → s.bits.rst ≡ false → s.pass ≡ Some p → p.after ≤ p.first → IsOld s uses
  Copy : (p : SeenPass) (reached : ℕ) → s.bits.rst ≡ false → s.pass ≡ Some p
      → reached_before s uses ≡ Some reached → p.after ≤ reached → IsOld s uses

-- the packet of the segment comes after those of these (own)
abbrev pub IsLast : SeenSegment → List KeyUse → Type 0
IsLast s uses = AllByRecursion (λ u. u.packet ≤ s.packet) uses

-- what a table of sessions shows, where this is taken for the latest time (own)
abbrev pub evidence_at : (latest : ℕ) → SessionTable → Evidence
evidence_at latest t = record (evidence_of t) { latest = latest }
