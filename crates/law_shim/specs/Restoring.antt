-- A guard that goes on with what was saved of another. The file's tops: `IsBehind`, `AreSentAlike`
-- and `AreTakenAlike`.
use Rattle.std.specs.Prelude.{◌≡◌, ℕ, ◌+◌, ◌≤◌, ◌<◌, ◌^◌, List, Some, None, Result, Ok, Err, true}
use Rattle.std.specs.Prelude.{false}
use Rattle.book_segments.specs.Meant.{meant}
use Rattle.book_segments.specs.Segments.{Segment, Read, reading, has, SYN}
use Rattle.book_shim.specs.declared.kept.Kept.{Kept}
use Rattle.book_shim.specs.declared.refusal.Unsent.{Unsent}
use Rattle.book_shim.specs.declared.refusal.Untaken.{Untaken}
use Rattle.book_shim.specs.Saving.{saved_stretch}
use Rattle.book_shim.specs.Leaving.{Sealed}
use Rattle.book_shim.specs.Arriving.{Opened, may_be_replayed}

-- what is kept, with other numbers (own)
abbrev pub with_numbers : Kept → (sent heard : ℕ) → Kept
with_numbers g sent heard = record g { sent = sent; heard = heard }

-- the other guard keeps the same but for its two numbers, which are at most these and less than a
-- stretch behind (own)
pub record IsBehind (g r : Kept) : Type 0 where
  pub same : r ≡ with_numbers g r.sent r.heard
  pub sent : r.sent ≤ g.sent
  pub sent_near : g.sent < r.sent + saved_stretch
  pub heard : r.heard ≤ g.heard
  pub heard_near : g.heard < r.heard + saved_stretch

-- nothing but a connection is kept, and in it more than SYNs passed (own)
pub record IsQuiet (g : Kept) : Type 0 where
  pub opening : g.opening ≡ None
  pub given_up : g.given_up ≡ None
  pub late : g.late ≡ None
  pub settled : g.settled ≡ true

-- without SYN, what bytes are read as means a number that is at most 2^31 - 2^29 from this one (RFC
-- 5925, section 6.2, and own)
abbrev pub IsClose : (expected : ℕ) → List ℕ → Type 0
IsClose x bytes = (d : Segment) → reading bytes ≡ Read d → has SYN d ≡ false
    → (n : ℕ) × (meant d.sequence x ≡ Some n) × (n + saved_stretch ≤ x + 2 ^ 31)
    × (x + saved_stretch ≤ n + 2 ^ 31)

-- two guards send the same, or refuse for the same reason, and the one stays behind the other (own)
abbrev pub AreSentAlike : (one other : Result Sealed Unsent) → Type 0
AreSentAlike (Ok m) (Ok n) = (n ≡ record m { kept = n.kept }) × IsBehind m.kept n.kept
AreSentAlike (Ok m) (Err why) = ⊥
AreSentAlike (Err why) (Ok n) = ⊥
AreSentAlike (Err why) (Err other) = other ≡ why

-- two guards hand on the same of these bytes, with the same finding; the one stays behind the
-- other, but for its current row where only the one that is ahead may take it for a replay (own)
pub record IsOpenedAlike (g r : Kept) (bytes : List ℕ) (t u : Opened) : Type 0 where
  pub passed : u.passed ≡ t.passed
  pub segment : u.segment ≡ t.segment
  pub kept : IsBehind (record t.kept { current = u.kept.current }) u.kept
  pub current : (d : Segment) → reading bytes ≡ Read d
      → may_be_replayed g d t.passed.number ≡ may_be_replayed r d t.passed.number
      → u.kept.current ≡ t.kept.current

-- two guards hand on the same of these bytes, or refuse them for the same reason (own)
abbrev pub AreTakenAlike : (g r : Kept) → List ℕ → (one other : Result Opened Untaken) → Type 0
AreTakenAlike g r bytes (Ok t) (Ok u) = IsOpenedAlike g r bytes t u
AreTakenAlike g r bytes (Ok t) (Err why) = ⊥
AreTakenAlike g r bytes (Err why) (Ok u) = ⊥
AreTakenAlike g r bytes (Err why) (Err other) = other ≡ why
