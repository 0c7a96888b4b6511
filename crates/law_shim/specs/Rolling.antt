-- What guards over aligned tables may rely on while keys roll over. The file's tops:
-- `IsTakenUnder` and `IsKeyed`.
use Rattle.std.specs.Prelude.{◌≡◌, ℕ, ◌+◌, ◌≤◌, ◌<◌, ◌^◌, ◌&&◌, not, Bool, true, false, List, Some}
use Rattle.std.specs.Prelude.{Result, Err}
use Rattle.book_base.specs.declared.address.Pair.{Pair}
use Rattle.book_segments.specs.Options.{Ao, One, find_ao}
use Rattle.book_segments.specs.Segments.{Segment, has, SYN, ACK}
use Rattle.book_segments.specs.Spelling.{Fits}
use Rattle.book_macs.specs.Contexts.{context_of}
use Rattle.book_keys.specs.declared.lint.LintAnswer.TheVariants as answer
use Rattle.book_keys.specs.declared.plan.Plan.{Plan}
use Rattle.book_keys.specs.Choices.{Numbered, accept_row}
use Rattle.book_keys.specs.Lifetimes.{greatest_time}
use Rattle.book_keys.specs.Plans.{lint_rows}
use Rattle.book_endpoint.specs.declared.refusal.Refusal.TheVariants.{NoTuple, Expired}
use Rattle.book_shim.specs.declared.kept.Kept.{Kept}
use Rattle.book_shim.specs.declared.refusal.Unsent.{Unsent}
use Rattle.book_shim.specs.declared.refusal.Unsent.TheVariants.{NoKey, Unkeyed as NoRow}
use Rattle.book_shim.specs.declared.refusal.Untaken.{Untaken}
use Rattle.book_shim.specs.declared.refusal.Untaken.TheVariants.{Refused, Unkeyed}
use Rattle.book_shim.specs.Keeping.{Setting}
use Rattle.book_shim.specs.Leaving.{Sealed, outbound}
use Rattle.book_shim.specs.Arriving.{Opened, is_awaited, known_for, take_in}
use Rattle.law_shim.specs.Origins.{ComesOut}

-- the judgement on the tables of two guards is `aligned`; the first one's local socket is that of
-- the pair (own)
abbrev pub AreAligned : Plan → Pair → (a b : Setting) → Type 0
AreAligned plan pair a b = lint_rows a.rows b.rows pair plan ≡ answer.Aligned

-- the taker's reading is at most `lead` behind the maker's when it made the segment, and at most
-- `lag` ahead, and a time that a key file can write (own)
pub record IsInTime (plan : Plan) (made now : ℕ) : Type 0 where
  pub early : made ≤ now + plan.lead
  pub late : now ≤ made + plan.lag
  pub readable : now ≤ greatest_time

-- a reading is within the times for which the plan was judged (own)
pub record IsPlanned (plan : Plan) (now : ℕ) : Type 0 where
  pub after : plan.from ≤ now
  pub before : now ≤ plan.to

-- the datagram is refused for want of a row: for the pair, for its KeyID, or for it now (RFC 5925,
-- section 7.5)
abbrev pub lacks_row : Result Opened Untaken → Bool
lacks_row (Err Unkeyed) = true
lacks_row (Err (Refused NoTuple)) = true
lacks_row (Err (Refused Expired)) = true
lacks_row answer = false

-- the datagram isn't sent for want of a row: for the pair, or that may send now (RFC 5925, section
-- 7.4)
abbrev pub lacks_key : Result Sealed Unsent → Bool
lacks_key (Err NoRow) = true
lacks_key (Err NoKey) = true
lacks_key answer = false

-- a guard is ready for what was sealed in all but its table: a SYN with ACK is awaited, the context
-- is that under which it was sealed, and without SYN its number is within 2^31 of the one expected
-- (RFC 5925, sections 5.2 and 6.2)
pub record IsExpected (g : Kept) (m : Sealed) : Type 0 where
  pub awaited : (has SYN m.segment && has ACK m.segment && not (is_awaited g m.segment)) ≡ false
  pub context : context_of m.segment (known_for g m.segment).peer_isn
      (Some (known_for g m.segment).own_isn) ≡ Some m.context
  pub near : has SYN m.segment ≡ false → (x : ℕ) × ((known_for g m.segment).expected ≡ Some x)
      × (m.number < x + 2 ^ 31) × (x ≤ m.number + 2 ^ 31)

-- a row with the same algorithm, key and flag takes the KeyID of what was sealed now. Whatever has
-- this KeyID isn't refused for want of a row, nor is what was sealed, which comes out as the kernel
-- gave it at each guard that is ready for it in all but its table (RFC 5925, section 7.5)
pub record IsTakenUnder (here : Setting) (pair : Pair) (m : Sealed) : Type 0 where
  pub row : Numbered
  pub accepted : accept_row here.rows pair m.sending.key_id here.now ≡ Some row
  pub algorithm : row.row.algorithm ≡ m.sending.row.algorithm
  pub master : row.row.master ≡ m.sending.row.master
  pub with_options : row.row.with_options ≡ m.sending.row.with_options
  pub met : (g : Kept) (d : Segment) (ao : Ao) → find_ao d.area ≡ One ao
      → ao.key_id ≡ m.sending.key_id → lacks_row (take_in here pair g d) ≡ false
  pub met_itself : Fits m.given → (g : Kept) → lacks_row (take_in here pair g m.segment) ≡ false
  pub comes_out : Fits m.given → (g : Kept) → IsExpected g m → ComesOut here pair g m

-- no datagram of the kernel is refused for want of a row that may send (RFC 5925, section 7.4)
abbrev pub IsKeyed : Setting → Pair → Type 0
IsKeyed here pair = (g : Kept) (bytes : List ℕ) → lacks_key (outbound here pair g bytes) ≡ false
