-- A shim at one side of a pair of sockets and an end of our own at the other, and what happens to
-- them. The file's top: `run`.
use Rattle.std.specs.Prelude.{◌≡◌, ℕ, Bool, ◌&&◌, List, [], ◌∷◌, ◌⊎◌, Result, Ok, Err}
use Rattle.std.specs.List.{list_any}
use Rattle.book_base.specs.declared.address.Pair.{Pair}
use Rattle.book_segments.specs.Bytes.{same_bytes}
use Rattle.book_segments.specs.Spelling.{AreBytes}
use Rattle.book_keys.specs.Plans.{mirrored}
use Rattle.book_keys.specs.Rows.{Row}
use Rattle.book_endpoint.specs.Emissions.{Emission, Emitted, Quiet, NoKey, Emits, emit, resend}
use Rattle.book_endpoint.specs.States.{EndState}
use Rattle.book_endpoint.specs.Verdicts.{Finding, key_of, same_master_key}
use Rattle.book_shim.specs.declared.kept.Kept.{Kept}
use Rattle.book_shim.specs.declared.refusal.Unsent.{Unsent}
use Rattle.book_shim.specs.declared.refusal.Untaken.{Untaken}
use Rattle.book_shim.specs.Keeping.{Setting, fresh}
use Rattle.book_shim.specs.Leaving.{Sealed, outbound}
use Rattle.book_shim.specs.Arriving.{Opened, inbound}

-- what happens: at the shim under whatever table, at whatever time and with whatever MTU; at the
-- end under whatever table, at whatever time, and in whatever state its calls and what it heard
-- have left it (own)
pub data Event : Type 0 where
  Leaves : (here : Setting) (bytes : List ℕ) → Event  -- the shim's kernel gives a datagram
  Arrives : (here : Setting) (bytes : List ℕ) → Event  -- one of the network comes to the shim
  Sends : (rows : List Row) (now : ℕ) (state : EndState) → Event  -- the end sends what is due next
  Resends : (rows : List Row) (now : ℕ) (state : EndState) → Event  -- the end sends again

-- what the shim keeps and sealed, and what the end made, the newest first (own)
pub record World : Type 0 where
  pub kept : Kept
  pub sealed : List Sealed
  pub made : List Emission

-- a datagram of the kernel was sealed, or refused: then nothing changes (own)
abbrev pub after_leaving : World → Result Sealed Unsent → World
after_leaving w (Ok m) = record w { kept = m.kept; sealed = m ∷ w.sealed }
after_leaving w (Err why) = w

-- a datagram of the network was handed to the kernel, or refused: then nothing changes (own)
abbrev pub after_arriving : World → Result Opened Untaken → World
after_arriving w (Ok t) = record w { kept = t.kept }
after_arriving w (Err why) = w

-- the end made a segment, or none (own)
abbrev pub after_sending : World → Emitted → World
after_sending w Quiet = w
after_sending w NoKey = w
after_sending w (Emits e) = record w { made = e ∷ w.made }

-- the world after an event; the pair is as the shim sees it (own)
abbrev pub step : Pair → World → Event → World
step pair w (Leaves here bytes) = after_leaving w (outbound here pair w.kept bytes)
step pair w (Arrives here bytes) = after_arriving w (inbound here pair w.kept bytes)
step pair w (Sends rows now s) = after_sending w (emit rows (mirrored pair) now s)
step pair w (Resends rows now s) = after_sending w (resend rows (mirrored pair) now s)

-- the world after events, the newest first (own)
abbrev pub run : Pair → List Event → World
run pair [] = record { kept = fresh; sealed = []; made = [] }
run pair (e ∷ past) = step pair (run pair past) e

-- the end made what passed: the same algorithm, master key, context and MAC input (RFC 5925,
-- section 5.1, and own)
abbrev pub is_made_as : Finding → Emission → Bool
is_made_as p e =
    same_master_key (key_of e.sending.row) p.key
    && (same_bytes e.context p.context && same_bytes e.input p.input)

-- the shim sealed what passed: the same algorithm, master key, context and MAC input (RFC 5925,
-- section 5.1, and own)
abbrev pub is_sealed_as : Finding → Sealed → Bool
is_sealed_as p m =
    same_master_key (key_of m.sending.row) p.key
    && (same_bytes m.context p.context && same_bytes m.input p.input)

-- the end made what passed before: else it is a forgery (own)
abbrev pub was_made : Finding → List Emission → Bool
was_made p es = list_any (is_made_as p) es

-- the shim sealed what passed before: else it is a forgery (own)
abbrev pub was_sealed : Finding → List Sealed → Bool
was_sealed p ms = list_any (is_sealed_as p) ms

-- this is one of them (own)
abbrev pub IsAmong : {A : Type 0} → A → List A → Type 0
IsAmong x [] = ⊥
IsAmong x (one ∷ past) = (one ≡ x) ⊎ IsAmong x past

-- the shim's kernel gave these bytes in one of the events (own)
abbrev pub Gave : List ℕ → List Event → Type 0
Gave bytes [] = ⊥
Gave bytes (Leaves here given ∷ past) = (given ≡ bytes) ⊎ Gave bytes past
Gave bytes (event ∷ past) = Gave bytes past

-- all bytes that the shim's kernel gave are bytes: below 256 (own)
abbrev pub IsBytewise : List Event → Type 0
IsBytewise [] = Unit {0}
IsBytewise (Leaves here bytes ∷ past) = AreBytes bytes × IsBytewise past
IsBytewise (event ∷ past) = IsBytewise past
