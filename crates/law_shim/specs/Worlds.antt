-- Two guards at the two ends of a pair of sockets, and what happens to them. The file's top: `run`.
use Rattle.std.specs.Prelude.{◌≡◌, ℕ, Bool, true, false, ◌&&◌, ◌||◌, List, [], ◌∷◌, ◌⊎◌}
use Rattle.std.specs.Prelude.{Result, Ok, Err}
use Rattle.book_base.specs.declared.address.Pair.{Pair}
use Rattle.book_segments.specs.Bytes.{same_bytes}
use Rattle.book_segments.specs.Spelling.{AreBytes}
use Rattle.book_endpoint.specs.Verdicts.{Finding, key_of, same_master_key}
use Rattle.book_shim.specs.declared.kept.Kept.{Kept}
use Rattle.book_shim.specs.declared.refusal.Unsent.{Unsent}
use Rattle.book_shim.specs.declared.refusal.Untaken.{Untaken}
use Rattle.book_shim.specs.Keeping.{Setting, fresh}
use Rattle.book_shim.specs.Leaving.{Sealed, outbound}
use Rattle.book_shim.specs.Arriving.{Opened, inbound}

-- one of the two ends (own)
pub data Side : Type 0 where
  Left Right : Side

-- the end across (own)
abbrev pub other : Side → Side
other Left = Right
other Right = Left

-- both are the same end (own)
abbrev pub same_side : (one two : Side) → Bool
same_side Left Left = true
same_side Left Right = false
same_side Right Left = false
same_side Right Right = true

-- the pair of sockets as an end sees it, where this is how the left one does (own)
abbrev pub pair_at : Pair → Side → Pair
pair_at pair Left = pair
pair_at pair Right = record { local = pair.remote; remote = pair.local }

-- what happens at an end, under whatever table, at whatever time and with whatever MTU (own)
pub data Event : Type 0 where
  Leaves : (at : Side) (here : Setting) (bytes : List ℕ) → Event  -- of its kernel
  Arrives : (at : Side) (here : Setting) (bytes : List ℕ) → Event  -- of the network

-- a segment that was sealed, and where (own)
pub record Made : Type 0 where
  pub maker : Side
  pub sent : Sealed

-- what both guards keep, and what was sealed, the newest first (own)
pub record World : Type 0 where
  pub left : Kept
  pub right : Kept
  pub made : List Made

-- what the guard of an end keeps (own)
abbrev pub kept_at : World → Side → Kept
kept_at w Left = w.left
kept_at w Right = w.right

-- the guard of an end keeps this from now on (own)
abbrev pub keeping : World → Side → Kept → World
keeping w Left g = record w { left = g }
keeping w Right g = record w { right = g }

-- a datagram of the kernel was sealed, or refused: then nothing changes (own)
abbrev pub after_leaving : World → Side → Result Sealed Unsent → World
after_leaving w at (Ok m) =
    record (keeping w at m.kept) { made = record { maker = at; sent = m } ∷ w.made }
after_leaving w at (Err why) = w

-- a datagram of the network was handed to the kernel, or refused: then nothing changes (own)
abbrev pub after_arriving : World → Side → Result Opened Untaken → World
after_arriving w at (Ok t) = keeping w at t.kept
after_arriving w at (Err why) = w

-- the world after an event, over this pair (own)
abbrev pub step : Pair → World → Event → World
step pair w (Leaves at here bytes) =
    after_leaving w at (outbound here (pair_at pair at) (kept_at w at) bytes)
step pair w (Arrives at here bytes) =
    after_arriving w at (inbound here (pair_at pair at) (kept_at w at) bytes)

-- the world after events, the newest first (own)
abbrev pub run : Pair → List Event → World
run pair [] = record { left = fresh; right = fresh; made = [] }
run pair (e ∷ past) = step pair (run pair past) e

-- the other end sealed what passed: the same algorithm, master key, context and MAC input (RFC
-- 5925, section 5.1, and own)
abbrev pub accounts_for : Side → Finding → Made → Bool
accounts_for at p m =
    same_side m.maker (other at) && (same_master_key (key_of m.sent.sending.row) p.key
    && (same_bytes m.sent.context p.context && same_bytes m.sent.input p.input))

-- the other end sealed what passed before: else it is a forgery (own)
abbrev pub was_made : Side → Finding → List Made → Bool
was_made at p [] = false
was_made at p (m ∷ past) = accounts_for at p m || was_made at p past

-- an end sealed this before (own)
abbrev pub WasSealed : Side → Sealed → List Made → Type 0
WasSealed at m [] = ⊥
WasSealed at m (one ∷ past) = (one ≡ record { maker = at; sent = m }) ⊎ WasSealed at m past

-- the kernel of an end gave these bytes in one of the events (own)
abbrev pub Gave : Side → List ℕ → List Event → Type 0
Gave at bytes [] = ⊥
Gave at bytes (Leaves side here given ∷ past) =
    ((side ≡ at) × (given ≡ bytes)) ⊎ Gave at bytes past
Gave at bytes (Arrives side here given ∷ past) = Gave at bytes past

-- all bytes are bytes: below 256 (own)
abbrev pub IsBytewise : List Event → Type 0
IsBytewise [] = Unit {0}
IsBytewise (Leaves side here bytes ∷ past) = AreBytes bytes × IsBytewise past
IsBytewise (Arrives side here bytes ∷ past) = AreBytes bytes × IsBytewise past
