-- What happens to a guard between two times at which it is saved. The file's tops: `NoneWasSaved`
-- and `GoesOn`.
use Rattle.std.specs.Prelude.{◌≡◌, List, [], ◌∷◌, Some, Result, Ok, Err, ℕ, false, ⊤}
use Rattle.book_base.specs.declared.address.Pair.{Pair}
use Rattle.book_shim.specs.declared.kept.Isns.{Isns}
use Rattle.book_shim.specs.declared.kept.Kept.{Kept}
use Rattle.book_shim.specs.declared.refusal.Unsent.{Unsent}
use Rattle.book_shim.specs.declared.refusal.Untaken.{Untaken}
use Rattle.book_shim.specs.Keeping.{Setting, is_the_number}
use Rattle.book_shim.specs.Leaving.{Sealed, outbound}
use Rattle.book_shim.specs.Arriving.{Opened, inbound}
use Rattle.book_shim.specs.Saving.{resumed, is_to_save}
use Rattle.law_shim.specs.Restoring.{with_numbers, IsBehind, IsQuiet}

-- a datagram that comes to a guard, under whatever table, at whatever time and with whatever MTU
-- (own)
pub data Coming : Type 0 where
  Leaves : (here : Setting) (bytes : List ℕ) → Coming  -- of its kernel
  Arrives : (here : Setting) (bytes : List ℕ) → Coming  -- of the network

-- what is kept once a datagram of the kernel was sealed, or refused: then nothing changes (own)
abbrev pub after_leaving : Kept → Result Sealed Unsent → Kept
after_leaving g (Ok m) = m.kept
after_leaving g (Err why) = g

-- what is kept once a datagram of the network was handed on, or refused: then nothing changes (own)
abbrev pub after_arriving : Kept → Result Opened Untaken → Kept
after_arriving g (Ok t) = t.kept
after_arriving g (Err why) = g

-- what is kept after a datagram (own)
abbrev pub after : Pair → Kept → Coming → Kept
after pair g (Leaves here bytes) = after_leaving g (outbound here pair g bytes)
after pair g (Arrives here bytes) = after_arriving g (inbound here pair g bytes)

-- what is kept after datagrams, the newest first (own)
abbrev pub kept_after : Pair → Kept → List Coming → Kept
kept_after pair g [] = g
kept_after pair g (e ∷ past) = after pair (kept_after pair g past) e

-- after none of these datagrams what is kept was to be saved (own)
abbrev pub NoneWasSaved : Pair → Kept → List Coming → Type 0
NoneWasSaved pair g [] = ⊤
NoneWasSaved pair g (e ∷ past) =
    (is_to_save (kept_after pair g past) (kept_after pair g (e ∷ past)) ≡ false)
    × NoneWasSaved pair g past

-- the own SYN that is out isn't that of the connection in use (own)
abbrev pub IsApart : Kept → Type 0
IsApart g = (c : Isns) → g.isns ≡ Some c → is_the_number g.opening c.own ≡ false

-- the connection and the current row are those that were saved last, and the saved numbers less
-- than a stretch behind: so is a guard that goes on with them, as long as nothing but the
-- connection is kept (own)
pub record GoesOn (saved : Kept) (isns : Isns) (g : Kept) : Type 0 where
  pub connection : g.isns ≡ Some isns
  pub current : g.current ≡ saved.current
  pub numbers : IsBehind g (with_numbers g saved.sent saved.heard)
  pub behind : IsQuiet g → IsBehind g (resumed isns saved.sent saved.heard saved.current)
