-- A guard of a pair of sockets, the tables that suit it, and what its calls leave.
use Rattle.std.specs.Prelude.{◌≡◌, ◌≤◌, ◌^◌, ℕ, Bool, ◌||◌, List, ◌++◌, length, drop}
use Rattle.std.specs.Prelude.{Option, Some, None, Ok}
use Rattle.book_base.specs.declared.address.Pair.{Pair}
use Rattle.book_segments.specs.Segments.{Segment, has, SYN, spell}
use Rattle.book_keys.specs.Rows.{Row}
use Rattle.book_shim.specs.declared.kept.Isns.{Isns}
use Rattle.book_shim.specs.declared.kept.Kept.{Kept}
use Rattle.book_shim.specs.Keeping.{Setting}
use Rattle.book_shim.specs.Leaving.{Sealed, outbound, resets}
use Rattle.book_shim.specs.Arriving.{Opened, inbound}
use Rattle.ao_kdf.specs.declared.way.Way.TheVariants.{Outbound}
use Rattle.ao_kdf.specs.Cache.{Cache, kept}
use Rattle.ao_check.specs.Bonds.{Bond, Fits, steps_of}

-- a pair of sockets, what is kept of it, and the traffic keys of its connection in use (own)
pub record Held : Type 0 where
  pub pair : Pair
  pub kept : Kept
  pub keys : Cache

-- the connection in use, with the keys that are kept of it (own)
abbrev pub bond : Pair → Option Isns → Cache → Bond
bond pair None keys = record { pair = pair; own = 0; peer = None; current = None; keys = keys }
bond pair (Some c) keys =
    record { pair = pair; own = c.own; peer = Some c.peer; current = None; keys = keys }

-- the table suits the guard: there is room for the keys of its rows, and those that are kept are
-- theirs, in the connection in use (own)
abbrev pub Suits : List Row → Held → Type 0
Suits rows g = Fits rows (bond g.pair g.kept.isns g.keys)

-- these bytes stand in front of a buffer, whose rest stays, and this is how many they are (own)
pub record Written (bytes old new : List ℕ) (count : ℕ) : Type 0 where
  pub count_is : count ≡ length bytes
  pub new_is : new ≡ bytes ++ drop count old

-- a datagram of the own kernel was sealed as the definitions say, and stands in the buffer (own)
pub record Sent (here : Setting) (pair : Pair) (before after : Kept) (bytes old new : List ℕ)
    (count : ℕ) : Type 0 where
  pub sealed : Sealed
  pub is : outbound here pair before bytes ≡ Ok sealed
  pub kept_is : after ≡ sealed.kept
  pub written : Written (spell sealed.segment) old new count

-- a datagram from the peer was opened as the definitions say, and stands in the buffer (own)
pub record Taken (here : Setting) (pair : Pair) (before after : Kept) (bytes old new : List ℕ)
    (count : ℕ) : Type 0 where
  pub opened : Opened
  pub is : inbound here pair before bytes ≡ Ok opened
  pub kept_is : after ≡ opened.kept
  pub written : Written (spell opened.segment) old new count

-- the numbers that are kept are at most 2^63 (own)
pub record AreLow (g : Kept) : Type 0 where
  pub sent : g.sent ≤ 2 ^ 63
  pub heard : g.heard ≤ 2 ^ 63

-- the key of a segment of the own kernel is used once and isn't kept: the segment has SYN, or resets
-- a late connection (own)
abbrev pub is_single_use : Kept → Segment → Bool
is_single_use g d = has SYN d || resets g.late d

-- the steps that a datagram costs that was sealed: one where its key is used once, and one where the
-- key of its row isn't kept (own)
abbrev pub sealing_steps : Kept → Cache → Sealed → ℕ
sealing_steps before keys m =
    steps_of (is_single_use before m.given) (kept keys m.sending.number Outbound)
