-- What is saved of a pair, for a shim that begins anew. The file's tops: `resumed`, `is_to_save`.
use Rattle.std.specs.Prelude.{ℕ, ◌/◌, ◌==◌, ◌&&◌, ◌||◌, not, Bool, true}
use Rattle.std.specs.Prelude.{Option, Some, None, is_some}
use Rattle.book_shim.specs.declared.kept.Isns.{Isns}
use Rattle.book_shim.specs.declared.kept.Kept.{Kept}
use Rattle.book_shim.specs.Keeping.{fresh, are_isns, is_the_number}

-- what is kept of a pair of which a connection was saved; what passed in it isn't known (own)
abbrev pub resumed : Isns → (sent heard : ℕ) → (current : Option ℕ) → Kept
resumed isns sent heard current =
    record fresh { isns = Some isns; settled = true; sent = sent; heard = heard; current = current }

-- these are the same two numbers, or none (own)
abbrev pub is_same_connection : (one other : Option Isns) → Bool
is_same_connection None other = not (is_some other)
is_same_connection (Some c) other = are_isns other c.own c.peer

-- this is the same row, or none (own)
abbrev pub same_row : (one other : Option ℕ) → Bool
same_row None other = not (is_some other)
same_row (Some n) other = is_the_number other n

-- how far a number may go before what is kept is saved again (own)
abbrev pub saved_stretch : ℕ
saved_stretch = 536870912

-- it is saved first: for another connection or key, or where a number went past a stretch (own)
abbrev pub is_to_save : Kept → Kept → Bool
is_to_save g k =
    not (is_same_connection g.isns k.isns)
    || ((is_some k.isns && not (same_row g.current k.current))
    || (not (g.sent / saved_stretch == k.sent / saved_stretch)
    || not (g.heard / saved_stretch == k.heard / saved_stretch)))
