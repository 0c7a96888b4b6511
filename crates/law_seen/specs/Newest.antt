-- From when on the new row of two tables is asked for: once its lifetimes began. Its top is
-- `IsAskedFor`.
use Rattle.std.specs.Prelude.{◌≡◌, ◌+◌, ◌==◌, ◌<◌, false, true, List, ◌∷◌, ◌++◌, length}
use Rattle.std.specs.List.{AllByRecursion}
use Rattle.book_base.specs.declared.address.Pair.{Pair}
use Rattle.book_base.specs.declared.end.End.{End}
use Rattle.book_keys.specs.Choices.{Numbered}
use Rattle.book_keys.specs.Rows.{Row, acceptable, matches, sendable}
use Rattle.book_link.specs.Worlds.{Setup, World, other, pair_of, side}
use Rattle.law_seen.specs.Turning.{AsksFor}

-- where a row is for the pair, it began to be accepted before the new one, and has another SendID
-- (RFC 7210, section 2, and own)
abbrev pub IsOlder : Pair → (new older : Row) → Type 0
IsOlder pair new r = matches r pair ≡ true
    → (r.accepting.first < new.accepting.first) × ((r.send_id == new.send_id) ≡ false)

-- the row of this number is the newest of a table for the pair (own)
pub record IsNewest (pair : Pair) (rows : List Row) (n : Numbered) : Type 0 where
  pub front : List Row
  pub rest : List Row
  pub stands : rows ≡ front ++ n.row ∷ rest
  pub number : n.number ≡ length front + 1
  pub older_in_front : AllByRecursion (IsOlder pair n.row) front
  pub older_behind : AllByRecursion (IsOlder pair n.row) rest

-- the new rows of both ends meet: what this end sends under its row the other end takes under its
-- own; the other end accepts under it now, and this end may send with it now (RFC 5925, section 3.1;
-- RFC 7210, section 2)
pub record HaveBegun (setup : Setup) (w : World) (e : End) (own others : Numbered) : Type 0 where
  pub own_newest : IsNewest (pair_of setup e) (side w e).rows own
  pub others_newest : IsNewest (pair_of setup (other e)) (side w (other e)).rows others
  pub meet : others.row.recv_id ≡ own.row.send_id
  pub accepts : acceptable (pair_of setup (other e)) (side w (other e)).clock others.row ≡ true
  pub sends : sendable (pair_of setup e) (side w e).clock own.row ≡ true

-- from the later of the other end's AcceptLifetimeStart and the own SendLifetimeStart on, each by
-- its own clock, and while both lifetimes last, the other end asks for the new row (RFC 5925,
-- section 6.1)
abbrev pub IsAskedFor : Setup → World → End → Type 0
IsAskedFor setup w e = (own others : Numbered)
    → HaveBegun setup w e own others → AsksFor setup w e own
