-- How the sessions that are known are found (own).
use Rattle.std.specs.Prelude.{◌≡◌, List}
use Rattle.std.specs.BTreeMap.{is_at}
use Rattle.std.specs.List.{list_any}
use Rattle.book_base.specs.declared.address.Pair.{Pair}
use Rattle.book_base.specs.declared.address.Socket.{Socket}
use Rattle.book_base.specs.Orders.{by_pair, sorted_pair}
use Rattle.book_draw.specs.declared.session_rung.SessionEnds.{SessionEnds}
use Rattle.book_draw.specs.SessionRungs.{same_ends}

-- two sockets in their order are among these pairs exactly where a session is between them (own)
abbrev pub ArePairsOf : List Pair → List SessionEnds → Type 0
ArePairsOf pairs known = (a b : Socket) → list_any (is_at (by_pair (sorted_pair a b))) pairs
    ≡ list_any (same_ends (record { left = a; right = b })) known
