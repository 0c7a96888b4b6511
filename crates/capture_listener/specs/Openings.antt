-- The openings that are kept: of each SYN without ACK its initial sequence number, and whether it was
-- verified, by the way that it goes (own).
use Rattle.std.specs.Prelude.{◌≡◌, ℕ, ◌==◌, ◌&&◌, ◌||◌, not, Bool, false, List, Option, Some, None}
use Rattle.std.specs.Prelude.{option_map, cond}
use Rattle.std.specs.List.{find}
use Rattle.std.specs.Map.{lookup}
use Rattle.std.specs.BTreeMap.{is_at}
use Rattle.book_base.specs.declared.address.Socket.{Socket}
use Rattle.book_base.specs.declared.address.Pair.{Pair}
use Rattle.book_base.specs.Orders.{by_pair}
use Rattle.book_sessions.specs.Glimpses.{Opening, is_opening_from}
use Rattle.capture_check.specs.declared.known.KnownConnection.{KnownConnection}
use Rattle.capture_listener.specs.declared.openings.KeptOpening.{KeptOpening}

-- the way from one socket to another, as its sender sees it (own)
abbrev pub way_between : (source destination : Socket) → Pair
way_between source destination = record { local = source; remote = destination }

-- what is kept under a key (own)
abbrev pub kept_opening : List (Pair × KeptOpening) → Pair → Option KeptOpening
kept_opening es k = lookup (is_at (by_pair k)) es

-- from now on this is kept under this key, or nothing, and the same as before under all others (own)
pub record PutsOpening (before after : List (Pair × KeptOpening)) (k : Pair)
    (kept : Option KeptOpening) : Type 0 where
  pub finds : (q : Pair)
      → kept_opening after q ≡ cond (is_at (by_pair k) q) kept (kept_opening before q)

-- an opening as it is kept (own)
abbrev pub kept_of : Opening → KeptOpening
kept_of o = record { isn = o.isn; passes = o.passes }

-- the opening from one socket to another as it is kept, if there is one (own)
abbrev pub opened_between : Socket → Socket → List Opening → Option KeptOpening
opened_between a b openings = option_map kept_of (find (is_opening_from a b) openings)

-- what is kept are these openings: the same between each two sockets (own)
pub record KeepsOpenings (es : List (Pair × KeptOpening)) (openings : List Opening) : Type 0 where
  pub same : (a b : Socket) → kept_opening es (way_between a b) ≡ opened_between a b openings

-- an opening that is kept was verified, and has another number than this one (own)
abbrev pub kept_anew : (isn : ℕ) → Option KeptOpening → Bool
kept_anew isn None = false
kept_anew isn (Some o) = o.passes && not (o.isn == isn)

-- an opening of the two directions has another number than the connection that is known (own)
abbrev pub kept_outdated : (onward back : Option KeptOpening) → Option KnownConnection → Bool
kept_outdated onward back None = false
kept_outdated onward back (Some k) =
    kept_anew k.source_isn onward || kept_anew k.destination_isn back

-- there is an opening that is kept, and it has this number (own)
abbrev pub kept_with : (isn : ℕ) → Option KeptOpening → Bool
kept_with isn None = false
kept_with isn (Some o) = o.isn == isn
