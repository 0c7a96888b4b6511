-- What an end with all its sessions stands for.
use Rattle.std.specs.Prelude.{◌≡◌, ℕ, Bool, List, [], ◌∷◌, length, map, reverse, Option, Some, None}
use Rattle.book_base.specs.declared.address.Pair.{Pair}
use Rattle.book_keys.specs.Rows.{Table}
use Rattle.book_link.specs.Worlds.{Session, LinkSide as EndSide}
use Rattle.link_report.specs.declared.sessions.Ended.{Ended}
use Rattle.link_report.specs.declared.sessions.Live.{Live}
use Rattle.link_report.specs.declared.side.Side.{Side}
use Rattle.tcp_endpoint.specs.declared.endpoint.Endpoint.{Endpoint}
use Rattle.tcp_endpoint.specs.Ends.{Stands}

-- the sockets of an end, its own and its peer's
abbrev pub sockets_of : Side → Pair
sockets_of d = d.pair

-- the table of an end, as it is now
abbrev pub table_of : Side → Table
table_of d = d.table

-- the live session of an end, if there is one
abbrev pub live_of : Side → Option Live
live_of d = d.live

-- what is kept of the sessions of an end before the live one, the oldest first
abbrev pub dropped_of : Side → List Ended
dropped_of d = d.dropped.items

-- the end of the connection of a session
abbrev pub endpoint_of : Live → Endpoint
endpoint_of l = l.endpoint

-- whether a take of a session showed the end of its stream
abbrev pub is_end_shown : Live → Bool
is_end_shown l = l.end_shown

-- what the report says of a session
pub record Facts : Type 0 where
  pub isn : ℕ
  pub peer_isn : Option ℕ
  pub given : ℕ
  pub delivered : ℕ
  pub shown : Bool

-- of a session of the definitions
abbrev pub facts_of : Session → Facts
facts_of s =
    record { isn = s.state.isn; peer_isn = s.state.peer_isn; given = length s.state.given; delivered = length s.state.taken; shown = s.end_shown }

-- of a session that was dropped
abbrev pub kept_facts : Ended → Facts
kept_facts d = record { isn = d.isn; peer_isn = d.peer_isn; given = d.given; delivered = d.delivered; shown = d.end_shown }

-- the live session stands for the newest, and of the others the facts are kept, the oldest first
abbrev pub Sessions : Option Live → List Ended → List Session → Type 0
Sessions None dropped [] = dropped ≡ []
Sessions None dropped (s ∷ older) = ⊥
Sessions (Some l) dropped [] = ⊥
Sessions (Some l) dropped (s ∷ older) =
    Stands l.endpoint s.state × (l.end_shown ≡ s.end_shown) × (map facts_of older ≡ reverse (map kept_facts dropped))

-- an end stands for its clock, its table and its sessions
pub record StandsSide (d : Side) (m : EndSide) : Type 0 where
  pub clock : m.clock ≡ d.clock
  pub rows : m.rows ≡ d.table.rows
  pub sessions : Sessions d.live d.dropped.items m.sessions
