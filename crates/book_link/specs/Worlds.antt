-- Two ends with all their sessions and their tables, and everything that was made and that came.
-- Its top is `World`; what is counted of one is `forgeries`.
use Rattle.std.specs.Prelude.{ℕ, suc, ◌+◌, ◌==◌, Bool, true, false, ◌&&◌, ◌||◌, List, [], ◌∷◌}
use Rattle.std.specs.Prelude.{Option, Some, None, if◌then◌else◌}
use Rattle.book_base.specs.declared.address.Socket.{Socket}
use Rattle.book_base.specs.declared.address.Pair.{Pair}
use Rattle.book_base.specs.declared.end.End.{End}
use Rattle.book_base.specs.declared.end.End.TheVariants.{A, B}
use Rattle.book_segments.specs.Bytes.{same_bytes}
use Rattle.book_segments.specs.Segments.{Segment, has, ACK, SYN}
use Rattle.book_keys.specs.Plans.{rows_at}
use Rattle.book_keys.specs.Rows.{Row, Table}
use Rattle.book_endpoint.specs.Verdicts.{key_of, same_master_key, Finding}
use Rattle.book_endpoint.specs.States.{EndState}
use Rattle.book_endpoint.specs.declared.arrival.Arrival.{Arrival}
use Rattle.book_endpoint.specs.Emissions.{Emission}

-- the other of the two ends of a link (own)
abbrev pub other : End → End
other A = B
other B = A

-- two names are of the same end (own)
abbrev pub same_end : (one other : End) → Bool
same_end A A = true
same_end B B = true
same_end _ _ = false

-- the two sockets of a link, and the rows with which its ends begin (own)
pub record Setup : Type 0 where
  pub a : Socket
  pub b : Socket
  pub a_rows : List Row
  pub b_rows : List Row

-- the link of two sockets over the tables of a key file (own)
abbrev pub setup_of : List Table → (a b : Socket) → Setup
setup_of tables a b = record {
  a = a;
  b = b;
  a_rows = rows_at tables a.address;
  b_rows = rows_at tables b.address;
}

-- the two sockets as an end sees them (own)
abbrev pub pair_of : Setup → End → Pair
pair_of setup A = record { local = setup.a; remote = setup.b }
pair_of setup B = record { local = setup.b; remote = setup.a }

-- the rows with which an end begins (own)
abbrev pub first_rows : Setup → End → List Row
first_rows setup A = setup.a_rows
first_rows setup B = setup.b_rows

-- a session of an end, and whether a take showed the end of its stream (own)
pub record Session : Type 0 where
  pub state : EndState
  pub end_shown : Bool

-- an end: its clock, its table as it is now, and its sessions, the newest first; that one is
-- live, and the others were dropped (own)
pub record LinkSide : Type 0 where
  pub clock : ℕ
  pub rows : List Row
  pub sessions : List Session

-- an entry of the history for a segment that was made (own)
pub record Made : Type 0 where
  pub name : ℕ
  pub maker : End
  pub isn : ℕ  -- of the session that made it
  pub clock : ℕ
  pub rows : List Row  -- the maker's table at that moment
  pub emission : Emission
  pub bytes : List ℕ

-- an entry of the history for a datagram that came to an end (own)
pub record Came : Type 0 where
  pub at : End
  pub isn : ℕ  -- of the session at which it came
  pub clock : ℕ
  pub bytes : List ℕ
  pub answer : Arrival
  pub passed : Option Finding

-- an entry of the history: a segment that was made, or a datagram that came (own)
pub data Happening : Type 0 where
  Making : (made : Made) → Happening
  Coming : (came : Came) → Happening

-- both ends, and what happened, the newest first (own)
pub record World : Type 0 where
  pub a : LinkSide
  pub b : LinkSide
  pub history : List Happening

-- one of the two ends of a world (own)
abbrev pub side : World → End → LinkSide
side w A = w.a
side w B = w.b

-- the session that has this initial sequence number: an end uses one at most once (own)
abbrev pub find : List Session → ℕ → Option Session
find [] isn = None
find (s ∷ rest) isn = if s.state.isn == isn then Some s else find rest isn

-- the live session of an end, which is its newest (own)
abbrev pub live : List Session → Option Session
live [] = None
live (s ∷ rest) = Some s

-- the peer's initial sequence number is known, and is this one (own)
abbrev pub is_known : Option ℕ → ℕ → Bool
is_known None isn = false
is_known (Some peer) isn = peer == isn

-- a session, where it knows this number as its peer's (own)
abbrev pub known_by : ℕ → Option Session → Option Session
known_by own None = None
known_by own (Some t) = if is_known t.state.peer_isn own then Some t else None

-- among the other end's sessions, the one with the peer's number that knows the own number as its
-- peer's (own)
abbrev pub partner_among : List Session → ℕ → Option ℕ → Option Session
partner_among sessions own None = None
partner_among sessions own (Some peer) = known_by own (find sessions peer)

-- the one session of the other end whose two initial sequence numbers are these, seen from there
-- (own)
abbrev pub partner : World → End → EndState → Option Session
partner w e s = partner_among (side w (other e)).sessions s.isn s.peer_isn

-- a segment of session s is addressed to session r of the other end: any, for SYN without ACK;
-- one with the number known as the peer's, for SYN with ACK; else the partner (RFC 9293, section
-- 3.5, and own)
abbrev pub addressed : Segment → (sending receiving : EndState) → Bool
addressed d s r =
    if has SYN d then (if has ACK d then is_known s.peer_isn r.isn else true)
    else is_known s.peer_isn r.isn && is_known r.peer_isn s.isn

-- the other end made this entry, with what passed: the same algorithm, master key, context and
-- MAC input (RFC 5925, section 5.1, and own)
abbrev pub accounts_for : End → Finding → Made → Bool
accounts_for at p m =
    let e = m.emission in
    same_end m.maker (other at) && same_master_key (key_of e.sending.row) p.key
    && same_bytes e.context p.context && same_bytes e.input p.input

-- the other end made what passed: the history before has such an entry (own)
abbrev pub was_made : End → Finding → List Happening → Bool
was_made at p [] = false
was_made at p (Making m ∷ past) = accounts_for at p m || was_made at p past
was_made at p (Coming r ∷ past) = was_made at p past

-- 1 where something passed that the other end had not made before, else 0 (own)
abbrev pub forged : End → Option Finding → List Happening → ℕ
forged at None past = 0
forged at (Some p) past = if was_made at p past then 0 else 1

-- how many arrivals passed without the other end having made before what passed (own)
abbrev pub forgeries : List Happening → ℕ
forgeries [] = 0
forgeries (Making m ∷ past) = forgeries past
forgeries (Coming r ∷ past) = forged r.at r.passed past + forgeries past

-- how many segments were made in a history (own)
abbrev pub segments : List Happening → ℕ
segments [] = 0
segments (Making m ∷ past) = suc (segments past)
segments (Coming r ∷ past) = segments past

-- the segment of a history that has this number (own)
abbrev pub segment_named : ℕ → List Happening → Option Made
segment_named n [] = None
segment_named n (Making m ∷ past) = if m.name == n then Some m else segment_named n past
segment_named n (Coming r ∷ past) = segment_named n past
