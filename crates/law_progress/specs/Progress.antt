-- Progress: over a way that loses nothing, a round trip moves the oldest unacknowledged number, and
-- enough of them deliver all that was given. Our own laws, over RFC 9293.
use Rattle.std.specs.Prelude.{◌≡◌, ℕ, zero, suc, ◌+◌, ◌≤◌, ◌<◌, nat_lt, min}
use Rattle.std.specs.Prelude.{Bool, true, false, ◌&&◌, ◌||◌, Option}
use Rattle.std.specs.Prelude.{List, [], ◌∷◌, ◌++◌, Some}
use Rattle.book_base.specs.declared.end.End.{End}
use Rattle.book_base.specs.declared.end.End.TheVariants.{A, B}
use Rattle.book_keys.specs.Plans.{AlignedFrom, has_sendable}
use Rattle.book_segments.specs.Segments.{bit_of}
use Rattle.book_endpoint.specs.declared.phase.Phase.{Phase}
use Rattle.book_endpoint.specs.declared.phase.Phase.TheVariants.{Listen, SynSent}
use Rattle.book_endpoint.specs.declared.phase.Phase.TheVariants.{SynReceived, Established, Closed}
use Rattle.book_endpoint.specs.States.{EndState, given_end, at_end}
use Rattle.book_endpoint.specs.Emissions.{is_syn_sent, is_syn_received}
use Rattle.book_link.specs.declared.event.Event.{Event}
use Rattle.book_link.specs.declared.event.Event.TheVariants.{At}
use Rattle.book_link.specs.declared.event.Action.TheVariants.{Send, Resend, Deliver, Take}
use Rattle.book_link.specs.Outcomes.{Outcome, Sent}
use Rattle.book_link.specs.Worlds.{other, Setup, pair_of, Session, World, side, live}
use Rattle.book_link.specs.Worlds.{is_known, forgeries}
use Rattle.book_link.specs.Steps.{step}
use Rattle.book_link.specs.Runs.{run_from}
use Rattle.law_link.specs.Headline.{ArePartners}

-- whose turn it is, and whether it sends or sends again (own)
pub data Turn : Type 0 where
  Sends Resends : (maker : End) → Turn

-- the end that makes a segment (own)
abbrev pub maker : Turn → End
maker (Sends e) = e
maker (Resends e) = e

-- its call (own)
abbrev pub making : Turn → Event
making (Sends e) = At e Send
making (Resends e) = At e Resend

-- a segment that was made is delivered as it was made (own)
abbrev pub delivering : End → Outcome → List Event
delivering e (Sent made) = At e (Deliver made.name) ∷ []
delivering e _ = []

-- a turn: the other end takes all that is ready there, the end makes a segment, and that comes to
-- the other end (own)
unfoldable pub turn_events : Setup → World → Turn → List Event
turn_events setup w t =
    let there = other (maker t) in
    let taken = (step setup w (At there (Take 65535))).world in
    At there (Take 65535) ∷ making t ∷ delivering there (step setup taken (making t)).outcome

-- some turns, one after the other: nothing is lost, nothing else happens, no clock changes (own)
unfoldable pub exchange : Setup → World → List Turn → List Event
exchange setup w [] = []
exchange setup w (t ∷ turns) =
    let now = turn_events setup w t in
    now ++ exchange setup (run_from setup w now) turns

-- the other end sends again, so that what this one acknowledges is heard; this end sends again, and
-- sends; the other end sends, and so acknowledges (own)
abbrev pub round_trip : End → List Turn
round_trip e = Resends (other e) ∷ Resends e ∷ Sends e ∷ Sends (other e) ∷ []

-- so many round trips of each end (own)
abbrev pub round_trips : ℕ → List Turn
round_trips zero = []
round_trips (suc n) = round_trip A ++ (round_trip B ++ round_trips n)

-- the handshake is over, and the end isn't closed (own)
abbrev pub is_open : Phase → Bool
is_open Listen = false
is_open SynSent = false
is_open SynReceived = false
is_open Closed = false
is_open phase = true

-- the number after all that is to be sent: the bytes given, and the FIN once close was called (own)
abbrev pub all_end : EndState → ℕ
all_end s = given_end s + bit_of s.closing

-- the end is past the handshake; or it has sent its SYN with ACK and waits for the ACK of that, and
-- its partner is past the handshake (own; the phases: RFC 9293, section 3.3.2)
abbrev pub is_up : EndState → EndState → Bool
is_up s t = is_open s.phase || (is_syn_received s.phase && nat_lt s.isn s.next && is_open t.phase)

-- each end has a row to send with at its reading; both tables are aligned, over what the two clocks
-- differ; no forgery is counted (own)
pub record IsKeyed (setup : Setup) (w : World) (lead lag : ℕ) : Type 0 where
  pub sends : (e : End) → has_sendable (side w e).rows (pair_of setup e) (side w e).clock ≡ true
  pub aligned : (e : End)
      → AlignedFrom (side w (other e)).rows (side w e).rows (pair_of setup (other e)) lead lag
  pub early : (e : End) → (side w (other e)).clock ≤ (side w e).clock + lead
  pub late : (e : End) → (side w e).clock ≤ (side w (other e)).clock + lag
  pub unforged : forgeries w.history ≡ 0

-- the live sessions are partners, neither is in CLOSED, and the handshake is over at both, or at
-- one while the other waits for the last ACK; keys, tables and clocks let them hear each other
-- (own)
pub record IsUp (setup : Setup) (w : World) (lead lag : ℕ) : Type 0 where
  pub session : End → Session
  pub lives : (e : End) → live (side w e).sessions ≡ Some (session e)
  pub partners : ArePartners (session A).state (session B).state
  pub opened : (e : End) → is_up (session e).state (session (other e)).state ≡ true
  pub keyed : IsKeyed setup w lead lag

-- a byte that was given, or the FIN, or the SYN of an end in SYN-RECEIVED, isn't acknowledged (own)
abbrev pub IsWaiting : EndState → Type 0
IsWaiting s = s.una < all_end s

-- the session is the same, and was given the same bytes (own)
pub record IsSame (s t : EndState) : Type 0 where
  pub isn : t.isn ≡ s.isn
  pub given : t.given ≡ s.given
  pub closing : t.closing ≡ s.closing

-- the live sessions of both ends are still these (own)
pub record Goes (setup : Setup) (w v : World) (lead lag : ℕ)
    (before : IsUp setup w lead lag) : Type 0 where
  pub session : End → Session
  pub lives : (e : End) → live (side v e).sessions ≡ Some (session e)
  pub same : (e : End) → IsSame (before.session e).state (session e).state

-- the oldest unacknowledged number of the end has moved, and what is acknowledged is received at
-- the partner (own)
pub record Moves (setup : Setup) (w v : World) (lead lag : ℕ)
    (before : IsUp setup w lead lag) (e : End) : Type 0 where
  pub after : Goes setup w v lead lag before
  pub moved : (before.session e).state.una < (after.session e).state.una
  pub received : (after.session e).state.una ≤ (after.session (other e)).state.expected

-- the oldest unacknowledged number of each end has moved by so many at least, or all that is to be
-- sent there is acknowledged (own)
pub record Gains (setup : Setup) (w v : World) (lead lag : ℕ)
    (before : IsUp setup w lead lag) (n : ℕ) : Type 0 where
  pub after : Goes setup w v lead lag before
  pub gained : (e : End)
      → min (all_end (before.session e).state) ((before.session e).state.una + n)
      ≤ (after.session e).state.una

-- all that was given at both ends before, and the FIN, is acknowledged; the bytes are taken at the
-- partner, and there the end of the stream is reached once close was called (own)
pub record CaughtUp (setup : Setup) (w v : World) (lead lag : ℕ)
    (before : IsUp setup w lead lag) : Type 0 where
  pub after : Goes setup w v lead lag before
  pub acknowledged : (e : End) → (after.session e).state.una ≡ all_end (after.session e).state
  pub taken : (e : End) → (after.session (other e)).state.taken ≡ (after.session e).state.given
  pub ended : (e : End) → (after.session e).state.closing ≡ true
      → at_end (after.session (other e)).state ≡ true

-- both ends take all that is ready (own)
abbrev pub takings : List Event
takings = At A (Take 65535) ∷ At B (Take 65535) ∷ []

-- where the link is up and something waits at an end, one round trip of that end moves it (own)
abbrev pub NeverStuck : Setup → World → Type 0
NeverStuck setup w =
    (lead lag : ℕ) (e : End) (up : IsUp setup w lead lag) → IsWaiting (up.session e).state
    → Moves setup w (run_from setup w (exchange setup w (round_trip e))) lead lag up e

-- where the link is up, each round trip of both ends moves what waits at each (own)
abbrev pub EachTripGains : Setup → World → Type 0
EachTripGains setup w =
    (lead lag n : ℕ) (up : IsUp setup w lead lag)
    → Gains setup w (run_from setup w (exchange setup w (round_trips n))) lead lag up n

-- where the link is up, as many round trips as numbers wait at either end, and a take at both,
-- leave nothing that waits (own)
abbrev pub CatchesUp : Setup → World → Type 0
CatchesUp setup w =
    (lead lag n : ℕ) (up : IsUp setup w lead lag)
    → ((e : End) → all_end (up.session e).state ≤ (up.session e).state.una + n)
    → CaughtUp setup w (run_from setup w (exchange setup w (round_trips n) ++ takings)) lead lag up

-- an end waits for the SYN of a session with this initial sequence number, or for the ACK of its
-- own SYN from that session (own; the phases: RFC 9293, section 3.3.2)
abbrev pub awaits : Phase → Option ℕ → ℕ → Bool
awaits Listen peer isn = true
awaits SynReceived peer isn = is_known peer isn
awaits _ peer isn = false

-- the live session of the client is in SYN-SENT, and that of the other end waits for it; keys,
-- tables and clocks let them hear each other (own)
pub record IsOpening (setup : Setup) (w : World) (lead lag : ℕ) (client : End) : Type 0 where
  pub session : End → Session
  pub lives : (e : End) → live (side w e).sessions ≡ Some (session e)
  pub asks : is_syn_sent (session client).state.phase ≡ true
  pub answers : (let s = (session (other client)).state in
      awaits s.phase s.peer_isn (session client).state.isn) ≡ true
  pub keyed : IsKeyed setup w lead lag

-- the client sends its SYN, or sends it again; the other end does the same with its SYN with ACK;
-- the client acknowledges (own; the segments: RFC 9293, section 3.5)
abbrev pub handshake : End → List Turn
handshake client = Resends client ∷ Sends client
    ∷ Resends (other client) ∷ Sends (other client) ∷ Sends client ∷ []

-- the link is up with the sessions of before, both ends in ESTABLISHED (own)
pub record Connected (setup : Setup) (w v : World) (lead lag : ℕ) (client : End)
    (before : IsOpening setup w lead lag client) : Type 0 where
  pub up : IsUp setup v lead lag
  pub established : (e : End) → (up.session e).state.phase ≡ Established
  pub same : (e : End) → IsSame (before.session e).state (up.session e).state

-- where a connection is opening, one handshake brings it up (own)
abbrev pub Connects : Setup → World → Type 0
Connects setup w =
    (lead lag : ℕ) (client : End) (opening : IsOpening setup w lead lag client)
    → Connected setup w (run_from setup w (exchange setup w (handshake client)))
    lead lag client opening
