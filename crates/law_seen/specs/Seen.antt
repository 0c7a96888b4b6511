-- What the users of a link's two ends may rely on, said of what is seen of a run alone. Its top is
-- `IsReliable`.
--
-- A link file has events, one a line. The report has what came of each, a line with its outcome, in
-- the same order; then a line for each session of the two ends, and one with two counts:
--
--     start a 100 200           1 ok
--     start b 200 100           2 ok
--     give a 68656c6c6f         3 ok
--     send a                    4 sent 1 AP seq 101 ack 201 len 5 key 0 next 0
--     deliver b 1               5 taken
--     take b 100                6 took 68656c6c6f
--                               session a 1 isn 100 peer 200 established given 5 delivered 0 open
--                               session b 1 isn 200 peer 100 established given 0 delivered 5 open
--                               segments 1 forgeries 0
--
-- From events and outcomes follows what the user of each session gave it and got of it (`seen`).
-- Two sessions, one of each end, are peers where the line of each has the other's `isn` as its
-- `peer` (`ArePeers`). Where the last line says `forgeries 0`:
--   * what a session got is a prefix of what its peer gave; one that is nobody's peer got nothing;
--   * the end of the stream is told only where the peer closed, and all that it gave was got.
-- And always: what a session acknowledges was received: its user got it, or its next take gives it.
--
-- How an end works, what a segment is, which are lost, repeated, put out of order, altered or made
-- up, and what a MAC is needn't be known for it. What is counted as a forgery is `forgeries` in
-- `book_link/specs/Worlds`: an arrival whose MAC was found right, though the other end had made
-- nothing of the kind before.
use Rattle.std.specs.Prelude.{◌≡◌, ℕ, ◌+◌, ◌≤◌, max, Bool, true, false, ◌||◌, List, [], ◌∷◌, ◌++◌}
use Rattle.std.specs.Prelude.{length, replicate, Some, unwrap_or, if◌then◌else◌}
use Rattle.std.specs.List.{AllByRecursion}
use Rattle.book_base.specs.declared.end.End.{End}
use Rattle.book_segments.specs.Segments.{bit_of}
use Rattle.book_link.specs.declared.event.Event.{Event}
use Rattle.book_link.specs.declared.event.Action.{Action}
use Rattle.book_link.specs.declared.event.Event.TheVariants.{At, Dump}
use Rattle.book_link.specs.declared.event.Action.TheVariants.{Connect, Listen, Start, Give, Fill}
use Rattle.book_link.specs.declared.event.Action.TheVariants.{Send, Resend, Take, Close}
use Rattle.book_link.specs.Outcomes.{Outcome, Done, Sent, Took}
use Rattle.book_link.specs.Runs.{empty, run, outcomes_from}
use Rattle.book_link.specs.Steps.{step}
use Rattle.book_link.specs.Worlds.{other, same_end, Setup, Session, World, side, find, forgeries}
use Rattle.law_link.specs.Headline.{IsPrefixOf}

-- ---- what is seen of a session

-- a session, as its user sees it: all that it gave and got, whether it closed it, and whether a
-- take told it the end of the stream; and the greatest number that the session acknowledged, 0 for
-- none (RFC 9293, section 3.9.1)
pub record Seen : Type 0 where
  pub isn : ℕ  -- the initial sequence number with which it was opened
  pub gave : List ℕ
  pub got : List ℕ
  pub closed : Bool
  pub end_told : Bool
  pub acknowledged : ℕ

-- a session that was just opened (RFC 9293, section 3.9.1.1)
abbrev pub opened : ℕ → Seen
opened isn = record {
  isn = isn;
  gave = [];
  got = [];
  closed = false;
  end_told = false;
  acknowledged = 0;
}

-- the session after one more action, by its outcome: bytes were given or taken, it was closed, or
-- it sent a segment that acknowledges; nothing else changes what is seen of it
-- (RFC 9293, sections 3.9.1.2 to 3.9.1.4)
abbrev pub and_then : Action → Outcome → Seen → Seen
and_then (Give piece) Done s = record s { gave = s.gave ++ piece }
and_then (Fill count byte) Done s = record s { gave = s.gave ++ replicate count byte }
and_then (Take count) (Took bytes ended) s =
    record s { got = s.got ++ bytes; end_told = s.end_told || ended }
and_then Close Done s = record s { closed = true }
and_then Send (Sent m) s =
    record s { acknowledged = max s.acknowledged (unwrap_or m.emission.acknowledged 0) }
and_then Resend (Sent m) s =
    record s { acknowledged = max s.acknowledged (unwrap_or m.emission.acknowledged 0) }
and_then action outcome s = s

-- the sessions of an end, the newest first, after one more action: an opening that is done begins
-- one, and any other action is of the newest (own)
abbrev pub sessions_then : Action → Outcome → List Seen → List Seen
sessions_then (Connect isn) Done sessions = opened isn ∷ sessions
sessions_then (Listen isn) Done sessions = opened isn ∷ sessions
sessions_then (Start isn peer) Done sessions = opened isn ∷ sessions
sessions_then action outcome [] = []
sessions_then action outcome (newest ∷ dropped) = and_then action outcome newest ∷ dropped

-- the sessions of an end after one more event, which may be at the other end (own)
abbrev pub sessions_after : End → Event → Outcome → List Seen → List Seen
sessions_after e (At place action) outcome sessions =
    if same_end place e then sessions_then action outcome sessions else sessions
sessions_after e (Dump name) outcome sessions = sessions

-- the sessions of an end after more events, each with its outcome (own)
abbrev pub sessions_by : End → List Event → List Outcome → List Seen → List Seen
sessions_by e (event ∷ events) (outcome ∷ outcomes) sessions =
    sessions_by e events outcomes (sessions_after e event outcome sessions)
sessions_by e events outcomes sessions = sessions

-- what is seen of all sessions of an end in a run of these events, the newest first (own)
abbrev pub seen : Setup → List Event → End → List Seen
seen setup events e = sessions_by e events (outcomes_from setup (empty setup) events) []

-- ---- who is whose peer

-- the report has a line of this end with this `isn` and this `peer` (own)
abbrev pub HasLine : World → End → (isn peer : ℕ) → Type 0
HasLine w e isn peer =
    (s : Session) × (find (side w e).sessions isn ≡ Some s) × (s.state.peer_isn ≡ Some peer)

-- the line of each session has the other's `isn` as its `peer` (RFC 9293, section 3.4.1)
abbrev pub ArePeers : World → End → (here there : Seen) → Type 0
ArePeers w e here there = HasLine w e here.isn there.isn × HasLine w (other e) there.isn here.isn

-- it holds of each two sessions that are peers (own)
abbrev pub EachTwoPeers : Setup → List Event → (Seen → Seen → Type 0) → Type 0
EachTwoPeers setup events Holds =
    (e : End) → AllByRecursion (λ here. AllByRecursion
    (λ there. ArePeers (run setup events) e here there → Holds here there)
    (seen setup events (other e))) (seen setup events e)

-- no session of the other end is its peer (own)
abbrev pub IsNobodysPeer : Setup → List Event → End → Seen → Type 0
IsNobodysPeer setup events e here =
    AllByRecursion (λ there. ArePeers (run setup events) e here there → ⊥)
    (seen setup events (other e))

-- ---- what may be relied on

-- a reliable, in-order byte stream, both ways, where the last line says `forgeries 0`
-- (RFC 9293, section 2.2)
pub record IsReliable (setup : Setup) (events : List Event) : Type 0 where
  -- what a session got is a prefix of what its peer gave
  pub in_order : EachTwoPeers setup events (λ here there. IsPrefixOf here.got there.gave)
  -- a session that is nobody's peer got nothing, and was told of no end
  pub of_nobody : (e : End) → AllByRecursion
      (λ here. IsNobodysPeer setup events e here → (here.got ≡ []) × (here.end_told ≡ false))
      (seen setup events e)
  -- the end of the stream is told only where the peer closed, and all that it gave was got
  pub whole : EachTwoPeers setup events
      (λ here there. here.end_told ≡ true → (there.closed ≡ true) × (here.got ≡ there.gave))

-- the same of a run whose last line says `forgeries 0` (own)
abbrev pub ReliableUnlessForged : Setup → List Event → Type 0
ReliableUnlessForged setup events =
    forgeries (run setup events).history ≡ 0 → IsReliable setup events

-- were the user of the newest session to take all that is there: these bytes, and whether the end
-- of the stream comes with them (RFC 9293, section 3.9.1.3)
abbrev pub WouldTake : Setup → World → End → List ℕ → Bool → Type 0
WouldTake setup w e bytes ended = (step setup w (At e (Take 65535))).outcome ≡ Took bytes ended

-- what the newest session of an end acknowledges was received: byte i has the number peer + 1 + i,
-- and the end of the stream the one after the last byte (RFC 9293, sections 3.4 and 3.8.6)
abbrev pub AcknowledgesReceived : Setup → List Event → Type 0
AcknowledgesReceived setup events =
    (e : End) (newest : Seen) (dropped : List Seen) (peer : ℕ)
    → seen setup events e ≡ newest ∷ dropped → HasLine (run setup events) e newest.isn peer
    → (bytes : List ℕ) × (ended : Bool) × WouldTake setup (run setup events) e bytes ended
    × (newest.acknowledged ≤ peer + 1 + length (newest.got ++ bytes) + bit_of ended)
