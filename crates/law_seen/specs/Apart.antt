-- What one session of a run may rely on, whatever is forged in others. Its tops are
-- `SessionBySession` and `EachHasOrigin`.
use Rattle.std.specs.Prelude.{◌≡◌, ℕ, ◌+◌, ◌==◌, ◌^◌, ◌<◌, ◌&&◌, Bool, true, false, List, [], ◌∷◌}
use Rattle.std.specs.Prelude.{◌++◌, length, Some, if◌then◌else◌}
use Rattle.std.specs.List.{AllByRecursion}
use Rattle.book_base.specs.declared.end.End.{End}
use Rattle.book_segments.specs.Options.{Ao, One, find_ao}
use Rattle.book_segments.specs.Segments.{Segment, Read, reading, has, SYN}
use Rattle.book_endpoint.specs.declared.arrival.Arrival.TheVariants.{Reset}
use Rattle.book_endpoint.specs.States.{at_end, ready}
use Rattle.book_endpoint.specs.Verdicts.{Finding}
use Rattle.book_link.specs.declared.event.Event.{Event}
use Rattle.book_link.specs.Worlds.{Setup, Session, Came, Happening, Making, Coming, World, side}
use Rattle.book_link.specs.Worlds.{forged, partner, same_end}
use Rattle.law_link.specs.Headline.{ComesFrom, IsReceived, IsWhole}
use Rattle.law_link.specs.Laws.{Arrives, FromPartner, PartnerAborted}

-- the segment came to the session of this end that has this initial sequence number (own)
abbrev pub came_to : End → (isn : ℕ) → Came → Bool
came_to e isn r = same_end r.at e && (r.isn == isn)

-- how many segments passed at this session without the other end having made before what passed
-- (own)
abbrev pub forgeries_in : End → (isn : ℕ) → List Happening → ℕ
forgeries_in e isn [] = 0
forgeries_in e isn (Making m ∷ past) = forgeries_in e isn past
forgeries_in e isn (Coming r ∷ past) =
    (if came_to e isn r then forged r.at r.passed past else 0) + forgeries_in e isn past

-- what a session is promised (RFC 9293, sections 2.2, 3.6 and 3.8.6)
pub record Reliable (w : World) (e : End) (s : Session) : Type 0 where
  -- what it took, and then what is ready, begins what its partner was given; without one it is
  -- nothing
  pub in_order : ComesFrom (partner w e s.state) (s.state.taken ++ ready s.state)
  -- it is at the end of its stream only where its partner was closed, and all was taken
  pub whole : at_end s.state ≡ true → IsWhole (partner w e s.state) s.state.taken
  -- a take showed the end only there
  pub shown : s.end_shown ≡ true → IsWhole (partner w e s.state) s.state.taken
  -- what is acknowledged was received, where it was given few bytes
  pub received : length s.state.given < 2 ^ 31 → IsReceived (partner w e s.state) s.state

-- each session in which no forgery is counted is reliable: a forgery in one session voids its own
-- promises, and not those of others (own)
abbrev pub SessionBySession : World → Type 0
SessionBySession w = (e : End)
    → AllByRecursion
    (λ (s : Session). forgeries_in e s.state.isn w.history ≡ 0 → Reliable w e s)
    (side w e).sessions

-- an arrival that is no forgery, passes, and has no SYN says what the session's partner had said
-- before, whatever was forged before (RFC 5925, section 5.1)
abbrev pub EachHasOrigin : Setup → World → Event → Type 0
EachHasOrigin setup w event = (r : Came) (a : Arrives setup w event r)
    → forged r.at r.passed w.history ≡ 0
    → (p : Finding) (d : Segment)
    → r.passed ≡ Some p → reading r.bytes ≡ Read d → has SYN d ≡ false
    → (ao : Ao) × (find_ao d.area ≡ One ao) × FromPartner w r.at a.session.state p.number d ao

-- a reset by an arrival that is no forgery comes only of a partner that had abort called
-- (RFC 9293, section 3.10.5)
abbrev pub EachResetIsAnAbort : Setup → World → Event → Type 0
EachResetIsAnAbort setup w event = (r : Came) (a : Arrives setup w event r)
    → forged r.at r.passed w.history ≡ 0
    → r.answer ≡ Reset → PartnerAborted w r.at a.session.state
