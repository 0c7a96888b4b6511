-- How a session ends. Its top is `EndsOnlySo`.
--
-- The newest session of an end ends in two ways: its user opens another one, and its line says
-- `dropped`, or it comes to CLOSED, and its line says `closed`. This comes only where
--   * its user aborts it;
--   * its user closes it before it has a peer;
--   * a segment resets it; where no forgery is counted, its partner's user had aborted before;
--   * its user had closed it and its last segment is acknowledged, or TIME-WAIT is over; where no
--     forgery is counted, its partner's user had closed before too.
-- So nobody but the two users ends a session, whatever is forged without the key.
use Rattle.std.specs.Prelude.{◌≡◌, ◌⊎◌, true, false, Some, None}
use Rattle.book_base.specs.declared.end.End.{End}
use Rattle.book_endpoint.specs.States.{is_closed}
use Rattle.book_endpoint.specs.declared.arrival.Arrival.TheVariants.{Reset}
use Rattle.book_link.specs.declared.event.Event.{Event}
use Rattle.book_link.specs.declared.event.Event.TheVariants.{At}
use Rattle.book_link.specs.declared.event.Action.TheVariants.{Connect, Listen, Start, Close, Abort}
use Rattle.book_link.specs.Outcomes.{Answered}
use Rattle.book_link.specs.Steps.{step}
use Rattle.book_link.specs.Worlds.{Setup, Session, World, side, live, partner, forgeries}
use Rattle.law_link.specs.Laws.{PartnerAborted}

-- the end's user opens another session (RFC 9293, section 3.9.1.1)
abbrev pub Opens : Event → End → Type 0
Opens (At place (Connect isn)) e = place ≡ e
Opens (At place (Listen isn)) e = place ≡ e
Opens (At place (Start isn peer)) e = place ≡ e
Opens event e = ⊥

-- the session's user aborts it (RFC 9293, section 3.9.1.6)
abbrev pub IsAborted : Event → End → Type 0
IsAborted event e = event ≡ At e Abort

-- the session's user closes it before it has a peer (RFC 9293, section 3.10.4)
abbrev pub IsClosedAlone : Event → End → Session → Type 0
IsClosedAlone event e s = (event ≡ At e Close) × (s.state.peer_isn ≡ None)

-- a segment resets it; unless one is forged, only after its partner's abort
-- (RFC 9293, section 3.10.7.4)
abbrev pub IsReset : Setup → World → Event → End → Session → Type 0
IsReset setup w event e s =
    ((step setup w event).outcome ≡ Answered Reset)
    × (forgeries (step setup w event).world.history ≡ 0 → PartnerAborted w e s.state)

-- the session's partner had close called on it (RFC 9293, section 3.10.4)
pub record PartnerClosed (w : World) (e : End) (s : Session) : Type 0 where
  pub session : Session
  pub is_partner : partner w e s.state ≡ Some session
  pub closed : session.state.closing ≡ true

-- both had close called on them; the partner, unless a segment was forged
-- (RFC 9293, section 3.6)
abbrev pub AreBothClosed : World → End → Session → Type 0
AreBothClosed w e s =
    (s.state.closing ≡ true) × (forgeries w.history ≡ 0 → PartnerClosed w e s)

-- the ways in which a session comes to CLOSED (RFC 9293, section 3.3.2)
abbrev pub ClosesSo : Setup → World → Event → End → Session → Type 0
ClosesSo setup w event e s =
    IsAborted event e
    ⊎ (IsClosedAlone event e s ⊎ (IsReset setup w event e s ⊎ AreBothClosed w e s))

-- the newest session of an end stays it, unless another is opened, and comes to CLOSED only so
-- (RFC 9293, section 3.3.2)
abbrev pub EndsOnlySo : Setup → World → Event → Type 0
EndsOnlySo setup w event =
    (e : End) (s later : Session) → live (side w e).sessions ≡ Some s
    → live (side (step setup w event).world e).sessions ≡ Some later
    → Opens event e ⊎ ((later.state.isn ≡ s.state.isn)
    × (is_closed s.state.phase ≡ false → is_closed later.state.phase ≡ true
    → ClosesSo setup w event e s))
