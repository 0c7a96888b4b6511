-- That a rollover takes place: an end that is asked for a key that it may use sends under it from
-- then on. Its tops are `TakesPlace` and `SendsUnder`.
use Rattle.std.specs.Prelude.{◌≡◌, ℕ, Some, ⊤}
use Rattle.book_base.specs.declared.end.End.{End}
use Rattle.book_endpoint.specs.declared.arrival.Arrival.TheVariants.{Taken}
use Rattle.book_keys.specs.Choices.{Numbered, named_send, next_row}
use Rattle.book_keys.specs.Coordination.{numbered}
use Rattle.book_keys.specs.Rows.{sendable}
use Rattle.book_link.specs.declared.event.Action.TheVariants.{Deliver, Resend, Send}
use Rattle.book_link.specs.declared.event.Event.TheVariants.{At}
use Rattle.book_link.specs.Outcomes.{Outcome, Answered, Sent}
use Rattle.book_link.specs.Steps.{step}
use Rattle.book_link.specs.Worlds.{Made, Session, Setup, World, live, other, pair_of, side}

-- the row of this number is the current one of the end's live session (RFC 5925, section 3.3)
pub record HasCurrent (w : World) (e : End) (number : ℕ) : Type 0 where
  pub session : Session
  pub lives : live (side w e).sessions ≡ Some session
  pub current : session.state.current ≡ Some number

-- the end may send with this row of its table now (RFC 7210, section 2)
abbrev pub MaySendWith : Setup → World → End → Numbered → Type 0
MaySendWith setup w e q =
    numbered (sendable (pair_of setup e) (side w e).clock) 1 q.number (side w e).rows ≡ Some q

-- what was sent, if anything, is under this row's key (RFC 5925, section 7.4)
abbrev pub IsUnder : Numbered → Outcome → Type 0
IsUnder q (Sent m) =
    (m.emission.sending.number ≡ q.number) × (m.emission.sending.row ≡ q.row)
IsUnder q outcome = ⊤

-- whatever the end sends next, or again, is under this row's key, which stays its current one (RFC
-- 5925, section 7.4)
pub record SendsUnder (setup : Setup) (w : World) (e : End) (q : Numbered) : Type 0 where
  pub sends : IsUnder q (step setup w (At e Send)).outcome
  pub goes_on : HasCurrent (step setup w (At e Send)).world e q.number
  pub resends : IsUnder q (step setup w (At e Resend)).outcome
  pub goes_on_again : HasCurrent (step setup w (At e Resend)).world e q.number

-- the link after the other end sends (own)
abbrev pub after_send : Setup → World → End → World
after_send setup w e = (step setup w (At (other e) Send)).world

-- the link after the segment of this number came to the end (own)
abbrev pub after_delivery : Setup → World → End → (name : ℕ) → World
after_delivery setup w e name = (step setup w (At e (Deliver name))).world

-- the other end sends a segment, and the end takes it at once, as it was made (own)
pub record IsHeard (setup : Setup) (w : World) (e : End) (m : Made) : Type 0 where
  pub sent : (step setup w (At (other e) Send)).outcome ≡ Sent m
  pub taken : (step setup (after_send setup w e) (At e (Deliver m.name))).outcome
      ≡ Answered Taken

-- the other end asks for a row that the end may send with now: the one that it prefers, of those
-- that it accepts, has the latest AcceptLifetimeStart, and its RecvID is this row's SendID (RFC
-- 5925, sections 6.1 and 7.4)
pub record AsksFor (setup : Setup) (w : World) (e : End) (q : Numbered) : Type 0 where
  pub preferred : Numbered
  pub prefers : next_row (side w (other e)).rows (pair_of setup (other e)) (side w (other e)).clock
      ≡ Some preferred
  pub may : named_send (side w e).rows (pair_of setup e) preferred.row.recv_id (side w e).clock
      ≡ Some q

-- where the other end asks for a row that this end may send with, and one segment of its comes and
-- is taken, this end sends under that row's key (RFC 5925, section 6.1)
abbrev pub TakesPlace : Setup → World → End → Type 0
TakesPlace setup w e = (q : Numbered) (m : Made) → AsksFor setup w e q → IsHeard setup w e m
    → SendsUnder setup (after_delivery setup (after_send setup w e) e m.name) e q
