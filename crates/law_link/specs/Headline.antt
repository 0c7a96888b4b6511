-- What holds of the streams of every run: prefix, end of stream, acknowledgement.
use Rattle.std.specs.Prelude.{◌≡◌, ◌⊎◌, ℕ, ◌+◌, ◌≤◌, ◌<◌, ◌^◌, Bool, true, List, [], ◌++◌, length}
use Rattle.std.specs.Prelude.{Option, Some, None}
use Rattle.std.specs.List.{AllByRecursion}
use Rattle.book_base.specs.declared.end.End.{End}
use Rattle.book_endpoint.specs.States.{EndState, ready, at_end}
use Rattle.book_link.specs.Worlds.{other, Session, World, side, find, partner, forgeries}

-- the list begins the other (own)
abbrev pub IsPrefixOf : List ℕ → List ℕ → Type 0
IsPrefixOf xs ys = (rest : List ℕ) × (xs ++ rest ≡ ys)

-- the bytes begin what was given to the partner; without a partner there are none (own)
abbrev pub ComesFrom : Option Session → List ℕ → Type 0
ComesFrom None bytes = bytes ≡ []
ComesFrom (Some t) bytes = IsPrefixOf bytes t.state.given

-- where no forgery is counted: what each session of each end took, and then what is ready there,
-- begins what its partner was given (RFC 9293, section 2.2: a reliable, in-order byte stream)
abbrev pub DeliversInOrder : World → Type 0
DeliversInOrder w =
    forgeries w.history ≡ 0 → (e : End)
    → AllByRecursion
    (λ (s : Session). ComesFrom (partner w e s.state) (s.state.taken ++ ready s.state))
    (side w e).sessions

-- close was called on the partner, and the bytes are all that it was given (own)
abbrev pub IsWhole : Option Session → List ℕ → Type 0
IsWhole None bytes = ⊥
IsWhole (Some t) bytes = (t.state.closing ≡ true) × (bytes ≡ t.state.given)

-- where no forgery is counted: a session is at the end of its stream only where its partner was
-- closed and all bytes given to it were taken (RFC 9293, section 3.6)
abbrev pub EndsWhole : World → Type 0
EndsWhole w =
    forgeries w.history ≡ 0 → (e : End)
    → AllByRecursion
    (λ (s : Session). at_end s.state ≡ true → IsWhole (partner w e s.state) s.state.taken)
    (side w e).sessions

-- where no forgery is counted: a take of a session showed the end of its stream only where its
-- partner was closed and all bytes given to it were taken (RFC 9293, section 3.6)
abbrev pub ShowsEnds : World → Type 0
ShowsEnds w =
    forgeries w.history ≡ 0 → (e : End)
    → AllByRecursion
    (λ (s : Session). s.end_shown ≡ true → IsWhole (partner w e s.state) s.state.taken)
    (side w e).sessions

-- a take on the live session gave these bytes: they are taken, and the end is shown where it was
-- told (own)
pub record TookFrom (before after : Option Session) (bytes : List ℕ) (shown : Bool) : Type 0 where
  pub old : Session
  pub new : Session
  pub lived : before ≡ Some old
  pub lives : after ≡ Some new
  pub appended : new.state.taken ≡ old.state.taken ++ bytes
  pub marked : shown ≡ true → new.end_shown ≡ true

-- each session was given fewer than 2^31 bytes, so that an acknowledgement of 32 bits means one lap
-- alone (RFC 9293, section 3.4)
abbrev pub GivesFew : World → Type 0
GivesFew w = (e : End)
    → AllByRecursion (λ (s : Session). length s.state.given < 2 ^ 31) (side w e).sessions

-- so many events at most give each session few bytes: each gives it 65,535 at most (own)
abbrev pub few_events : ℕ
few_events = 32768

-- no byte is acknowledged, or all that are have numbers below the one that the partner expects
-- (RFC 9293, section 3.4)
abbrev pub AckedBy : Option Session → EndState → Type 0
AckedBy None s = s.una ≤ s.isn + 1
AckedBy (Some t) s = (s.una ≤ s.isn + 1) ⊎ (s.una ≤ t.state.expected)

-- where no forgery is counted and each session was given few bytes: what is acknowledged was
-- received (RFC 9293, section 3.8.6)
abbrev pub Acknowledges : World → Type 0
Acknowledges w =
    forgeries w.history ≡ 0 → GivesFew w → (e : End)
    → AllByRecursion (λ (s : Session). AckedBy (partner w e s.state) s.state) (side w e).sessions

-- each given byte below the oldest unacknowledged number is below the number that the partner
-- expects; without a partner there is none (RFC 9293, section 3.4)
abbrev pub IsReceived : Option Session → EndState → Type 0
IsReceived None s = (i : ℕ) → i < length s.given → s.una ≤ s.isn + 1 + i
IsReceived (Some t) s =
    (i : ℕ) → i < length s.given → s.isn + 1 + i < s.una → s.isn + 1 + i < t.state.expected

-- where no forgery is counted and each session was given few bytes: each given byte that is
-- acknowledged was received (RFC 9293, section 3.8.6)
abbrev pub AcknowledgedWasReceived : World → Type 0
AcknowledgedWasReceived w =
    forgeries w.history ≡ 0 → GivesFew w → (e : End)
    → AllByRecursion (λ (s : Session). IsReceived (partner w e s.state) s.state) (side w e).sessions

-- two sessions of the two ends are partners: each knows the other's initial sequence number as its
-- peer's (own)
pub record ArePartners (s t : EndState) : Type 0 where
  pub here : s.peer_isn ≡ Some t.isn
  pub there : t.peer_isn ≡ Some s.isn

-- a session of one end has at most one partner among the sessions of the other (own)
abbrev pub OnePartner : World → Type 0
OnePartner w = (e : End) (s : EndState)
    → AllByRecursion (λ (t : Session). ArePartners s t.state → partner w e s ≡ Some t)
    (side w (other e)).sessions

-- a partner is one of the other end's sessions (own)
abbrev pub PartnerIsOne : World → Type 0
PartnerIsOne w = (e : End) (s : EndState) (t : Session) → partner w e s ≡ Some t
    → ArePartners s t.state × (find (side w (other e)).sessions t.state.isn ≡ Some t)
