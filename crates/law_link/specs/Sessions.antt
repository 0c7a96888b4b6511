-- What a session keeps as it goes on, and what it received.
use Rattle.std.specs.Prelude.{◌≡◌, ℕ, ◌+◌, ◌≤◌, true, slice_get, Option, Some, None}
use Rattle.std.specs.List.{AllByRecursion}
use Rattle.book_base.specs.declared.end.End.{End}
use Rattle.book_endpoint.specs.States.{EndState, given_end}
use Rattle.book_link.specs.Worlds.{Session, World, side, find, partner, forgeries}
use Rattle.law_link.specs.Headline.{IsPrefixOf}

-- a session later: its own initial sequence number stays, and so does its peer's once it is known;
-- the bytes given begin those given later, and the number expected doesn't go down
-- (RFC 9293, sections 3.3.1 and 3.4)
pub record GoesOn (before after : EndState) : Type 0 where
  pub isn : after.isn ≡ before.isn
  pub peer_isn : (q : ℕ) → before.peer_isn ≡ Some q → after.peer_isn ≡ Some q
  pub given : IsPrefixOf before.given after.given
  pub expected : before.expected ≤ after.expected

-- each session of each end is still there later, and went on (own)
abbrev pub OnlyGrow : World → World → Type 0
OnlyGrow w later =
    (e : End) (isn : ℕ) (s : Session) → find (side w e).sessions isn ≡ Some s
    → (t : Session) × (find (side later e).sessions isn ≡ Some t) × GoesOn s.state t.state

-- the session was given this byte at this number: byte i has number isn + 1 + i
-- (RFC 9293, section 3.4)
abbrev pub IsGivenAt : EndState → ℕ → ℕ → Type 0
IsGivenAt t number byte = (i : ℕ) × (number ≡ t.isn + 1 + i) × (slice_get t.given i ≡ Some byte)

-- each received byte, in order or not, is the one that the partner was given at that number;
-- a recorded FIN is the partner's: close was called there, and its number is behind all bytes given
-- (RFC 9293, section 3.4)
pub record ReceivedFrom (t s : EndState) : Type 0 where
  pub bytes : (n b : ℕ) → s.received n ≡ Some b → IsGivenAt t n b
  pub fin : (n : ℕ) → s.fin ≡ Some n → (t.closing ≡ true) × (n ≡ given_end t)

-- so it is of the partner; without a partner no byte is received and no FIN recorded (own)
abbrev pub ReceivesFrom : Option Session → EndState → Type 0
ReceivesFrom None s = ((n : ℕ) → s.received n ≡ None) × (s.fin ≡ None)
ReceivesFrom (Some t) s = ReceivedFrom t.state s

-- where no forgery is counted: all that each session received is its partner's (own)
abbrev pub ReceivesGiven : World → Type 0
ReceivesGiven w =
    forgeries w.history ≡ 0 → (e : End)
    → AllByRecursion (λ (s : Session). ReceivesFrom (partner w e s.state) s.state)
    (side w e).sessions
