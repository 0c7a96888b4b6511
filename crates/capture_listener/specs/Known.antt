-- Uses whose session is known by their sockets (own).
use Rattle.std.specs.Prelude.{◌≡◌, ℕ, List, Some}
use Rattle.std.specs.List.{AllByRecursion}
use Rattle.book_base.specs.declared.address.Socket.{Socket}
use Rattle.book_sessions.specs.declared.uses.KeyUse.{KeyUse}
use Rattle.capture_listener.specs.Places.{number_between}

-- these are of the session that is known between their sockets (own)
abbrev pub HasSession : List KeyUse → KeyUse → Type 0
HasSession uses u = number_between u.source u.destination uses ≡ Some u.session

-- each of these is (own)
abbrev pub HaveSessions : List KeyUse → (some : List KeyUse) → Type 0
HaveSessions uses some = AllByRecursion (λ u. number_between u.source u.destination uses ≡ Some u.session) some

-- the session of this number is known between the two sockets (own)
abbrev pub Knows : List KeyUse → (one other : Socket) → (session : ℕ) → Type 0
Knows uses a b n = number_between a b uses ≡ Some n
