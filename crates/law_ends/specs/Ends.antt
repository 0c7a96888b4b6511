-- What holds of two stacks that talk over any path, since their past is the past of a link. Our own laws, over RFC 9293.
use Rattle.std.specs.Prelude.{◌≡◌, ◌⊎◌, ℕ, ◌<◌, ◌^◌, true, List, [], ◌∷◌, ◌++◌, length, Some}
use Rattle.std.specs.List.{AllByRecursion}
use Rattle.book_base.specs.declared.end.End.{End}
use Rattle.book_segments.specs.Segments.{reading}
use Rattle.book_endpoint.specs.declared.arrival.Arrival.TheVariants.{Reset}
use Rattle.book_endpoint.specs.States.{EndState, ready, at_end}
use Rattle.book_link.specs.Runs.{run}
use Rattle.book_link.specs.Worlds.{other, Setup, pair_of, World, partner, forgeries}
use Rattle.book_cmd_node.specs.NodeRuns.{DatagramAnswered, held_end}
use Rattle.book_stack.specs.Calls.{CallAnswer, Told, Moves, Input, Incoming, call}
use Rattle.law_node.specs.Alone.{is_for}
use Rattle.law_link.specs.Headline.{IsPrefixOf, ComesFrom, IsWhole, IsReceived}
use Rattle.law_link.specs.Sessions.{ReceivesFrom}
use Rattle.law_ends.specs.Doings.{Doing, CallFits, stack_of, twins}
use Rattle.law_ends.specs.Users.{UserSession, user_sessions}
use Rattle.law_ends.specs.Links.{link_events, Mirrors}

-- the link whose past is that of two stacks after these calls (own)
abbrev pub past : Setup → (End → ℕ) → List Doing → World
past setup most doings = run setup (link_events setup most doings)

-- the link mirrors the stacks after these calls (own)
abbrev pub IsPastOfLink : Setup → (End → ℕ) → List Doing → Type 0
IsPastOfLink setup most doings =
    Mirrors setup (past setup most doings) (twins setup most doings) (user_sessions setup most doings)

-- after these calls nothing had passed the check of an end that the other end hadn't made (own)
abbrev pub IsUnforged : Setup → (End → ℕ) → List Doing → Type 0
IsUnforged setup most doings = forgeries (past setup most doings).history ≡ 0

-- after these calls the stack of an end holds this end under the link's pair (own)
abbrev pub IsHeld : Setup → (End → ℕ) → List Doing → End → EndState → Type 0
IsHeld setup most doings e u = held_end (pair_of setup e) (stack_of (twins setup most doings) e).node.ends ≡ Some u

-- one of these sessions is so (own)
abbrev pub OneIs : (UserSession → Type 0) → List UserSession → Type 0
OneIs P [] = ⊥
OneIs P (u ∷ us) = P u ⊎ OneIs P us

-- where no forgery is counted: what the end that is held took, and then what is ready there, begins what its partner was
-- given (RFC 9293, section 2.2)
abbrev pub HeldInOrder : Setup → (End → ℕ) → List Doing → Type 0
HeldInOrder setup most doings = IsUnforged setup most doings → (e : End) (u : EndState) → IsHeld setup most doings e u
    → ComesFrom (partner (past setup most doings) e u) (u.taken ++ ready u)

-- the bytes are none, or they begin what was given in the session of the other end whose initial sequence number the end
-- that is held knows as its peer's (RFC 9293, section 2.2)
abbrev pub BeginsPartners : List UserSession → EndState → List ℕ → Type 0
BeginsPartners others u bytes = (bytes ≡ []) ⊎ OneIs (λ (v : UserSession). (u.peer_isn ≡ Some v.isn) × IsPrefixOf bytes v.gave) others

-- the newest session of a user is that of the end that is held, and this holds of what takes delivered in it (own)
pub record NewestTook (us : List UserSession) (u : EndState) (P : List ℕ → Type 0) : Type 0 where
  pub newest : UserSession
  pub older : List UserSession
  pub is : us ≡ newest ∷ older
  pub isn : newest.isn ≡ u.isn
  pub took : P newest.took

-- where no forgery is counted: what takes delivered in the session of the end that is held, and then what is ready there,
-- begins what its partner was given, in the answers alone (RFC 9293, section 2.2)
abbrev pub LiveInOrder : Setup → (End → ℕ) → List Doing → Type 0
LiveInOrder setup most doings = IsUnforged setup most doings → (e : End) (u : EndState) → IsHeld setup most doings e u
    → NewestTook (user_sessions setup most doings e) u (λ took. BeginsPartners (user_sessions setup most doings (other e)) u (took ++ ready u))

-- in the answers alone: what takes delivered in a session is nothing, or begins what was given in a session of the other
-- end (RFC 9293, section 2.2)
abbrev pub TookInOrder : List UserSession → UserSession → Type 0
TookInOrder others u = (u.took ≡ []) ⊎ OneIs (λ (v : UserSession). IsPrefixOf u.took v.gave) others

-- where no forgery is counted it is so of each session of each end (own)
abbrev pub ToldInOrder : Setup → (End → ℕ) → List Doing → Type 0
ToldInOrder setup most doings = IsUnforged setup most doings → (e : End)
    → AllByRecursion (TookInOrder (user_sessions setup most doings (other e))) (user_sessions setup most doings e)

-- where no forgery is counted: each byte that the end that is held received, in order or not, is the one that its partner
-- was given at that number, and so is its FIN (RFC 9293, section 3.4)
abbrev pub HeldIsPartners : Setup → (End → ℕ) → List Doing → Type 0
HeldIsPartners setup most doings = IsUnforged setup most doings → (e : End) (u : EndState) → IsHeld setup most doings e u
    → ReceivesFrom (partner (past setup most doings) e u) u

-- where no forgery is counted: the end that is held is at the end of its stream only where its partner was closed and all
-- bytes given to it were taken (RFC 9293, section 3.6)
abbrev pub HeldEndsWhole : Setup → (End → ℕ) → List Doing → Type 0
HeldEndsWhole setup most doings = IsUnforged setup most doings → (e : End) (u : EndState) → IsHeld setup most doings e u
    → at_end u ≡ true → IsWhole (partner (past setup most doings) e u) u.taken

-- the bytes are all that was given in the session of the other end whose initial sequence number the end that is held knows
-- as its peer's, and close was called in it (RFC 9293, section 3.6)
abbrev pub IsAllOfPartners : List UserSession → EndState → List ℕ → Type 0
IsAllOfPartners others u bytes =
    OneIs (λ (v : UserSession). (u.peer_isn ≡ Some v.isn) × (v.closed ≡ true) × (bytes ≡ v.gave)) others

-- where no forgery is counted: the end that is held is at the end of its stream only where its partner was closed and takes
-- delivered all that was given to it, in the answers alone (RFC 9293, section 3.6)
abbrev pub LiveEndsWhole : Setup → (End → ℕ) → List Doing → Type 0
LiveEndsWhole setup most doings = IsUnforged setup most doings → (e : End) (u : EndState) → IsHeld setup most doings e u
    → at_end u ≡ true
    → NewestTook (user_sessions setup most doings e) u (IsAllOfPartners (user_sessions setup most doings (other e)) u)

-- in the answers alone: a take told the end of the stream only where a session of the other end was closed in which was
-- given what takes delivered, and no more (RFC 9293, section 3.6)
abbrev pub TookWhole : List UserSession → UserSession → Type 0
TookWhole others u = u.ended ≡ true → OneIs (λ (v : UserSession). (v.closed ≡ true) × (u.took ≡ v.gave)) others

-- where no forgery is counted it is so of each session of each end (own)
abbrev pub ToldEndsWhole : Setup → (End → ℕ) → List Doing → Type 0
ToldEndsWhole setup most doings = IsUnforged setup most doings → (e : End)
    → AllByRecursion (TookWhole (user_sessions setup most doings (other e))) (user_sessions setup most doings e)

-- each session was given fewer than 2^31 bytes (RFC 9293, section 3.4)
abbrev pub GaveFew : Setup → (End → ℕ) → List Doing → Type 0
GaveFew setup most doings = (e : End) → AllByRecursion (λ (u : UserSession). length u.gave < 2 ^ 31) (user_sessions setup most doings e)

-- where no forgery is counted and each session was given few bytes: each given byte of the end that is held that is
-- acknowledged was received (RFC 9293, section 3.8.6)
abbrev pub HeldIsReceived : Setup → (End → ℕ) → List Doing → Type 0
HeldIsReceived setup most doings = IsUnforged setup most doings → GaveFew setup most doings → (e : End) (u : EndState)
    → IsHeld setup most doings e u → IsReceived (partner (past setup most doings) e u) u

-- a call answers that a datagram reset the connection (RFC 9293, section 3.10.7)
abbrev pub TellsReset : CallAnswer → Type 0
TellsReset answer = (answer ≡ Told (DatagramAnswered Reset)) ⊎ (answer ≡ Moves (DatagramAnswered Reset))

-- where no forgery is counted: a datagram of the link's pair resets the end that is held only where abort was called before
-- in the session of the other end whose initial sequence number it knows as its peer's (RFC 9293, section 3.10.5)
abbrev pub ResetByAbort : Setup → (End → ℕ) → List Doing → (e : End) → Incoming → Type 0
ResetByAbort setup most doings e coming = CallFits (Input coming) → is_for (pair_of setup e) (reading coming.bytes) ≡ true
    → TellsReset (call (Input coming) (stack_of (twins setup most doings) e)).answer
    → IsUnforged setup most (doings ++ record { end = e; what = Input coming } ∷ [])
    → (u : EndState) × IsHeld setup most doings e u
    × OneIs (λ (v : UserSession). (u.peer_isn ≡ Some v.isn) × (v.aborted ≡ true)) (user_sessions setup most doings (other e))
