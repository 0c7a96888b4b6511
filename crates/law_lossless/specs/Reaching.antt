-- Reaching: over a way that loses nothing, round trips move what waits though they stand among
-- other turns. Our own laws, over RFC 9293.
use Rattle.std.specs.Prelude.{◌≡◌, ℕ, ◌+◌, ◌≤◌, min, Bool, true, ⊤, ◌⊎◌}
use Rattle.std.specs.Prelude.{List, [], ◌∷◌, ◌++◌}
use Rattle.book_base.specs.declared.end.End.{End}
use Rattle.book_segments.specs.Segments.{bit_of}
use Rattle.book_link.specs.declared.event.Event.{Event}
use Rattle.book_link.specs.declared.event.Event.TheVariants.{At}
use Rattle.book_link.specs.declared.event.Action.TheVariants.{Take}
use Rattle.book_link.specs.Worlds.{same_end, Setup, World}
use Rattle.book_link.specs.Runs.{run_from}
use Rattle.law_progress.specs.Progress.{Turn, maker, turn_events, round_trip, is_open, all_end}
use Rattle.law_progress.specs.Progress.{IsUp, Goes, CaughtUp, takings}

-- one event of a phase in which nothing is lost: a turn, in which an end speaks and is heard at
-- once; or a user takes all that is ready (own)
pub data Served : Type 0 where
  Speaks : (turn : Turn) → Served
  Takes : (user : End) → Served

-- its link events (own)
abbrev pub served_events : Setup → World → Served → List Event
served_events setup w (Speaks turn) = turn_events setup w turn
served_events setup w (Takes user) = At user (Take 65535) ∷ []

-- such events, one after the other: nothing is lost, nothing is given, no clock changes (own)
unfoldable pub serves : Setup → World → List Served → List Event
serves setup w [] = []
serves setup w (one ∷ more) =
    let now = served_events setup w one in
    now ++ serves setup (run_from setup w now) more

-- what may stand within a round trip of an end: that end speaks, or a user takes (own)
abbrev pub is_beside : End → Served → Bool
is_beside e (Speaks turn) = same_end e (maker turn)
is_beside e (Takes user) = true

-- these turns in this order, up to the last, and between them nothing but what may stand within a
-- round trip of the end (own)
abbrev pub HasTurns : End → List Turn → List Served → Type 0
HasTurns e [] [] = ⊤
HasTurns e [] (one ∷ more) = ⊥
HasTurns e (turn ∷ turns) [] = ⊥
HasTurns e (turn ∷ turns) (one ∷ more) = ((one ≡ Speaks turn) × HasTurns e turns more)
    ⊎ ((is_beside e one ≡ true) × HasTurns e (turn ∷ turns) more)

-- a round trip of an end: anything served before it, and its turns among others (own)
pub record Trip (e : End) : Type 0 where
  pub before : List Served
  pub events : List Served
  pub turns : HasTurns e (round_trip e) events

-- round trips of these ends in this order, and then what else is served (own)
abbrev pub Trips : List End → Type 0
Trips [] = List Served
Trips (e ∷ ends) = Trip e × Trips ends

-- all that is served (own)
abbrev pub all_served : (ends : List End) → Trips ends → List Served
all_served [] after = after
all_served (e ∷ ends) trips =
    trips.0.before ++ (trips.0.events ++ all_served ends trips.1)

-- how many of them are of one end (own)
abbrev pub count_of : End → List End → ℕ
count_of e [] = 0
count_of e (one ∷ ends) = bit_of (same_end e one) + count_of e ends

-- the sessions are the same, and the oldest unacknowledged number of each end has moved by one at
-- least for each round trip of that end, or all that is to be sent there is acknowledged (own)
pub record Reaches (setup : Setup) (w v : World) (lead lag : ℕ)
    (before : IsUp setup w lead lag) (ends : List End) : Type 0 where
  pub after : Goes setup w v lead lag before
  pub gained : (e : End)
      → min (all_end (before.session e).state) ((before.session e).state.una + count_of e ends)
      ≤ (after.session e).state.una

-- where the link is up and the handshake is over at both ends, each round trip moves what waits at
-- its end, whatever else is served (own)
abbrev pub NeverStuckAmong : Setup → World → Type 0
NeverStuckAmong setup w =
    (lead lag : ℕ) (ends : List End) (trips : Trips ends) (up : IsUp setup w lead lag)
    → ((e : End) → is_open (up.session e).state.phase ≡ true)
    → Reaches setup w (run_from setup w (serves setup w (all_served ends trips))) lead lag up ends

-- as many round trips of each end as numbers wait there, and a take at both, leave nothing that
-- waits, whatever else is served (own)
abbrev pub CatchesUpAmong : Setup → World → Type 0
CatchesUpAmong setup w =
    (lead lag : ℕ) (ends : List End) (trips : Trips ends) (up : IsUp setup w lead lag)
    → ((e : End) → is_open (up.session e).state.phase ≡ true)
    → ((e : End) → all_end (up.session e).state ≤ (up.session e).state.una + count_of e ends)
    → CaughtUp setup w (run_from setup w (serves setup w (all_served ends trips) ++ takings))
    lead lag up
