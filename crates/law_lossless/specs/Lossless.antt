-- Lossless: two ends over a way that loses nothing deliver all that was given and never send
-- again. Our own laws, over RFC 9293.
use Rattle.std.specs.Prelude.{◌≡◌, ℕ, zero, suc, ◌+◌, ◌<◌, ◌≤◌, true, ◌⊎◌}
use Rattle.std.specs.Prelude.{List, [], ◌∷◌, ◌++◌, length}
use Rattle.book_base.specs.declared.end.End.{End}
use Rattle.book_base.specs.declared.end.End.TheVariants.{A, B}
use Rattle.book_endpoint.specs.States.{EndState}
use Rattle.book_link.specs.declared.event.Event.{Event}
use Rattle.book_link.specs.declared.event.Event.TheVariants.{At}
use Rattle.book_link.specs.declared.event.Action.TheVariants.{Take}
use Rattle.book_link.specs.Worlds.{other, Setup, World}
use Rattle.book_link.specs.Steps.{step}
use Rattle.book_link.specs.Runs.{run_from}
use Rattle.law_progress.specs.Progress.{Sends, turn_events, is_open, all_end, IsUp, Goes}
use Rattle.law_progress.specs.Progress.{CaughtUp, takings}

-- an end speaks: the users of both ends take all that is ready, the end sends what is due next, if
-- anything is, and that comes to the other end at once (own)
unfoldable pub speaking : Setup → World → End → List Event
speaking setup w e =
    let taken = (step setup w (At e (Take 65535))).world in
    At e (Take 65535) ∷ turn_events setup taken (Sends e)

-- ends speak one after the other: nothing is lost, nothing is sent again, and no clock changes
-- (own)
unfoldable pub conversation : Setup → World → List End → List Event
conversation setup w [] = []
conversation setup w (e ∷ ends) =
    let now = speaking setup w e in
    now ++ conversation setup (run_from setup w now) ends

-- an end speaks once, and so many times more (own)
abbrev pub at_length : (more : ℕ) → End → List End
at_length zero e = e ∷ []
at_length (suc n) e = e ∷ at_length n e

-- how often each end speaks in a round beside the first time: to say all that is due it may take
-- many datagrams, and to speak when nothing is due does no harm (own)
pub record Round : Type 0 where
  pub more_of_a : ℕ
  pub more_of_b : ℕ

-- who speaks in these rounds: in each, one end and then the other (own)
abbrev pub speakers : List Round → List End
speakers [] = []
speakers (r ∷ rounds) = at_length r.more_of_a A ++ (at_length r.more_of_b B ++ speakers rounds)

-- of what an end s sent nothing is on the way to its partner t: all of it was received there, and
-- is acknowledged, or an ACK is owed for it; the peer's window that is known at s isn't shut (own)
pub record IsInStep (s t : EndState) : Type 0 where
  pub received : t.expected ≡ s.next
  pub acknowledged : (s.una ≡ s.next) ⊎ (t.ack_owed ≡ true)
  pub window : 0 < s.send_window

-- the handshake is over at both ends, and both are in step (own)
pub record AreInStep (setup : Setup) (w : World) (lead lag : ℕ)
    (up : IsUp setup w lead lag) : Type 0 where
  pub opened : (e : End) → is_open (up.session e).state.phase ≡ true
  pub steps : (e : End) → IsInStep (up.session e).state (up.session (other e)).state

-- the live sessions are the same, and in step; or all that was to be sent is acknowledged at both
-- ends, as where one has come to CLOSED (own)
pub record StaysInStep (setup : Setup) (w v : World) (lead lag : ℕ)
    (before : IsUp setup w lead lag) : Type 0 where
  pub after : Goes setup w v lead lag before
  pub steps : ((e : End) → IsInStep (after.session e).state (after.session (other e)).state)
      ⊎ ((e : End) → (after.session e).state.una ≡ all_end (after.session e).state)

-- where ends are in step, they stay so, whoever speaks and however often (own)
abbrev pub KeepStep : Setup → World → Type 0
KeepStep setup w =
    (lead lag : ℕ) (ends : List End) (up : IsUp setup w lead lag) → AreInStep setup w lead lag up
    → StaysInStep setup w (run_from setup w (conversation setup w ends)) lead lag up

-- where ends are in step, as many rounds as numbers are to be sent at either end, and two more,
-- leave nothing that waits (own)
abbrev pub DeliverAll : Setup → World → Type 0
DeliverAll setup w =
    (lead lag n : ℕ) (rounds : List Round) (up : IsUp setup w lead lag)
    → AreInStep setup w lead lag up
    → ((e : End) → all_end (up.session e).state ≤ (up.session e).state.next + n)
    → n + 2 ≤ length rounds
    → CaughtUp setup w (run_from setup w (conversation setup w (speakers rounds) ++ takings))
    lead lag up
