-- What an operator may rely on in a run whose sessions were given few bytes, besides what holds of
-- each run.
use Rattle.std.specs.Prelude.{◌≡◌, List}
use Rattle.std.specs.List.{AllByRecursion}
use Rattle.book_base.specs.declared.end.End.{End}
use Rattle.book_link.specs.declared.event.Event.{Event}
use Rattle.book_link.specs.Worlds.{Setup, Session, World, side, partner, forgeries}
use Rattle.law_link.specs.Headline.{GivesFew, IsReceived}
use Rattle.law_progress.specs.Progress.{Connects, NeverStuck, EachTripGains, CatchesUp}
use Rattle.law_headline.specs.Lawful.{AtEachMoment}

-- where no forgery is counted: each given byte that is acknowledged was received
-- (RFC 9293, section 3.8.6)
abbrev pub AcknowledgedIsReceived : World → Type 0
AcknowledgedIsReceived w =
    forgeries w.history ≡ 0 → (e : End)
    → AllByRecursion (λ (s : Session). IsReceived (partner w e s.state) s.state) (side w e).sessions

-- of the run of these events (own)
pub record GetsThrough (setup : Setup) (events : List Event) : Type 0 where
  -- each session was given fewer than 2^31 bytes
  pub few : AtEachMoment setup events GivesFew
  -- where no forgery is counted: each given byte that is acknowledged was received
  pub acknowledged : AtEachMoment setup events AcknowledgedIsReceived
  -- where none is counted, and a connection is opening: over a way that loses nothing, one handshake
  -- brings it up
  pub connects : AtEachMoment setup events (Connects setup)
  -- where none is counted, and the link is up: over a way that loses nothing, one round trip moves
  -- what waits at an end, each of both ends moves both, and enough of them leave nothing that waits
  pub never_stuck : AtEachMoment setup events (NeverStuck setup)
  pub each_trip_gains : AtEachMoment setup events (EachTripGains setup)
  pub catches_up : AtEachMoment setup events (CatchesUp setup)
