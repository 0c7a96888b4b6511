-- What an operator may rely on in a run of a link, whatever is delivered, lost, repeated,
-- reordered, altered or injected, and whatever the clocks read.
use Rattle.std.specs.Prelude.{◌≡◌, ◌≢◌, ℕ, Bool, List, ◌∷◌, ◌++◌}
use Rattle.book_link.specs.declared.event.Event.{Event}
use Rattle.book_link.specs.declared.event.Event.TheVariants.{At}
use Rattle.book_link.specs.declared.event.Action.TheVariants.{Send, Resend, Deliver, Take}
use Rattle.book_link.specs.Outcomes.{Took, WithoutKey}
use Rattle.book_link.specs.Runs.{run}
use Rattle.book_link.specs.Steps.{step}
use Rattle.book_link.specs.Worlds.{Setup, Made, World, side, live}
use Rattle.law_link.specs.Entries.{AsMade, AllMade, Carried}
use Rattle.law_link.specs.Headline.{DeliversInOrder, EndsWhole, ShowsEnds, TookFrom}
use Rattle.law_link.specs.Headline.{OnePartner, PartnerIsOne}
use Rattle.law_link.specs.Laws.{TablesFit, IsCovered, RollsOver, IsAdmitted}
use Rattle.law_link.specs.Laws.{HasOrigin, ResetsByAbort}
use Rattle.law_link.specs.Sessions.{OnlyGrow, ReceivesGiven}

-- it holds of the link before the first event and after each (own)
abbrev pub AtEachMoment : Setup → List Event → (World → Type 0) → Type 0
AtEachMoment setup events Holds =
    (front rest : List Event) → front ++ rest ≡ events → Holds (run setup front)

-- it holds of each event, and of the link as it comes (own)
abbrev pub AtEachEvent : Setup → List Event → (World → Event → Type 0) → Type 0
AtEachEvent setup events Holds =
    (front : List Event) (event : Event) (rest : List Event)
    → front ++ event ∷ rest ≡ events → Holds (run setup front) event

-- a session has at most one partner among the other end's sessions, and that is the one that is
-- found (own)
abbrev pub FindsOnePartner : World → Type 0
FindsOnePartner w = OnePartner w × PartnerIsOne w

-- each segment that was made is as made (RFC 5925, section 7.4; RFC 9293, section 3.4)
abbrev pub IsAsMade : Setup → World → Type 0
IsAsMade setup w = AllMade (AsMade setup w) w.history

-- each segment that was made carries the bytes given at its number (RFC 9293, section 3.4)
abbrev pub CarriesGiven : World → Type 0
CarriesGiven w = AllMade (Carried w) w.history

-- sessions stay, and what each was given and the number that it expects only grow
-- (RFC 9293, section 3.4)
abbrev pub OnlyGrows : Setup → World → Event → Type 0
OnlyGrows setup w event = OnlyGrow w (step setup w event).world

-- what a take gives is taken by the live session, and the end of the stream is shown where the take
-- told it (own)
abbrev pub TakesAsTold : Setup → World → Event → Type 0
TakesAsTold setup w (At e (Take count)) =
    let after = step setup w (At e (Take count)) in
    (bytes : List ℕ) (shown : Bool) → after.outcome ≡ Took bytes shown
    → TookFrom (live (side w e).sessions) (live (side after.world e).sessions) bytes shown
TakesAsTold setup w _ = Unit {0}

-- a segment that comes as it was made, within the lead and the lag for which the tables are
-- aligned, is admitted (RFC 5925, section 7.5)
abbrev pub AdmitsInTime : Setup → World → Event → Type 0
AdmitsInTime setup w (At e (Deliver name)) =
    (m : Made) → RollsOver setup w e name m
    → IsAdmitted (step setup w (At e (Deliver name))).outcome
AdmitsInTime setup w _ = Unit {0}

-- an end whose table has no gap over a range that its reading lies in has a key to send with
-- (RFC 5925, section 7.4)
abbrev pub HasKey : Setup → World → Event → Type 0
HasKey setup w (At e Send) = IsCovered setup w e → (step setup w (At e Send)).outcome ≢ WithoutKey
HasKey setup w (At e Resend) =
    IsCovered setup w e → (step setup w (At e Resend)).outcome ≢ WithoutKey
HasKey setup w _ = Unit {0}

-- of the run of these events (own)
pub record Lawful (setup : Setup) (events : List Event) : Type 0 where
  -- where no forgery is counted: what each session of each end took, and then what is ready there,
  -- begins what its partner was given; without a partner there is neither
  pub in_order : AtEachMoment setup events DeliversInOrder
  -- where none is counted: each byte received, in order or not, is the one that the partner was
  -- given at that number, and a recorded FIN is the partner's
  pub received : AtEachMoment setup events ReceivesGiven
  -- sessions stay, and what each was given and the number that it expects only grow
  pub only_grow : AtEachEvent setup events (OnlyGrows setup)
  -- each session has at most one partner
  pub one_partner : AtEachMoment setup events FindsOnePartner
  -- each segment was made under a row of its maker's table that was sendable then, with the MAC of
  -- that row's key under the session's context, and stands at its place in the session's stream
  pub as_made : AtEachMoment setup events (IsAsMade setup)
  -- each segment carries the bytes given at its number
  pub carries : AtEachMoment setup events CarriesGiven
  -- where none is counted: a session is at the end of its stream, and a take showed it, only where
  -- its partner was closed and all bytes given there were taken
  pub ends_whole : AtEachMoment setup events EndsWhole
  pub shows_ends : AtEachMoment setup events ShowsEnds
  pub takes : AtEachEvent setup events (TakesAsTold setup)
  -- where the first tables have no overlap: a rollover that is planned in both tables refuses
  -- nothing that comes in time
  pub rolls_over : TablesFit setup → AtEachEvent setup events (AdmitsInTime setup)
  -- a table without a gap never lacks a key
  pub never_keyless : AtEachEvent setup events (HasKey setup)
  -- where none is counted: what passes says what the session's partner had said before, and a reset
  -- comes only of a partner that was aborted
  pub has_origin : AtEachEvent setup events (HasOrigin setup)
  pub reset_by_abort : AtEachEvent setup events (ResetsByAbort setup)
