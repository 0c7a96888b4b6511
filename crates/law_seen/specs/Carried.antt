-- What the judgement `aligned` on a planned rollover promises of each run over these tables. Its
-- top is `CarriesEveryRun`.
use Rattle.std.specs.Prelude.{◌≡◌, ◌≢◌, ℕ, ◌+◌, ◌≤◌, true, false, List, length, Some, ⊤}
use Rattle.std.specs.List.{AllByRecursion}
use Rattle.book_base.specs.declared.end.End.{End}
use Rattle.book_base.specs.declared.end.End.TheVariants.{A, B}
use Rattle.book_keys.specs.Plans.{lint_rows}
use Rattle.book_keys.specs.declared.lint.LintAnswer.TheVariants as answer
use Rattle.book_keys.specs.declared.plan.Plan.{Plan}
use Rattle.book_endpoint.specs.States.{is_closed}
use Rattle.book_link.specs.declared.event.Action.TheVariants.{AddRow, Deliver, Resend, Send}
use Rattle.book_link.specs.declared.event.Action.TheVariants.{Withdraw}
use Rattle.book_link.specs.declared.event.Event.{Event}
use Rattle.book_link.specs.declared.event.Event.TheVariants.{At}
use Rattle.book_link.specs.Outcomes.{WithoutKey}
use Rattle.book_link.specs.Runs.{run}
use Rattle.book_link.specs.Steps.{step}
use Rattle.book_link.specs.Worlds.{Made, Session, Setup, World, addressed, find, first_rows, live}
use Rattle.book_link.specs.Worlds.{other, pair_of, segment_named, side}
use Rattle.law_seen.specs.Apart.{forgeries_in}
use Rattle.law_link.specs.Headline.{few_events}
use Rattle.law_link.specs.Laws.{EventFits, IsAdmitted}

-- the judgement on the tables with which both ends begin is `aligned` (own)
abbrev pub IsAligned : Plan → Setup → Type 0
IsAligned plan setup =
    lint_rows (first_rows setup A) (first_rows setup B) (pair_of setup A) plan ≡ answer.Aligned

-- the event neither adds nor withdraws a row (own)
abbrev pub KeepsTables : Event → Type 0
KeepsTables (At e (AddRow row)) = ⊥
KeepsTables (At e (Withdraw number)) = ⊥
KeepsTables event = ⊤

-- a segment that the other end made is about to be delivered as it was made, and is addressed to
-- the live session, which isn't closed (RFC 9293, section 3.10.7)
pub record ComesAsMade (w : World) (e : End) (name : ℕ) (m : Made) : Type 0 where
  pub made : segment_named name w.history ≡ Some m
  pub maker : m.maker ≡ other e
  pub sender : Session
  pub sent : find (side w (other e)).sessions m.isn ≡ Some sender
  pub receiver : Session
  pub lives : live (side w e).sessions ≡ Some receiver
  pub awake : is_closed receiver.state.phase ≡ false
  pub addressed : addressed m.emission.segment sender.state receiver.state ≡ true

-- the receiver's reading now is at most `lead` behind the maker's when it made the segment, and at
-- most `lag` ahead (own)
pub record IsInTime (plan : Plan) (made now : ℕ) : Type 0 where
  pub early : made ≤ now + plan.lead
  pub late : now ≤ made + plan.lag

-- a reading is within the times for which the plan was judged (own)
pub record IsPlanned (plan : Plan) (now : ℕ) : Type 0 where
  pub after : plan.from ≤ now
  pub before : now ≤ plan.to

-- the tables carry what an end does next (own)
pub record Carries (plan : Plan) (setup : Setup) (w : World) (e : End) : Type 0 where
  -- what comes as it was made, in time, passes the check, where no forgery is counted in the session
  -- that it comes to (RFC 5925, section 7.5)
  pub admits : (name : ℕ) (m : Made) (c : ComesAsMade w e name m)
      → IsInTime plan m.clock (side w e).clock
      → forgeries_in e c.receiver.state.isn w.history ≡ 0
      → IsAdmitted (step setup w (At e (Deliver name))).outcome
  -- within the plan's times no send lacks a key, nor what is sent again (RFC 5925, section 7.4)
  pub sends : IsPlanned plan (side w e).clock → (step setup w (At e Send)).outcome ≢ WithoutKey
  pub resends : IsPlanned plan (side w e).clock → (step setup w (At e Resend)).outcome ≢ WithoutKey

-- the tables carry each end through each run of at most 32,768 events in which no row is added or
-- withdrawn, whatever is lost, repeated, reordered, altered or injected in it (own)
abbrev pub CarriesEveryRun : Plan → Setup → Type 0
CarriesEveryRun plan setup =
    (events : List Event) → AllByRecursion EventFits events → AllByRecursion KeepsTables events
    → length events ≤ few_events → (e : End) → Carries plan setup (run setup events) e
