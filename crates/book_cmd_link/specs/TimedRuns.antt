-- A link whose ends have retransmission timers, as a plain run (RFC 6298, section 5, and own).
-- Its tops are `timed_script_of` and `expand`.
use Rattle.std.specs.Prelude.{ℕ, zero, suc, ◌+◌, ◌-◌, ◌/◌, ◌==◌, min, max, nat_lt, nat_le, Bool}
use Rattle.std.specs.Prelude.{true, false, not, ◌&&◌, List, [], ◌∷◌, ◌++◌, length, codes, Option}
use Rattle.std.specs.Prelude.{Some, None, Result, Ok, Err, if◌then◌else◌}
use Rattle.std.specs.Option.{option_or}
use Rattle.std.specs.Str.{bytes_eq}
use Rattle.book_base.specs.declared.end.End.{End}
use Rattle.book_base.specs.declared.end.End.TheVariants.{A, B}
use Rattle.book_lines.specs.declared.line_kind.LineKind.{LineKind}
use Rattle.book_keys.specs.Lifetimes.{greatest_time}
use Rattle.book_lines.specs.declared.text_fault.TextFault.{TextFault}
use Rattle.book_lines.specs.Lines.{Line, saying_lines}
use Rattle.book_lines.specs.Said.{if_few_lines}
use Rattle.book_lines.specs.Words.{word_in, end_in, number_in, nothing_in}
use Rattle.book_base.specs.Results.{◌>>=◌}
use Rattle.book_cmd_link.specs.declared.timer.Timer.{Timer}
use Rattle.book_cmd_link.specs.Timers.{new_timer, sampled, expired}
use Rattle.book_link.specs.declared.event.Event.{Event}
use Rattle.book_link.specs.declared.event.Event.TheVariants as event
use Rattle.book_link.specs.declared.event.Action.TheVariants as action
use Rattle.book_link.specs.declared.event.Transmission.{Transmission}
use Rattle.book_link.specs.declared.event.Transmission.TheVariants.{New, Again}
use Rattle.book_link.specs.Outcomes.{Outcome, Done, Sent}
use Rattle.book_link.specs.SendFronts.{SendFront, front_at}
use Rattle.book_link.specs.Worlds.{Setup, World, side}
use Rattle.book_link.specs.Steps.{Stepped, step}
use Rattle.book_link.specs.Runs.{empty}
use Rattle.book_cmd_link.specs.declared.timed.TimedEvent.{TimedEvent}
use Rattle.book_cmd_link.specs.declared.timed.TimedEvent.TheVariants.{Plain, Wait}
use Rattle.book_cmd_link.specs.declared.timed.TimedScript.{TimedScript}
use Rattle.book_cmd_link.specs.LinkEvents.{event_named}
use Rattle.book_cmd_link.specs.LinkFiles.{link_head_in, events_of, missing_in}

-- a number whose acknowledgement is timed, and the reading at which it was sent (RFC 6298,
-- section 3)
pub record Timed : Type 0 where
  pub number : ℕ
  pub reading : ℕ

-- the timer of an end, when it expires if it runs, and what is timed (RFC 6298, section 5)
pub record Watch : Type 0 where
  pub timer : Timer
  pub deadline : Option ℕ
  pub timed : Option Timed

-- the timer of a new session (RFC 6298, section 2.1)
abbrev pub new_watch : Watch
new_watch = record { timer = new_timer; deadline = None; timed = None }

-- a link and the timers of its two ends (own)
pub record Progress : Type 0 where
  pub world : World
  pub a : Watch
  pub b : Watch

-- the timer of an end of a link (own)
abbrev pub watch_of : Progress → End → Watch
watch_of p A = p.a
watch_of p B = p.b

-- a link and its timers, where the timer of an end becomes another (own)
abbrev pub with_watch : Progress → End → Watch → Progress
with_watch p A w = record p { a = w }
with_watch p B w = record p { b = w }

-- milliseconds in whole seconds, rounded up (own)
abbrev pub whole_seconds : ℕ → ℕ
whole_seconds millis = (millis + 999) / 1000

-- the timer runs anew: its value in seconds, rounded up, after the reading (RFC 6298, section 5)
abbrev pub started_anew : ℕ → Watch → Watch
started_anew reading w = record w { deadline = Some (reading + whole_seconds w.timer.value) }

-- the timer doesn't run, and nothing is timed (RFC 6298, section 5.2)
abbrev pub stopped : Watch → Watch
stopped w = record w { deadline = None; timed = None }

-- what is timed was acknowledged: a sample is taken (RFC 6298, section 3)
abbrev pub sampled_by : (una now : ℕ) → Watch → Option Timed → Watch
sampled_by una reading w None = w
sampled_by una reading w (Some t) =
    if nat_le t.number una
    then record w { timer = sampled w.timer (reading - t.reading); timed = None }
    else w

-- what is timed of new numbers up to this one; none where they are sent again (RFC 6298, section 3)
abbrev pub newly_timed : Transmission → (number reading : ℕ) → Option Timed
newly_timed New number reading = Some (record { number = number; reading = reading })
newly_timed Again number reading = None

-- the timer of an end at this reading, by its front before an event and after it: with no front it
-- doesn't run; else it stops, runs anew or starts, a sample is taken or a number timed, by the
-- rules whose sections stand beside the cases (RFC 6298, sections 3 and 5)
abbrev pub watch_by : ℕ → Transmission → (old new : Option SendFront) → Watch → Watch
watch_by reading which old None w = stopped w
watch_by reading which None (Some new) w = w
watch_by reading which (Some old) (Some new) w =
    let sample = sampled_by new.una reading w w.timed in  -- 3
    if nat_lt old.una new.una  -- new data was acknowledged
    then (if nat_lt new.una new.next then started_anew reading sample  -- 5.3
    else stopped sample)  -- 5.2
    else if nat_lt old.next new.next  -- new numbers were sent
    then record w {
      deadline = option_or w.deadline (started_anew reading w).deadline;  -- 5.1
      timed = option_or w.timed (newly_timed which new.next reading);  -- 3, Karn's algorithm
    }
    else w

-- an event begins a session (own)
abbrev pub is_begin : Event → Bool
is_begin (event.At e (action.Connect isn)) = true
is_begin (event.At e (action.Listen isn)) = true
is_begin (event.At e (action.Start isn peer)) = true
is_begin _ = false

-- whether an event sends for the first time or again (own)
abbrev pub transmission_of : Event → Transmission
transmission_of (event.At e action.Resend) = Again
transmission_of _ = New

-- an outcome is of an event that did something (own)
abbrev pub is_done : Outcome → Bool
is_done Done = true
is_done _ = false

-- an outcome is that a segment was made (own)
abbrev pub is_sent : Outcome → Bool
is_sent (Sent made) = true
is_sent _ = false

-- nothing is timed where a segment was sent again (RFC 6298, section 3)
abbrev pub untimed_by : Transmission → (sent : Bool) → Watch → Watch
untimed_by New sent w = w
untimed_by Again sent w = if sent then record w { timed = None } else w

-- the timer of the end of an event, after it: a new session has a new timer, and what was sent
-- again isn't timed (RFC 6298, sections 2 and 3)
abbrev pub watch_after : World → Event → End → Stepped → Watch → Watch
watch_after before event e after w =
    let which = transmission_of event in
    let fronts = watch_by (side after.world e).clock which in
    let now = fronts (front_at before e) (front_at after.world e) w in
    if is_begin event && is_done after.outcome then new_watch  -- 2.1
    else untimed_by which (is_sent after.outcome) now  -- 3

-- the end of an event; `dump` has none (own)
abbrev pub end_of_event : Event → Option End
end_of_event (event.At e what) = Some e
end_of_event (event.Dump n) = None

-- a step of the link, and what it does to the timer of the event's end (own)
abbrev pub stepped_at : Progress → Event → Stepped → Option End → Progress
stepped_at p event s None = record p { world = s.world }
stepped_at p event s (Some e) =
    with_watch (record p { world = s.world }) e (watch_after p.world event e s (watch_of p e))

-- a link and its timers after a plain event (own)
abbrev pub plain : Setup → Progress → Event → Progress
plain setup p event = stepped_at p event (step setup p.world event) (end_of_event event)

-- plain events, and what they lead to (own)
pub record Expanded : Type 0 where
  pub events : List Event
  pub progress : Progress

-- events in front of those that they lead to (own)
abbrev pub before : List Event → Expanded → Expanded
before events x = record { events = events ++ x.events; progress = x.progress }

-- the reading of an end's clock (own)
abbrev pub reading_at : Progress → End → ℕ
reading_at p e = (side p.world e).clock

-- the event that sets the end's clock to this reading, unless it has it (own)
abbrev pub until : Setup → End → ℕ → Progress → Expanded
until setup e to p =
    let setting = event.At e (action.Clock to) in
    if reading_at p e == to then record { events = []; progress = p }
    else record { events = setting ∷ []; progress = plain setup p setting }

-- when the timer of an end expires next, at least one second after the reading (RFC 6298, section
-- 5, and own)
abbrev pub due : ℕ → Option ℕ → Option ℕ
due reading None = None
due reading (Some d) = Some (max d (reading + 1))

-- when the timer of an end of a link expires next (own)
abbrev pub due_at : Progress → End → Option ℕ
due_at p e = due (reading_at p e) (watch_of p e).deadline

-- the timer expired: its value is doubled, and it runs anew (RFC 6298, sections 5.5 and 5.6)
abbrev pub after_expiry : End → Progress → Progress
after_expiry e p =
    let w = watch_of p e in
    with_watch p e (started_anew (reading_at p e) (record w { timer = expired w.timer }))

-- the two events of an expiry: the clock goes to it, and the end sends again (RFC 6298, section
-- 5.4)
abbrev pub expiry : End → ℕ → List Event
expiry e d = event.At e (action.Clock d) ∷ event.At e action.Resend ∷ []

-- an expiry at this reading, and what follows it (RFC 6298, sections 5.4 to 5.6)
abbrev pub expired_then : Setup → End → Progress → (Progress → Expanded) → ℕ → Expanded
expired_then setup e p others d =
    let set = plain setup p (event.At e (action.Clock d)) in
    let sent_again = plain setup set (event.At e action.Resend) in
    before (expiry e d) (others (after_expiry e sent_again))

-- what happens up to a reading: the expiry, where one is due by then, or else the rest (own)
abbrev pub by_expiry : Option ℕ → (to : ℕ) → (ℕ → Expanded) → Expanded → Expanded
by_expiry None to expires others = others
by_expiry (Some d) to expires others = if nat_lt to d then others else expires d

-- a wait up to this reading: the timer's expiries, while they come before it; the first argument
-- bounds their number (RFC 6298, section 5, and own)
abbrev pub waited : (most : ℕ) → Setup → End → (to : ℕ) → Progress → Expanded
waited zero setup e to p = until setup e to p
waited (suc n) setup e to p =
    by_expiry (due_at p e) to (expired_then setup e p (waited n setup e to)) (until setup e to p)

-- an event of a timed link; a wait of so many seconds ends at the greatest time at last (own)
abbrev pub timed_event : Setup → Progress → TimedEvent → Expanded
timed_event setup p (Plain event) = record { events = event ∷ []; progress = plain setup p event }
timed_event setup p (Wait e count) =
    waited (count + 1) setup e (min (reading_at p e + count) greatest_time) p

-- the events of a timed link as plain events (own)
abbrev pub expand_from : Setup → Progress → List TimedEvent → Expanded
expand_from setup p [] = record { events = []; progress = p }
expand_from setup p (e ∷ es) =
    let x = timed_event setup p e in
    before x.events (expand_from setup x.progress es)

-- a link as it begins, with new timers (own)
abbrev pub begins_timed : Setup → Progress
begins_timed setup = record { world = empty setup; a = new_watch; b = new_watch }

-- the plain run that a timed link is, and the timers that it leaves (RFC 6298, section 5)
unfoldable pub expand : Setup → List TimedEvent → Expanded
expand setup events = expand_from setup (begins_timed setup) events

-- the most seconds of a wait (own)
abbrev pub longest_wait : ℕ
longest_wait = 3600

-- the event `wait END COUNT` (own)
unfoldable pub wait_of : List (List ℕ) → Result TimedEvent LineKind
wait_of ws = do
  e ← end_in ws
  count ← number_in 1 longest_wait e.rest
  none ← nothing_in count.rest
  Ok (Wait e.value count.value)

-- a plain event of a link, by its first word (own)
abbrev pub plain_named : List ℕ → List (List ℕ) → Result TimedEvent LineKind
plain_named name ws = do
  e ← event_named name ws
  Ok (Plain e)

-- the event of a line of a link file with waits (own)
unfoldable pub timed_event_of : List (List ℕ) → Result TimedEvent LineKind
timed_event_of ws = do
  name ← word_in ws
  if bytes_eq name.value (codes "wait") then wait_of name.rest else plain_named name.value name.rest

-- the script that the lines of a link file with waits make (own)
unfoldable pub timed_script_in : ℕ → List Line → Result TimedScript TextFault
timed_script_in missing ls = do
  head ← link_head_in missing ls
  events ← events_of timed_event_of head.rest
  Ok (record { a = head.value.a; b = head.value.b; events = events })

-- the script of a link file with waits, or its first fault (own)
unfoldable pub timed_script_of : List ℕ → Result TimedScript TextFault
timed_script_of text = if_few_lines text (timed_script_in (missing_in text) (saying_lines text))

-- the most events of the plain run of a link with timers (own)
abbrev pub most_events : ℕ
most_events = 20000
