-- The whole answer to a link file with waits.
use Rattle.std.proofs.Common.{◌≡◌, ℕ, ◌<◌, ◌==◌, not, nat_lt, true, false, List, length, Ok, refl, ap, ◌∙◌, All}
use Rattle.std.proofs.lemmas.Bool.{lt-ltb, le-ltb}
use Rattle.book_keys.specs.Rows.{Table}
use Rattle.book_cmd_link.specs.declared.timer.Timer.{Timer}
use Rattle.book_lines.specs.declared.text_fault.TextFault.{TextFault}
use Rattle.book_link.specs.declared.event.Event.{Event}
use Rattle.book_link.specs.declared.event.Event.TheVariants as event
use Rattle.book_link.specs.declared.event.Action.TheVariants as action
use Rattle.book_link.specs.Worlds.{setup_of}
use Rattle.book_cmd_link.specs.declared.timed.TimedEvent.{TimedEvent}
use Rattle.book_cmd_link.specs.declared.timed.TimedEvent.TheVariants.{Plain, Wait}
use Rattle.book_cmd_link.specs.declared.timed.TimedScript.{TimedScript}
use Rattle.book_answer.specs.Answers.{done, if_read, refusal, timed_over, too_many_events}
use Rattle.book_cmd_link.specs.TimedRuns.{most_events}
use Rattle.book_cmd_link.specs.TimedRuns.{expand, timed_script_of}
use Rattle.text_lines.specs.Readings.{Fails}
use Rattle.law_scripts.specs.Scripts.{IsEvent}
use Rattle.law_scripts.specs.Timed.{IsTimedEvent}
use Rattle.law_scripts.proofs.NewRows.{new_row}
use Rattle.link_world.specs.Events.{CanHappen}
use Rattle.command_report.specs.Reports.{Stopped, stop_of}
use Rattle.command_report.proofs.Reporting.{fails_stops}
use Rattle.both_ends.specs.declared.values.BothEnds.{BothEnds}
use Rattle.cmd_link.specs.Answers.{timed_answer}
use Rattle.cmd_link.specs.Events.{CanPass}
use Rattle.cmd_link.specs.Reports.{IsReport}

can_happen : (e : Event) → IsEvent e → CanHappen e
can_happen (event.At e (action.Clock seconds)) h = h
can_happen (event.At e (action.Connect isn)) h = tt
can_happen (event.At e (action.Listen isn)) h = tt
can_happen (event.At e (action.Start own peer)) h = tt
can_happen (event.At e (action.Give bytes)) h = tt
can_happen (event.At e (action.Fill count byte)) h = tt
can_happen (event.At e action.Send) h = tt
can_happen (event.At e action.Resend) h = tt
can_happen (event.At e (action.Deliver name)) h = tt
can_happen (event.At e (action.Inject bytes)) h = tt
can_happen (event.At e (action.Alter name place mask fixing)) h = tt
can_happen (event.At e (action.Take count)) h = tt
can_happen (event.At e action.Close) h = tt
can_happen (event.At e action.Abort) h = tt
can_happen (event.At e (action.AddRow row)) h = new_row row h
can_happen (event.At e (action.Withdraw row)) h = tt
can_happen (event.Dump name) h = tt

can_pass : (e : TimedEvent) → IsTimedEvent e → CanPass e
can_pass (Plain e) h = can_happen e h
can_pass (Wait e count) h = tt

-- the events of a script of the grammar can come about
pub all_can_pass : (events : List TimedEvent) → All IsTimedEvent events → All CanPass events
all_can_pass events h = λ k d below. can_pass _ (h k d below)

-- a text that isn't read
pub answered_fault : (tables : List Table) (text : List ℕ) (f : TextFault) → Fails f (timed_script_of text) → Stopped (stop_of f) (timed_answer tables text)
answered_fault tables text f fails = fails_stops (timed_over tables) (timed_script_of text) f fails

-- a script that has a report
pub answered_report : (tables : List Table) (text : List ℕ) (s : TimedScript) (timers : BothEnds Timer) (report : List ℕ) (count : ℕ) → timed_script_of text ≡ Ok s
    → IsReport (setup_of tables s.a s.b) (expand (setup_of tables s.a s.b) s.events) timers report count
    → timed_answer tables text ≡ done (not (count == 0)) report
answered_report tables text s timers report count h r =
    let few : nat_lt most_events (length (expand (setup_of tables s.a s.b) s.events).events) ≡ false = le-ltb _ _ r.few in
    ap (if_read (timed_over tables)) h ∙ rw (few, r.text_is, r.count_is) refl

-- a script whose plain run has too many events
pub answered_too_many : (tables : List Table) (text : List ℕ) (s : TimedScript) → timed_script_of text ≡ Ok s
    → most_events < length (expand (setup_of tables s.a s.b) s.events).events → timed_answer tables text ≡ refusal 4 too_many_events
answered_too_many tables text s h many =
    let long : nat_lt most_events (length (expand (setup_of tables s.a s.b) s.events).events) ≡ true = lt-ltb _ _ many in
    ap (if_read (timed_over tables)) h ∙ rw long refl
