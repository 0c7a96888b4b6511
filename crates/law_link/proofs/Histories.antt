-- A run goes on from where it is, and more events only add to its history.
use Rattle.std.proofs.Common.{◌≡◌, ℕ, suc, ◌+◌, Bool, List, [], ◌∷◌, ◌++◌, length, Option, Some, None, refl, sym, ap, ◌∙◌, arith, append-nil, append_assoc}
use Rattle.book_base.specs.declared.end.End.{End}
use Rattle.book_base.specs.declared.end.End.TheVariants.{A, B}
use Rattle.book_keys.specs.Rows.{Row}
use Rattle.book_keys.specs.Tables.{Adding, AddedAs, TooMany, OverlapsRow, adding, withdrawn}
use Rattle.book_endpoint.specs.States.{EndState, connected, listening, started}
use Rattle.book_link.specs.declared.event.Fixing.{Fixing}
use Rattle.book_link.specs.Alterations.{has_place, altered}
use Rattle.book_link.specs.declared.event.Event.{Event}
use Rattle.book_link.specs.declared.event.Event.TheVariants.{At, Dump}
use Rattle.book_link.specs.declared.event.Action.TheVariants.{Clock, Connect, Listen, Start, Give, Fill, Send, Resend, Deliver, Inject, Alter, Take, Close, Abort, AddRow, Withdraw}
use Rattle.book_link.specs.Outcomes.{Outcome}
use Rattle.book_link.specs.Reports.{outcome_line, lines_from, summary, report}
use Rattle.book_keys.specs.Tables.{row_of_new}
use Rattle.book_link.specs.Runs.{empty, run_from, run, outcomes_from}
use Rattle.book_link.specs.Worlds.{Setup, pair_of, Session, LinkSide, Made, Happening, World, side, find, segment_named}
use Rattle.book_link.specs.Steps.{Stepped, Act, put, with_clock, with_table, act_on, on_live, begin, come, deliver, alter, add_row, withdraw, step, view_of}
use Rattle.law_link.proofs.Tests.{choose}

-- ---- a run in two parts

pub run_split : (setup : Setup) (w : World) (events more : List Event) → run_from setup w (events ++ more) ≡ run_from setup (run_from setup w events) more
run_split setup w [] more = refl
run_split setup w (e ∷ events) more = run_split setup (step setup w e).world events more

outcomes_split : (setup : Setup) (w : World) (events more : List Event)
    → outcomes_from setup w (events ++ more) ≡ outcomes_from setup w events ++ outcomes_from setup (run_from setup w events) more
outcomes_split setup w [] more = refl
outcomes_split setup w (e ∷ events) more = ap (λ (l : List Outcome). (step setup w e).outcome ∷ l) (outcomes_split setup (step setup w e).world events more)

outcomes_long : (setup : Setup) (w : World) (events : List Event) → length (outcomes_from setup w events) ≡ length events
outcomes_long setup w [] = refl
outcomes_long setup w (e ∷ events) = ap suc (outcomes_long setup (step setup w e).world events)

lines_split : (n : ℕ) (one two : List Outcome) → lines_from n (one ++ two) ≡ lines_from n one ++ lines_from (n + length one) two
lines_split n [] two = let same : n + 0 ≡ n = omega arith in ap (λ (k : ℕ). lines_from k two) (sym same)
lines_split n (o ∷ one) two =
    let next : suc n + length one ≡ n + suc (length one) = omega arith in
    ap (λ (l : List ℕ). outcome_line n o ++ l) (lines_split (suc n) one two ∙ ap (λ (k : ℕ). lines_from (suc n) one ++ lines_from k two) next)
    ∙ sym (append_assoc (outcome_line n o) (lines_from (suc n) one) (lines_from (n + suc (length one)) two))

-- ---- one more event

pub world_goes_on : (setup : Setup) (events : List Event) (e : Event) → run setup (events ++ e ∷ []) ≡ (step setup (run setup events) e).world
world_goes_on setup events e = run_split setup (empty setup) events (e ∷ [])

pub outcomes_go_on : (setup : Setup) (events : List Event) (e : Event)
    → outcomes_from setup (empty setup) (events ++ e ∷ []) ≡ outcomes_from setup (empty setup) events ++ (step setup (run setup events) e).outcome ∷ []
outcomes_go_on setup events e = outcomes_split setup (empty setup) events (e ∷ [])

pub report_goes_on : (setup : Setup) (events : List Event) (e : Event)
    → report setup (events ++ e ∷ [])
    ≡ (lines_from 1 (outcomes_from setup (empty setup) events) ++ outcome_line (suc (length events)) (step setup (run setup events) e).outcome) ++ summary (step setup (run setup events) e).world
unfolding report
report_goes_on setup events e =
    let before = outcomes_from setup (empty setup) events in
    let s = step setup (run setup events) e in
    let place : 1 + length before ≡ suc (length events) = omega (arith, outcomes_long setup (empty setup) events) in
    let lines : lines_from 1 (outcomes_from setup (empty setup) (events ++ e ∷ [])) ≡ lines_from 1 before ++ outcome_line (suc (length events)) s.outcome =
    ap (lines_from 1) (outcomes_go_on setup events e) ∙ lines_split 1 before (s.outcome ∷ [])
    ∙ ap (λ (k : ℕ). lines_from 1 before ++ (outcome_line k s.outcome ++ [])) place
    ∙ ap (λ (l : List ℕ). lines_from 1 before ++ l) (append-nil (outcome_line (suc (length events)) s.outcome)) in
    ap (λ (l : List ℕ). l ++ summary (run setup (events ++ e ∷ []))) lines
    ∙ ap (λ (w : World). (lines_from 1 before ++ outcome_line (suc (length events)) s.outcome) ++ summary w) (world_goes_on setup events e)

-- ---- what happened stays

-- the history of a later world begins with what happened since
abbrev Adds : World → World → Type 0
Adds w v = (front : List Happening) × (v.history ≡ front ++ w.history)

adds_none : (w : World) → Adds w w
adds_none w = ([], refl)

adds_then : (w v u : World) → Adds w v → Adds v u → Adds w u
adds_then w v u (one, is) (two, so) = (two ++ one, so ∙ ap (λ (l : List Happening). two ++ l) is ∙ sym (append_assoc two one w.history))

put_adds : (w : World) (e : End) (now : LinkSide) (happened : Option Happening) → Adds w (put w e now happened)
put_adds w A now None = ([], refl)
put_adds w B now None = ([], refl)
put_adds w A now (Some h) = (h ∷ [], refl)
put_adds w B now (Some h) = (h ∷ [], refl)

act_adds : (w : World) (e : End) (sessions : List Session) (call : EndState → Act) → Adds w (act_on w e sessions call).world
act_adds w e [] call = adds_none w
act_adds w e (s ∷ rest) call = put_adds w e _ (call s.state).happened

live_adds : (w : World) (e : End) (call : EndState → Act) → Adds w (on_live w e call).world
live_adds w e call = act_adds w e (side w e).sessions call

begin_adds : (w : World) (e : End) (s : EndState) (o : Option Session) → Adds w (begin w e s o).world
begin_adds w e s (Some used) = adds_none w
begin_adds w e s None = put_adds w e _ None

deliver_adds : (setup : Setup) (w : World) (e : End) (o : Option Made) → Adds w (deliver setup w e o).world
deliver_adds setup w e None = adds_none w
deliver_adds setup w e (Some m) = live_adds w e (come m.bytes (view_of setup w e))

alter_adds : (setup : Setup) (w : World) (e : End) (place mask : ℕ) (fixing : Fixing) (o : Option Made) → Adds w (alter setup w e (record { place = place; mask = mask; fixing = fixing }) o).world
alter_adds setup w e place mask fixing None = adds_none w
alter_adds setup w e place mask fixing (Some m) =
    choose (λ (x : Stepped). Adds w x.world) (has_place m.bytes place) (on_live w e (come (altered m.bytes (record { place = place; mask = mask; fixing = fixing })) (view_of setup w e))) _
    (λ t. live_adds w e (come (altered m.bytes (record { place = place; mask = mask; fixing = fixing })) (view_of setup w e))) (λ t. adds_none w)

row_adds : (w : World) (e : End) (o : Adding) → Adds w (add_row w e o).world
row_adds w e (AddedAs n rows) = put_adds w e (with_table (side w e) rows) None
row_adds w e TooMany = adds_none w
row_adds w e (OverlapsRow n) = adds_none w

withdraw_adds : (w : World) (e : End) (o : Option (List Row)) → Adds w (withdraw w e o).world
withdraw_adds w e None = adds_none w
withdraw_adds w e (Some rows) = put_adds w e (with_table (side w e) rows) None

step_adds : (setup : Setup) (w : World) (event : Event) → Adds w (step setup w event).world
step_adds setup w (At e (Clock seconds)) = put_adds w e (with_clock (side w e) seconds) None
step_adds setup w (At e (Connect isn)) = begin_adds w e (connected (pair_of setup e) isn) (find (side w e).sessions isn)
step_adds setup w (At e (Listen isn)) = begin_adds w e (listening (pair_of setup e) isn) (find (side w e).sessions isn)
step_adds setup w (At e (Start isn peer)) = begin_adds w e (started (pair_of setup e) isn peer) (find (side w e).sessions isn)
step_adds setup w (At e (Give piece)) = live_adds w e _
step_adds setup w (At e (Fill count byte)) = live_adds w e _
step_adds setup w (At e Send) = live_adds w e _
step_adds setup w (At e Resend) = live_adds w e _
step_adds setup w (At e (Deliver name)) = deliver_adds setup w e (segment_named name w.history)
step_adds setup w (At e (Inject bytes)) = live_adds w e _
step_adds setup w (At e (Alter name place mask fixing)) = alter_adds setup w e place mask fixing (segment_named name w.history)
step_adds setup w (At e (Take count)) = live_adds w e _
step_adds setup w (At e Close) = live_adds w e _
step_adds setup w (At e Abort) = live_adds w e _
step_adds setup w (At e (AddRow row)) = row_adds w e (adding (side w e).rows (row_of_new row))
step_adds setup w (At e (Withdraw n)) = withdraw_adds w e (withdrawn (side w e).rows n)
step_adds setup w (Dump name) = adds_none w

run_adds : (setup : Setup) (w : World) (events : List Event) → Adds w (run_from setup w events)
run_adds setup w [] = adds_none w
run_adds setup w (e ∷ events) =
    let v = (step setup w e).world in adds_then w v (run_from setup v events) (step_adds setup w e) (run_adds setup v events)

pub nothing_is_unmade : (setup : Setup) (events more : List Event) → (front : List Happening) × ((run setup (events ++ more)).history ≡ front ++ (run setup events).history)
nothing_is_unmade setup events more =
    let a = run_adds setup (run setup events) more in
    (a.0, ap (λ (w : World). w.history) (run_split setup (empty setup) events more) ∙ a.1)
