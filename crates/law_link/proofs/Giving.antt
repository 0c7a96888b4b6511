-- Each step gives a session 65,535 bytes at most, so that few events give few bytes.
use Rattle.std.proofs.Common.{◌≡◌, ℕ, ◌+◌, ◌*◌, ◌≤◌, ◌<◌, ◌^◌, Bool, false, not, nat_lt, List, [], ◌∷◌, length, replicate, Option, Some, None, refl, ap, subst, arith, length-append}
use Rattle.std.specs.List.{AllByRecursion}
use Rattle.book_base.specs.declared.end.End.{End}
use Rattle.book_base.specs.declared.end.End.TheVariants.{A, B}
use Rattle.book_segments.specs.Segments.{reading}
use Rattle.book_segments.proofs.Fields.{lt_not}
use Rattle.book_keys.specs.Rows.{Row}
use Rattle.book_keys.specs.Tables.{Adding, AddedAs, TooMany, OverlapsRow, adding, withdrawn}
use Rattle.book_endpoint.specs.declared.phase.Phase.{Phase}
use Rattle.book_endpoint.specs.declared.phase.Phase.TheVariants.{Listen as Listening, SynSent, Closed}
use Rattle.book_endpoint.specs.Emissions.{Emitted, Quiet, NoKey, Emits, emit, resend}
use Rattle.book_endpoint.specs.States.{EndState, connected, listening, started, room, gives, give, close_in, abort, tick}
use Rattle.book_link.specs.declared.event.Fixing.{Fixing}
use Rattle.book_link.specs.Alterations.{has_place, altered}
use Rattle.book_link.specs.declared.event.Event.{Event}
use Rattle.book_link.specs.declared.event.Event.TheVariants.{At, Dump}
use Rattle.book_link.specs.declared.event.Action.TheVariants.{Clock, Connect, Listen, Start, Give, Fill, Send, Resend, Deliver, Inject, Alter, Take, Close, Abort, AddRow, Withdraw}
use Rattle.book_link.specs.Outcomes.{Outcome, Done, Full, HasClosed, Idle, Nothing}
use Rattle.book_keys.specs.Tables.{row_of_new}
use Rattle.book_link.specs.Runs.{empty, run_from, run}
use Rattle.book_link.specs.Steps.{View, Stepped, Act, quietly, put, with_clock, with_table, with_sessions, ticked, acted, act_on, on_live, begin, given, sent, took, come, deliver, alter, add_row, withdraw, step, view_of}
use Rattle.book_link.specs.Worlds.{Setup, pair_of, Session, LinkSide, Made, Happening, World, side, find, segment_named}
use Rattle.law_link.specs.Headline.{GivesFew, few_events}
use Rattle.law_link.proofs.GivenStays.{Emitting, arrive_given, emit_emitting, resend_emitting}
use Rattle.law_link.proofs.Running.{ticks}
use Rattle.law_link.proofs.Sessions.{both}
use Rattle.law_link.proofs.Tests.{choose}

-- each of these was given so many bytes at most
abbrev AtMost : ℕ → List Session → Type 0
AtMost n sessions = AllByRecursion (λ (s : Session). length s.state.given ≤ n) sessions

abbrev EachAtMost : ℕ → World → Type 0
EachAtMost n w = (e : End) → AtMost n (side w e).sessions

weaken : (n m : ℕ) (sessions : List Session) → n ≤ m → AtMost n sessions → AtMost m sessions
weaken n m [] low h = tt
weaken n m (s ∷ rest) low h = let here = h.0 in (omega arith, weaken n m rest low h.1)

stays : (n : ℕ) (w : World) → EachAtMost n w → EachAtMost (n + 65535) w
stays n w h = λ e. weaken n (n + 65535) (side w e).sessions (omega arith) (h e)

-- ---- a call

-- a call gives 65,535 bytes at most
abbrev GivesSome : EndState → Act → Type 0
GivesSome s act = length act.state.given ≤ length s.given + 65535

same_gives : (s : EndState) (act : Act) → act.state.given ≡ s.given → GivesSome s act
same_gives s act same = let long : length act.state.given ≡ length s.given = ap length same in omega arith

piece_gives : (piece : List ℕ) (s : EndState) → GivesSome s (given piece s)
piece_gives piece s =
    let P = GivesSome s in
    choose P (not (gives s)) (quietly s HasClosed) _ (λ t. same_gives s (quietly s HasClosed) refl) (λ t.
    choose P (nat_lt (room s) (length piece)) (quietly s Full) (quietly (give piece s) Done) (λ full. same_gives s (quietly s Full) refl)
    (λ fits. let low = lt_not (room s) (length piece) fits in let longer = length-append s.given piece in omega arith))

sent_gives : (v : View) (s : EndState) (without : Outcome) (x : Emitted) → Emitting s x → GivesSome s (sent v s without x)
sent_gives v s without Quiet same = same_gives s (sent v s without Quiet) refl
sent_gives v s without NoKey same = same_gives s (sent v s without NoKey) refl
sent_gives v s without (Emits out) same = same_gives s (sent v s without (Emits out)) same

come_gives : (setup : Setup) (e : End) (w : World) (bytes : List ℕ) (s : EndState) → GivesSome s (come bytes (view_of setup w e) s)
come_gives setup e w bytes s = same_gives s (come bytes (view_of setup w e) s) (arrive_given (side w e).rows (pair_of setup e) (side w e).clock s (reading bytes))

close_gives : (s : EndState) (phase : Phase) → GivesSome s (quietly (close_in phase s) Done)
close_gives s Listening = same_gives s (quietly (close_in Listening s) Done) refl
close_gives s SynSent = same_gives s (quietly (close_in SynSent s) Done) refl
close_gives s Closed = same_gives s (quietly (close_in Closed s) Done) refl
close_gives s phase = same_gives s (quietly (close_in phase s) Done) refl

-- ---- a step

put_most : (n : ℕ) (w : World) (e : End) (now : LinkSide) (happened : Option Happening) → AtMost (n + 65535) now.sessions → EachAtMost n w → EachAtMost (n + 65535) (put w e now happened)
put_most n w A now happened new h = both (λ f. AtMost (n + 65535) (side (put w A now happened) f).sessions) new (stays n w h B)
put_most n w B now happened new h = both (λ f. AtMost (n + 65535) (side (put w B now happened) f).sessions) (stays n w h A) new

act_most : (n : ℕ) (w : World) (e : End) (sessions : List Session) (call : EndState → Act) → (side w e).sessions ≡ sessions → ((s : EndState) → GivesSome s (call s))
    → EachAtMost n w → EachAtMost (n + 65535) (act_on w e sessions call).world
act_most n w e [] call is some h = stays n w h
act_most n w e (s ∷ rest) call is some h =
    let all : AtMost n (s ∷ rest) = subst (AtMost n) is (h e) in
    let more = some s.state in
    let low = all.0 in
    put_most n w e (with_sessions (side w e) (acted s (call s.state) ∷ rest)) (call s.state).happened (omega arith, weaken n (n + 65535) rest (omega arith) all.1) h

live_most : (n : ℕ) (w : World) (e : End) (call : EndState → Act) → ((s : EndState) → GivesSome s (call s)) → EachAtMost n w → EachAtMost (n + 65535) (on_live w e call).world
live_most n w e call some h = act_most n w e (side w e).sessions call refl some h

ticked_most : (n now : ℕ) (sessions : List Session) → AtMost n sessions → AtMost (n + 65535) (ticked now sessions)
ticked_most n now [] h = tt
ticked_most n now (s ∷ rest) h =
    let long : length (tick now s.state).given ≡ length s.state.given = ap length (ticks s.state now).steady.same_given in
    let low = h.0 in
    (omega arith, weaken n (n + 65535) rest (omega arith) h.1)

begin_most : (n : ℕ) (w : World) (e : End) (s : EndState) (o : Option Session) → s.given ≡ [] → EachAtMost n w → EachAtMost (n + 65535) (begin w e s o).world
begin_most n w e s (Some used) none h = stays n w h
begin_most n w e s None none h =
    let long : length s.given ≡ 0 = ap length none in
    put_most n w e (with_sessions (side w e) (record { state = s; end_shown = false } ∷ (side w e).sessions)) None (omega arith, stays n w h e) h

deliver_most : (n : ℕ) (setup : Setup) (w : World) (e : End) (o : Option Made) → EachAtMost n w → EachAtMost (n + 65535) (deliver setup w e o).world
deliver_most n setup w e None h = stays n w h
deliver_most n setup w e (Some m) h = live_most n w e (come m.bytes (view_of setup w e)) (come_gives setup e w m.bytes) h

alter_most : (n : ℕ) (setup : Setup) (w : World) (e : End) (place mask : ℕ) (fixing : Fixing) (o : Option Made) → EachAtMost n w → EachAtMost (n + 65535) (alter setup w e (record { place = place; mask = mask; fixing = fixing }) o).world
alter_most n setup w e place mask fixing None h = stays n w h
alter_most n setup w e place mask fixing (Some m) h =
    choose (λ (x : Stepped). EachAtMost (n + 65535) x.world) (has_place m.bytes place) (on_live w e (come (altered m.bytes (record { place = place; mask = mask; fixing = fixing })) (view_of setup w e))) _
    (λ t. live_most n w e (come (altered m.bytes (record { place = place; mask = mask; fixing = fixing })) (view_of setup w e)) (come_gives setup e w (altered m.bytes (record { place = place; mask = mask; fixing = fixing }))) h) (λ t. stays n w h)

row_most : (n : ℕ) (w : World) (e : End) (o : Adding) → EachAtMost n w → EachAtMost (n + 65535) (add_row w e o).world
row_most n w e (AddedAs k rows) h = put_most n w e (with_table (side w e) rows) None (stays n w h e) h
row_most n w e TooMany h = stays n w h
row_most n w e (OverlapsRow k) h = stays n w h

withdraw_most : (n : ℕ) (w : World) (e : End) (o : Option (List Row)) → EachAtMost n w → EachAtMost (n + 65535) (withdraw w e o).world
withdraw_most n w e None h = stays n w h
withdraw_most n w e (Some rows) h = put_most n w e (with_table (side w e) rows) None (stays n w h e) h

step_most : (n : ℕ) (setup : Setup) (w : World) (event : Event) → EachAtMost n w → EachAtMost (n + 65535) (step setup w event).world
step_most n setup w (At e (Clock seconds)) h = put_most n w e (with_clock (side w e) seconds) None (ticked_most n seconds (side w e).sessions (h e)) h
step_most n setup w (At e (Connect isn)) h = begin_most n w e (connected (pair_of setup e) isn) (find (side w e).sessions isn) refl h
step_most n setup w (At e (Listen isn)) h = begin_most n w e (listening (pair_of setup e) isn) (find (side w e).sessions isn) refl h
step_most n setup w (At e (Start isn peer)) h = begin_most n w e (started (pair_of setup e) isn peer) (find (side w e).sessions isn) refl h
step_most n setup w (At e (Give piece)) h = live_most n w e _ (piece_gives piece) h
step_most n setup w (At e (Fill count byte)) h = live_most n w e _ (piece_gives (replicate count byte)) h
step_most n setup w (At e Send) h = live_most n w e _ (λ s. sent_gives (view_of setup w e) s Idle (emit (side w e).rows (pair_of setup e) (side w e).clock s) (emit_emitting (side w e).rows (pair_of setup e) (side w e).clock s)) h
step_most n setup w (At e Resend) h = live_most n w e _ (λ s. sent_gives (view_of setup w e) s Nothing (resend (side w e).rows (pair_of setup e) (side w e).clock s) (resend_emitting (side w e).rows (pair_of setup e) (side w e).clock s)) h
step_most n setup w (At e (Deliver name)) h = deliver_most n setup w e (segment_named name w.history) h
step_most n setup w (At e (Inject bytes)) h = live_most n w e _ (come_gives setup e w bytes) h
step_most n setup w (At e (Alter name place mask fixing)) h = alter_most n setup w e place mask fixing (segment_named name w.history) h
step_most n setup w (At e (Take count)) h = live_most n w e (took count) (λ s. same_gives s (took count s) refl) h
step_most n setup w (At e Close) h = live_most n w e _ (λ s. close_gives s s.phase) h
step_most n setup w (At e Abort) h = live_most n w e _ (λ s. same_gives s (quietly (abort s) Done) refl) h
step_most n setup w (At e (AddRow row)) h = row_most n w e (adding (side w e).rows (row_of_new row)) h
step_most n setup w (At e (Withdraw k)) h = withdraw_most n w e (withdrawn (side w e).rows k) h
step_most n setup w (Dump name) h = stays n w h

-- ---- a run

run_most : (n m : ℕ) (setup : Setup) (w : World) (events : List Event) → n + 65535 * length events ≤ m → EachAtMost n w → EachAtMost m (run_from setup w events)
run_most n m setup w [] low h = λ e. weaken n m (side w e).sessions (omega arith) (h e)
run_most n m setup w (event ∷ events) low h = run_most (n + 65535) m setup (step setup w event).world events (omega arith) (step_most n setup w event h)

less_few : (n m : ℕ) (sessions : List Session) → n < m → AtMost n sessions → AllByRecursion (λ (s : Session). length s.state.given < m) sessions
less_few n m [] low h = tt
less_few n m (s ∷ rest) low h = let here = h.0 in (omega arith, less_few n m rest low h.1)

-- so many events give each session 65,535 bytes each at most
pub gives_at_most : (setup : Setup) (events : List Event) → length events ≤ few_events → (e : End) → AllByRecursion (λ (s : Session). length s.state.given ≤ 2147450880) (side (run setup events) e).sessions
gives_at_most setup events short = run_most 0 2147450880 setup (empty setup) events (omega arith) (both (λ e. AtMost 0 (side (empty setup) e).sessions) tt tt)

pub gives_few : (setup : Setup) (events : List Event) → length events ≤ few_events → GivesFew (run setup events)
gives_few setup events short e = less_few 2147450880 (2 ^ 31) (side (run setup events) e).sessions (omega arith) (gives_at_most setup events short e)
