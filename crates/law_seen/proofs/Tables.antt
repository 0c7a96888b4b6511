-- Where no row is added or withdrawn the tables stay, and each segment was made under its maker's first one.
use Rattle.std.proofs.Common.{◌≡◌, ℕ, Bool, true, false, not, nat_lt, List, [], ◌∷◌, length, replicate, Option, Some, None, if◌then◌else◌, refl, ◌∙◌, subst}
use Rattle.std.specs.Prelude.{⊤}
use Rattle.std.specs.List.{AllByRecursion}
use Rattle.book_base.specs.declared.end.End.{End}
use Rattle.book_base.specs.declared.end.End.TheVariants.{A, B}
use Rattle.book_endpoint.specs.Emissions.{Emitted, Quiet, NoKey, Emits, emit, resend}
use Rattle.book_endpoint.specs.States.{EndState, connected, give, gives, listening, room, started}
use Rattle.book_link.specs.Alterations.{has_place, altered}
use Rattle.book_link.specs.declared.event.Action.TheVariants.{Clock, Connect, Listen as Await, Start, Give, Fill, Send, Resend, Deliver, Inject, Alter, Take, Close, Abort, AddRow, Withdraw}
use Rattle.book_link.specs.declared.event.Event.{Event}
use Rattle.book_link.specs.declared.event.Event.TheVariants.{At, Dump}
use Rattle.book_link.specs.declared.event.Fixing.{Fixing}
use Rattle.book_link.specs.Outcomes.{Outcome, Idle, Nothing, HasClosed, Full, Done}
use Rattle.book_link.specs.Runs.{empty, run_from, run}
use Rattle.book_link.specs.Steps.{Stepped, Act, add, put, with_clock, act_on, begin, on_live, quietly, given, sent, come, deliver, alter, step, view_of}
use Rattle.book_link.specs.Worlds.{Setup, pair_of, Session, LinkSide, Made, Happening, Making, Coming, World, first_rows, find, segment_named, side}
use Rattle.law_seen.specs.Carried.{KeepsTables}
use Rattle.law_link.proofs.Sessions.{both}
use Rattle.law_link.proofs.Tests.{choose}

-- each segment was made under its maker's first table
abbrev AllUnder : Setup → List Happening → Type 0
AllUnder setup [] = ⊤
AllUnder setup (Making m ∷ past) = (m.rows ≡ first_rows setup m.maker) × AllUnder setup past
AllUnder setup (Coming r ∷ past) = AllUnder setup past

-- so it is of what happens
abbrev IsUnder : Setup → Option Happening → Type 0
IsUnder setup None = ⊤
IsUnder setup (Some (Making m)) = m.rows ≡ first_rows setup m.maker
IsUnder setup (Some (Coming r)) = ⊤

pub record Steady (setup : Setup) (w : World) : Type 0 where
  pub rows : (e : End) → (side w e).rows ≡ first_rows setup e
  pub made : AllUnder setup w.history

and_under : (setup : Setup) (happened : Option Happening) (history : List Happening) → IsUnder setup happened → AllUnder setup history → AllUnder setup (add happened history)
and_under setup None history u h = h
and_under setup (Some (Making m)) history u h = (u, h)
and_under setup (Some (Coming r)) history u h = h

put_steady : (setup : Setup) (w : World) (e : End) (now : LinkSide) (happened : Option Happening) → Steady setup w → now.rows ≡ (side w e).rows → IsUnder setup happened → Steady setup (put w e now happened)
put_steady setup w A now happened h same u =
    record { rows = both (λ f. (side (put w A now happened) f).rows ≡ first_rows setup f) (same ∙ h.rows A) (h.rows B); made = and_under setup happened w.history u h.made }
put_steady setup w B now happened h same u =
    record { rows = both (λ f. (side (put w B now happened) f).rows ≡ first_rows setup f) (h.rows A) (same ∙ h.rows B); made = and_under setup happened w.history u h.made }

named_if : (setup : Setup) (k m : Made) (o : Option Made) (b : Bool) → k.rows ≡ first_rows setup k.maker → (o ≡ Some m → m.rows ≡ first_rows setup m.maker) → (if b then Some k else o) ≡ Some m → m.rows ≡ first_rows setup m.maker
named_if setup k m o true h more e = let same : k ≡ m = cc in subst (λ (x : Made). x.rows ≡ first_rows setup x.maker) same h
named_if setup k m o false h more e = more e

pub named_under : (setup : Setup) (name : ℕ) (history : List Happening) (m : Made) → AllUnder setup history → segment_named name history ≡ Some m → m.rows ≡ first_rows setup m.maker
named_under setup name [] m h e = absurd (cc)
named_under setup name (Making k ∷ past) m h e = named_if setup k m (segment_named name past) _ h.0 (λ f. named_under setup name past m h.1 f) e
named_under setup name (Coming r ∷ past) m h e = named_under setup name past m h e

module _ (setup : Setup) where
  act_steady : (w : World) (e : End) (sessions : List Session) (call : EndState → Act) → ((s : EndState) → IsUnder setup (call s).happened) → Steady setup w → Steady setup (act_on w e sessions call).world
  act_steady w e [] call under h = h
  act_steady w e (s ∷ rest) call under h = put_steady setup w e _ (call s.state).happened h refl (under s.state)

  begin_steady : (w : World) (e : End) (s : EndState) (o : Option Session) → Steady setup w → Steady setup (begin w e s o).world
  begin_steady w e s (Some used) h = h
  begin_steady w e s None h = put_steady setup w e _ None h refl tt

  come_steady : (w : World) (e : End) (bytes : List ℕ) → Steady setup w → Steady setup (on_live w e (come bytes (view_of setup w e))).world
  come_steady w e bytes h = act_steady w e (side w e).sessions (come bytes (view_of setup w e)) (λ s. tt) h

  deliver_steady : (w : World) (e : End) (o : Option Made) → Steady setup w → Steady setup (deliver setup w e o).world
  deliver_steady w e None h = h
  deliver_steady w e (Some m) h = come_steady w e m.bytes h

  alter_steady : (w : World) (e : End) (place mask : ℕ) (fixing : Fixing) (o : Option Made) → Steady setup w → Steady setup (alter setup w e (record { place = place; mask = mask; fixing = fixing }) o).world
  alter_steady w e place mask fixing None h = h
  alter_steady w e place mask fixing (Some m) h =
      choose (λ (x : Stepped). Steady setup x.world) (has_place m.bytes place) _ _ (λ t. come_steady w e (altered m.bytes (record { place = place; mask = mask; fixing = fixing })) h) (λ t. h)

  sent_under : (w : World) (e : End) (s : EndState) (without : Outcome) (o : Emitted) → Steady setup w → IsUnder setup (sent (view_of setup w e) s without o).happened
  sent_under w e s without Quiet h = tt
  sent_under w e s without NoKey h = tt
  sent_under w e s without (Emits out) h = h.rows e

  given_under : (piece : List ℕ) (s : EndState) → IsUnder setup (given piece s).happened
  given_under piece s =
      let P : Act → Type 0 = λ a. IsUnder setup a.happened in
      choose P (not (gives s)) (quietly s HasClosed) _ (λ t. tt) (λ t. choose P (nat_lt (room s) (length piece)) (quietly s Full) (quietly (give piece s) Done) (λ t. tt) (λ t. tt))

  step_steady : (w : World) (event : Event) → KeepsTables event → Steady setup w → Steady setup (step setup w event).world
  step_steady w (At e (Clock seconds)) k h = put_steady setup w e (with_clock (side w e) seconds) None h refl tt
  step_steady w (At e (Connect isn)) k h = begin_steady w e (connected (pair_of setup e) isn) (find (side w e).sessions isn) h
  step_steady w (At e (Await isn)) k h = begin_steady w e (listening (pair_of setup e) isn) (find (side w e).sessions isn) h
  step_steady w (At e (Start isn peer)) k h = begin_steady w e (started (pair_of setup e) isn peer) (find (side w e).sessions isn) h
  step_steady w (At e (Give piece)) k h = act_steady w e (side w e).sessions _ (λ s. given_under piece s) h
  step_steady w (At e (Fill count byte)) k h = act_steady w e (side w e).sessions _ (λ s. given_under (replicate count byte) s) h
  step_steady w (At e Send) k h = act_steady w e (side w e).sessions _ (λ s. sent_under w e s Idle (emit (side w e).rows (pair_of setup e) (side w e).clock s) h) h
  step_steady w (At e Resend) k h = act_steady w e (side w e).sessions _ (λ s. sent_under w e s Nothing (resend (side w e).rows (pair_of setup e) (side w e).clock s) h) h
  step_steady w (At e (Deliver name)) k h = deliver_steady w e (segment_named name w.history) h
  step_steady w (At e (Inject bytes)) k h = come_steady w e bytes h
  step_steady w (At e (Alter name place mask fixing)) k h = alter_steady w e place mask fixing (segment_named name w.history) h
  step_steady w (At e (Take count)) k h = act_steady w e (side w e).sessions _ (λ s. tt) h
  step_steady w (At e Close) k h = act_steady w e (side w e).sessions _ (λ s. tt) h
  step_steady w (At e Abort) k h = act_steady w e (side w e).sessions _ (λ s. tt) h
  step_steady w (At e (AddRow row)) k h = absurd k
  step_steady w (At e (Withdraw n)) k h = absurd k
  step_steady w (Dump name) k h = h

  steady_from : (w : World) (events : List Event) → AllByRecursion KeepsTables events → Steady setup w → Steady setup (run_from setup w events)
  steady_from w [] k h = h
  steady_from w (event ∷ events) k h = steady_from (step setup w event).world events k.1 (step_steady w event k.0 h)

  pub run_steady : (events : List Event) → AllByRecursion KeepsTables events → Steady setup (run setup events)
  run_steady events k = steady_from (empty setup) events k (record { rows = both (λ f. (side (empty setup) f).rows ≡ first_rows setup f) refl refl; made = tt })
