-- Which events are arrivals, and of what.
use Rattle.std.proofs.Common.{◌≡◌, ℕ, suc, ◌<◌, Bool, true, false, not, List, [], ◌∷◌, length, replicate, Option, Some, None, if◌then◌else◌, refl, sym, ap, ◌∙◌, subst, arith, nat_lt}
use Rattle.std.specs.Prelude.{⊤}
use Rattle.book_keys.specs.Tables.{row_of_new}
use Rattle.book_base.specs.declared.end.End.{End}
use Rattle.book_base.specs.declared.end.End.TheVariants.{A, B}
use Rattle.book_segments.specs.Segments.{reading}
use Rattle.book_segments.specs.Spelling.{AreBytes}
use Rattle.book_keys.specs.Tables.{Adding, AddedAs, TooMany, OverlapsRow, adding, withdrawn}
use Rattle.book_keys.specs.Rows.{Row}
use Rattle.book_endpoint.specs.States.{EndState, gives, room, give}
use Rattle.book_endpoint.specs.Arrivals.{arrive}
use Rattle.book_endpoint.specs.Emissions.{Emitted, Quiet, NoKey, Emits, emit, resend}
use Rattle.law_link.proofs.ByteLists.{altered_bytes}
use Rattle.law_link.proofs.Tests.{choose}
use Rattle.book_link.specs.declared.event.Fixing.{Fixing}
use Rattle.book_link.specs.Alterations.{has_place, altered}
use Rattle.book_link.specs.declared.event.Event.{Event}
use Rattle.book_link.specs.declared.event.Event.TheVariants.{At, Dump}
use Rattle.book_link.specs.declared.event.Action.TheVariants.{Clock, Connect, Listen as Await, Start, Give, Fill, Send, Resend, Deliver, Inject, Alter, Take, Close, Abort, AddRow, Withdraw}
use Rattle.book_link.specs.Outcomes.{Outcome, Idle, Nothing, HasClosed, Full, Done, NoPlace}
use Rattle.book_link.specs.Worlds.{Setup, pair_of, Session, LinkSide, Made, Came, Happening, Making, Coming, World, side, live, segment_named}
use Rattle.book_link.specs.Steps.{View, Act, add, put, with_table, with_clock, act_on, on_live, quietly, begin, given, sent, send, send_again, come, took, deliver, alter, add_row, withdraw, step, view_of}
use Rattle.law_link.specs.Laws.{SetupFits, EventFits}
use Rattle.law_link.proofs.Invariant.{Inv}
use Rattle.law_link.proofs.Running.{named_bytes}

-- bytes that came to the live session of an end
pub record CameBy (setup : Setup) (w : World) (r : Came) : Type 0 where
  pub session : Session
  pub lives : live (side w r.at).sessions ≡ Some session
  pub bytes : AreBytes r.bytes
  pub answer : r.answer ≡ (arrive (side w r.at).rows (pair_of setup r.at) (side w r.at).clock session.state (reading r.bytes)).answer
  pub passed : r.passed ≡ (arrive (side w r.at).rows (pair_of setup r.at) (side w r.at).clock session.state (reading r.bytes)).passed

abbrev NotComing : Option Happening → Type 0
NotComing None = ⊤
NotComing (Some (Making m)) = ⊤
NotComing (Some (Coming r)) = ⊥

longer : (h : Happening) (past : List Happening) → past ≡ h ∷ past → ⊥
longer h past e = let len : length past ≡ suc (length past) = ap (λ (l : List Happening). length l) e in omega arith

not_coming : (h : Option Happening) (past : List Happening) (r : Came) → NotComing h → add h past ≡ Coming r ∷ past → ⊥
not_coming None past r no_one e = longer (Coming r) past e
not_coming (Some (Making m)) past r no_one e = absurd (cc)
not_coming (Some (Coming k)) past r no_one e = absurd no_one

put_history : (w : World) (e : End) (now : LinkSide) (h : Option Happening) → (put w e now h).history ≡ add h w.history
put_history w A now h = refl
put_history w B now h = refl

live_quiet : (w : World) (e : End) (sessions : List Session) (call : EndState → Act) (r : Came) → ((s : EndState) → NotComing (call s).happened) → (act_on w e sessions call).world.history ≡ Coming r ∷ w.history → ⊥
live_quiet w e [] call r never is = longer (Coming r) w.history is
live_quiet w e (s ∷ rest) call r never is = not_coming (call s.state).happened w.history r (never s.state) (sym (put_history w e _ (call s.state).happened) ∙ is)

sent_quiet : (v : View) (s : EndState) (without : Outcome) (o : Emitted) → NotComing (sent v s without o).happened
sent_quiet v s without Quiet = tt
sent_quiet v s without NoKey = tt
sent_quiet v s without (Emits out) = tt

given_quiet : (piece : List ℕ) (s : EndState) → NotComing (given piece s).happened
given_quiet piece s =
    let P : Act → Type 0 = λ a. NotComing a.happened in
    choose P (not (gives s)) (quietly s HasClosed) _ (λ t. tt) (λ t. choose P (nat_lt (room s) (length piece)) (quietly s Full) (quietly (give piece s) Done) (λ t. tt) (λ t. tt))

begin_quiet : (w : World) (e : End) (s : EndState) (o : Option Session) (r : Came) → (begin w e s o).world.history ≡ Coming r ∷ w.history → ⊥
begin_quiet w e s (Some used) r is = longer (Coming r) w.history is
begin_quiet w e s None r is = not_coming None w.history r tt (sym (put_history w e _ None) ∙ is)

put_quiet : (w : World) (e : End) (now : LinkSide) (r : Came) → (put w e now None).history ≡ Coming r ∷ w.history → ⊥
put_quiet w e now r is = not_coming None w.history r tt (sym (put_history w e now None) ∙ is)

add_quiet : (w : World) (e : End) (o : Adding) (r : Came) → (add_row w e o).world.history ≡ Coming r ∷ w.history → ⊥
add_quiet w e (AddedAs n rows) r is = put_quiet w e (with_table (side w e) rows) r is
add_quiet w e TooMany r is = longer (Coming r) w.history is
add_quiet w e (OverlapsRow n) r is = longer (Coming r) w.history is

withdraw_quiet : (w : World) (e : End) (o : Option (List Row)) (r : Came) → (withdraw w e o).world.history ≡ Coming r ∷ w.history → ⊥
withdraw_quiet w e None r is = longer (Coming r) w.history is
withdraw_quiet w e (Some rows) r is = put_quiet w e (with_table (side w e) rows) r is

came_is : (k r : Came) (past : List Happening) → Coming k ∷ past ≡ Coming r ∷ past → k ≡ r
came_is k r past e = cc

come_came : (setup : Setup) (w : World) (e : End) (sessions : List Session) (bytes : List ℕ) (r : Came) → (side w e).sessions ≡ sessions → AreBytes bytes
    → (act_on w e sessions (come bytes (view_of setup w e))).world.history ≡ Coming r ∷ w.history → CameBy setup w r
come_came setup w e [] bytes r is all came = absurd (longer (Coming r) w.history came)
come_came setup w e (s ∷ rest) bytes r is all came =
    let a = arrive (side w e).rows (pair_of setup e) (side w e).clock s.state (reading bytes) in
    let k : Came = record { at = e; isn = s.state.isn; clock = (side w e).clock; bytes = bytes; answer = a.answer; passed = a.passed } in
    subst (λ (x : Came). CameBy setup w x) (came_is k r w.history (sym (put_history w e _ (Some (Coming k))) ∙ came))
    (record { session = s; lives = ap live is; bytes = all; answer = refl; passed = refl })

module _ (setup : Setup) (fits : SetupFits setup) where
  deliver_came : (w : World) (e : End) (o : Option Made) (r : Came) → ((m : Made) → o ≡ Some m → AreBytes m.bytes) → (deliver setup w e o).world.history ≡ Coming r ∷ w.history → CameBy setup w r
  deliver_came w e None r all is = absurd (longer (Coming r) w.history is)
  deliver_came w e (Some m) r all is = come_came setup w e (side w e).sessions m.bytes r refl (all m refl) is

  alter_if : (w : World) (e : End) (place mask : ℕ) (fixing : Fixing) (m : Made) (r : Came) (b : Bool) → mask < 256 → AreBytes m.bytes
      → (if b then on_live w e (come (altered m.bytes (record { place = place; mask = mask; fixing = fixing })) (view_of setup w e)) else record { world = w; outcome = NoPlace }).world.history ≡ Coming r ∷ w.history → CameBy setup w r
  alter_if w e place mask fixing m r true low all is =
      come_came setup w e (side w e).sessions (altered m.bytes (record { place = place; mask = mask; fixing = fixing })) r refl (altered_bytes m.bytes place mask fixing low (record { at = all })).at is
  alter_if w e place mask fixing m r false low all is = absurd (longer (Coming r) w.history is)

  alter_came : (w : World) (e : End) (place mask : ℕ) (fixing : Fixing) (o : Option Made) (r : Came) → mask < 256 → ((m : Made) → o ≡ Some m → AreBytes m.bytes)
      → (alter setup w e (record { place = place; mask = mask; fixing = fixing }) o).world.history ≡ Coming r ∷ w.history → CameBy setup w r
  alter_came w e place mask fixing None r low all is = absurd (longer (Coming r) w.history is)
  alter_came w e place mask fixing (Some m) r low all is = alter_if w e place mask fixing m r (has_place m.bytes place) low (all m refl) is

  pub came_by : (w : World) (event : Event) (r : Came) → EventFits event → Inv setup w → (step setup w event).world.history ≡ Coming r ∷ w.history → CameBy setup w r
  came_by w (At e (Clock seconds)) r f inv is = absurd (put_quiet w e (with_clock (side w e) seconds) r is)
  came_by w (At e (Connect isn)) r f inv is = absurd (begin_quiet w e _ _ r is)
  came_by w (At e (Await isn)) r f inv is = absurd (begin_quiet w e _ _ r is)
  came_by w (At e (Start isn peer)) r f inv is = absurd (begin_quiet w e _ _ r is)
  came_by w (At e (Give piece)) r f inv is = absurd (live_quiet w e (side w e).sessions (given piece) r (given_quiet piece) is)
  came_by w (At e (Fill count byte)) r f inv is = absurd (live_quiet w e (side w e).sessions (given (replicate count byte)) r (given_quiet (replicate count byte)) is)
  came_by w (At e Send) r f inv is = absurd (live_quiet w e (side w e).sessions (send (view_of setup w e)) r (λ s. sent_quiet (view_of setup w e) s Idle (emit (side w e).rows (pair_of setup e) (side w e).clock s)) is)
  came_by w (At e Resend) r f inv is = absurd (live_quiet w e (side w e).sessions (send_again (view_of setup w e)) r (λ s. sent_quiet (view_of setup w e) s Nothing (resend (side w e).rows (pair_of setup e) (side w e).clock s)) is)
  came_by w (At e (Deliver name)) r f inv is = deliver_came w e (segment_named name w.history) r (λ m named. named_bytes setup fits w name m inv named) is
  came_by w (At e (Inject bytes)) r f inv is = come_came setup w e (side w e).sessions bytes r refl f is
  came_by w (At e (Alter name place mask fixing)) r f inv is = alter_came w e place mask fixing (segment_named name w.history) r f (λ m named. named_bytes setup fits w name m inv named) is
  came_by w (At e (Take count)) r f inv is = absurd (live_quiet w e (side w e).sessions (took count) r (λ s. tt) is)
  came_by w (At e Close) r f inv is = absurd (live_quiet w e (side w e).sessions _ r (λ s. tt) is)
  came_by w (At e Abort) r f inv is = absurd (live_quiet w e (side w e).sessions _ r (λ s. tt) is)
  came_by w (At e (AddRow row)) r f inv is = absurd (add_quiet w e (adding (side w e).rows (row_of_new row)) r is)
  came_by w (At e (Withdraw n)) r f inv is = absurd (withdraw_quiet w e (withdrawn (side w e).rows n) r is)
  came_by w (Dump name) r f inv is = absurd (longer (Coming r) w.history is)
