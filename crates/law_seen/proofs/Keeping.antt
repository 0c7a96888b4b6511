-- What a session in which no forgery is counted received is its partner's: each step keeps it.
use Rattle.std.proofs.Common.{◌≡◌, ℕ, ◌+◌, ◌≤◌, ◌==◌, ◌^◌, ◌<◌, ◌&&◌, Bool, true, false, not, nat_lt, List, [], ◌∷◌, length, replicate, Option, Some, None, inl, if◌then◌else◌, refl, sym, ap, ◌∙◌, subst, arith}
use Rattle.std.proofs.lemmas.Bool.Decides.{nat_tests}
use Rattle.std.specs.Prelude.{⊤}
use Rattle.std.specs.List.{AllByRecursion}
use Rattle.book_base.specs.declared.end.End.{End}
use Rattle.book_base.specs.declared.end.End.TheVariants.{A, B}
use Rattle.book_segments.specs.Spelling.{AreBytes}
use Rattle.book_keys.specs.Rows.{Row}
use Rattle.book_keys.specs.Tables.{Adding, AddedAs, TooMany, OverlapsRow, adding, row_of_new, withdrawn}
use Rattle.book_endpoint.specs.Emissions.{Emitted, Quiet, NoKey, Emits, emit, resend}
use Rattle.book_endpoint.specs.States.{EndState, connected, give, gives, listening, room, started, tick}
use Rattle.book_link.specs.Alterations.{has_place, altered}
use Rattle.book_link.specs.declared.event.Action.TheVariants.{Clock, Connect, Listen as Await, Start, Give, Fill, Send, Resend, Deliver, Inject, Alter, Take, Close, Abort, AddRow, Withdraw}
use Rattle.book_link.specs.declared.event.Event.{Event}
use Rattle.book_link.specs.declared.event.Event.TheVariants.{At, Dump}
use Rattle.book_link.specs.declared.event.Fixing.{Fixing}
use Rattle.book_link.specs.Outcomes.{Outcome, Idle, Nothing, HasClosed, Full, Done}
use Rattle.book_link.specs.Runs.{empty, run_from, run}
use Rattle.book_link.specs.Steps.{Stepped, View, Act, add, put, with_sessions, with_table, ticked, acted, act_on, begin, on_live, quietly, given, sent, come, deliver, alter, add_row, withdraw, step, view_of}
use Rattle.book_link.specs.Worlds.{other, Setup, pair_of, Session, LinkSide, Made, Happening, Making, Coming, World, side, find, forged, forgeries, same_end, segment_named}
use Rattle.law_seen.specs.Apart.{came_to, forgeries_in}
use Rattle.law_link.proofs.ByteLists.{altered_bytes, repeated}
use Rattle.law_link.proofs.Calls.{given_ok, took_ok, close_ok, abort_ok}
use Rattle.law_link.proofs.Invariant.{AllSound, AllWhole, Grows, Inv}
use Rattle.law_link.proofs.Keeping.{ActOk, Gained, same_gained}
use Rattle.law_link.proofs.Making.{send_ok, resend_act_ok}
use Rattle.law_link.proofs.Received.{Acked, Received, Unforged, acked-grows, few_before, head_acked, head_received, received-grows}
use Rattle.law_link.proofs.Running.{ticks, tick_later, come_ok, named_bytes, step_keeps, begins_inv}
use Rattle.law_link.proofs.Sessions.{both, grows_refl, grows_head, grows_new}
use Rattle.law_link.proofs.Sound.{Later, Sound, steady_sound}
use Rattle.law_link.proofs.Tests.{choose}
use Rattle.law_link.proofs.Whole.{Whole}
use Rattle.law_link.specs.Laws.{SetupFits, EventFits}

-- received was given, and acknowledged was received
pub record Kept (others : List Session) (s : EndState) : Type 0 where
  pub received : Received others s
  pub acked : length s.given < 2 ^ 31 → Acked others s

-- so it is of the sessions of an end in which no forgery is counted
abbrev pub AllKept : End → List Happening → (others sessions : List Session) → Type 0
AllKept e history others sessions = AllByRecursion (λ (s : Session). forgeries_in e s.state.isn history ≡ 0 → Kept others s.state) sessions

pub record Apart (w : World) : Type 0 where
  pub kept : (e : End) → AllKept e w.history (side w (other e)).sessions (side w e).sessions

-- ---- forgeries of a session

fewer_in : (e : End) (isn : ℕ) (happened : Option Happening) (history : List Happening) → forgeries_in e isn (add happened history) ≡ 0 → forgeries_in e isn history ≡ 0
fewer_in e isn None history z = z
fewer_in e isn (Some (Making m)) history z = z
fewer_in e isn (Some (Coming r)) history z = omega arith

-- what happens is of this session of this end
abbrev IsOf : End → ℕ → Option Happening → Type 0
IsOf e isn None = ⊤
IsOf e isn (Some (Making m)) = ⊤
IsOf e isn (Some (Coming r)) = (r.at ≡ e) × (r.isn ≡ isn)

same_end_refl : (e : End) → same_end e e ≡ true
same_end_refl A = refl
same_end_refl B = refl

eqb_refl : (x : ℕ) → (x == x) ≡ true
eqb_refl x = grind (arith, nat_tests)

came_here : (e f : End) (isn k : ℕ) → f ≡ e → k ≡ isn → (same_end f e && (k == isn)) ≡ true
came_here e f isn k at same =
    subst (λ (g : End). (same_end g e && (k == isn)) ≡ true) (sym at)
    (ap (λ b. b && (k == isn)) (same_end_refl e) ∙ (ap (λ n. n == isn) same ∙ eqb_refl isn))

first_zero : (b : Bool) (n more : ℕ) → b ≡ true → (if b then n else 0) + more ≡ 0 → n ≡ 0
first_zero true n more t z = omega arith
first_zero false n more t z = absurd (cc)

unforged_here : (e : End) (isn : ℕ) (happened : Option Happening) (history : List Happening) → IsOf e isn happened → forgeries_in e isn (add happened history) ≡ 0 → Unforged happened history
unforged_here e isn None history of z = tt
unforged_here e isn (Some (Making m)) history of z = tt
unforged_here e isn (Some (Coming r)) history of z = first_zero (came_to e isn r) (forged r.at r.passed history) (forgeries_in e isn history) (came_here e r.at isn r.isn of.0 of.1) z

none_more : (b : Bool) (n more : ℕ) → n ≡ 0 → more ≡ 0 → (if b then n else 0) + more ≡ 0
none_more true n more e f = omega arith
none_more false n more e f = omega arith

pub none_in_any : (e : End) (isn : ℕ) (history : List Happening) → forgeries history ≡ 0 → forgeries_in e isn history ≡ 0
none_in_any e isn [] z = refl
none_in_any e isn (Making m ∷ past) z = none_in_any e isn past z
none_in_any e isn (Coming r ∷ past) z =
    none_more (came_to e isn r) (forged r.at r.passed past) (forgeries_in e isn past) (omega arith) (none_in_any e isn past (omega arith))

-- ---- what stays so

kept-grows : (others now : List Session) (s : EndState) → Grows others now → Kept others s → Kept now s
kept-grows others now s g h = record { received = received-grows others now s g h.received; acked = λ few. acked-grows others now s g (h.acked few) }

all_kept-grows : (e : End) (happened : Option Happening) (history : List Happening) (others now sessions : List Session) → Grows others now → AllKept e history others sessions → AllKept e (add happened history) now sessions
all_kept-grows e happened history others now [] g h = tt
all_kept-grows e happened history others now (s ∷ rest) g h =
    (λ z. kept-grows others now s.state g (h.0 (fewer_in e s.state.isn happened history z)), all_kept-grows e happened history others now rest g h.1)

-- an end changes so
put_apart : (w : World) (e : End) (now : LinkSide) (happened : Option Happening) → Apart w → Grows (side w e).sessions now.sessions
    → (AllKept e w.history (side w (other e)).sessions (side w e).sessions → AllKept e (add happened w.history) (side w (other e)).sessions now.sessions) → Apart (put w e now happened)
put_apart w A now happened h g kept =
    let v = put w A now happened in
    record { kept = both (λ f. AllKept f v.history (side v (other f)).sessions (side v f).sessions) (kept (h.kept A)) (all_kept-grows B happened w.history w.a.sessions now.sessions w.b.sessions g (h.kept B)) }
put_apart w B now happened h g kept =
    let v = put w B now happened in
    record { kept = both (λ f. AllKept f v.history (side v (other f)).sessions (side v f).sessions) (all_kept-grows A happened w.history w.b.sessions now.sessions w.a.sessions g (h.kept A)) (kept (h.kept B)) }

module _ (setup : Setup) (fits : SetupFits setup) where
  -- the newest session of an end changes so
  head_kept : (w : World) (e : End) (s : Session) (rest : List Session) (u : Session) (happened : Option Happening) → Inv setup w → Sound s.state → Sound u.state → Whole u.state → Later s.state u.state
      → Gained setup e s.state u.state happened → IsOf e s.state.isn happened → AllKept e w.history (side w (other e)).sessions (s ∷ rest) → AllKept e (add happened w.history) (side w (other e)).sessions (u ∷ rest)
  head_kept w e s rest u happened inv sound sound_u whole_u l gained of h =
      let others = (side w (other e)).sessions in (
        λ z.
            let same : forgeries_in e s.state.isn (add happened w.history) ≡ 0 = subst (λ n. forgeries_in e n (add happened w.history) ≡ 0) l.same_isn z in
            let none = unforged_here e s.state.isn happened w.history of same in
            let was = h.0 (fewer_in e s.state.isn happened w.history same) in
            record {
              received = head_received setup fits w e inv s.state u.state happened sound l gained none was.received;
              acked = λ few. head_acked setup fits w e inv s.state u.state happened sound l gained none sound_u whole_u few (was.acked (few_before s.state u.state l few));
            },
        all_kept-grows e happened w.history others others rest (grows_refl others) h.1,
      )

  head_apart : (w : World) (e : End) (s : Session) (rest : List Session) (now : LinkSide) (u : Session) (happened : Option Happening) → (side w e).sessions ≡ s ∷ rest → now.sessions ≡ u ∷ rest → Inv setup w → Sound s.state → Sound u.state
      → Whole u.state → Later s.state u.state → Gained setup e s.state u.state happened → IsOf e s.state.isn happened → Grows (s ∷ rest) (u ∷ rest) → Apart w → Apart (put w e now happened)
  head_apart w e s rest now u happened old new inv sound sound_u whole_u l gained of grows h =
      let others = (side w (other e)).sessions in
      put_apart w e now happened h
      (subst (λ (a : List Session). Grows a now.sessions) (sym old) (subst (λ (b : List Session). Grows (s ∷ rest) b) (sym new) grows))
      (λ all. subst (λ (a : List Session). AllKept e (add happened w.history) others a) (sym new)
      (head_kept w e s rest u happened inv sound sound_u whole_u l gained of (subst (λ (a : List Session). AllKept e w.history others a) old all)))

  -- ---- each step

  act_apart : (w : World) (e : End) (sessions : List Session) (call : EndState → Act) → (side w e).sessions ≡ sessions → Inv setup w → ((s : EndState) → IsOf e s.isn (call s).happened)
      → ((s : EndState) → Sound s → Whole s → ActOk setup e s (call s)) → Apart w → Apart (act_on w e sessions call).world
  act_apart w e [] call is inv of ok h = h
  act_apart w e (s ∷ rest) call is inv of ok h =
      let sound : AllSound (s ∷ rest) = subst AllSound is (inv.sound e) in
      let whole : AllWhole (s ∷ rest) = subst AllWhole is (inv.whole e) in
      let act = call s.state in
      let done = ok s.state sound.0 whole.0 in
      let u = acted s act in
      head_apart w e s rest (with_sessions (side w e) (u ∷ rest)) u act.happened is refl inv sound.0 done.sound done.whole done.later done.gained (of s.state) (grows_head s u rest done.later) h

  quiet_apart : (w : World) (e : End) (now : LinkSide) → now.sessions ≡ (side w e).sessions → Apart w → Apart (put w e now None)
  quiet_apart w e now same h =
      let others = (side w (other e)).sessions in
      put_apart w e now None h (λ isn t f. grows_refl now.sessions isn t (ap (λ (l : List Session). find l isn) same ∙ f))
      (λ all. subst (λ (l : List Session). AllKept e w.history others l) (sym same) all)

  clock_if : (w : World) (e : End) (seconds : ℕ) (sessions : List Session) → (side w e).sessions ≡ sessions → Inv setup w → Apart w
      → Apart (put w e (record { clock = seconds; rows = (side w e).rows; sessions = ticked seconds sessions }) None)
  clock_if w e seconds [] is inv h = quiet_apart w e (record { clock = seconds; rows = (side w e).rows; sessions = [] }) (sym is) h
  clock_if w e seconds (s ∷ rest) is inv h =
      let sound : AllSound (s ∷ rest) = subst AllSound is (inv.sound e) in
      let whole : AllWhole (s ∷ rest) = subst AllWhole is (inv.whole e) in
      let u : Session = record { state = tick seconds s.state; end_shown = s.end_shown } in
      let half = ticks s.state seconds in
      let l = tick_later s.state seconds in
      head_apart w e s rest (record { clock = seconds; rows = (side w e).rows; sessions = u ∷ rest }) u None is refl inv sound.0 (steady_sound s.state u.state half.steady sound.0) (half.whole whole.0) l
      (same_gained setup e s.state u.state None half.same_received half.same_fin half.same_una) tt (grows_head s u rest l) h

  new_apart : (w : World) (e : End) (s : EndState) (o : Option Session) → find (side w e).sessions s.isn ≡ o → s.una ≤ s.isn + 1 → ((p : ℕ) → s.received p ≡ None) → s.fin ≡ None → Apart w
      → Apart (begin w e s o).world
  new_apart w e s (Some used) is low empty no_fin h = h
  new_apart w e s None is low empty no_fin h =
      let u : Session = record { state = s; end_shown = false } in
      put_apart w e (with_sessions (side w e) (u ∷ (side w e).sessions)) None h (grows_new u (side w e).sessions is)
      (λ all. (λ z. record { received = record { bytes = λ p b r. let n = empty p in absurd (cc); fins = λ f r. absurd (cc); sent = λ p b r. let n = empty p in absurd (cc); gone = λ f r. absurd (cc) }; acked = λ few. inl low }, all))

  arrive_apart : (w : World) (e : End) (bytes : List ℕ) → AreBytes bytes → Inv setup w → Apart w → Apart (on_live w e (come bytes (view_of setup w e))).world
  arrive_apart w e bytes all inv h = act_apart w e (side w e).sessions (come bytes (view_of setup w e)) refl inv (λ s. (refl, refl)) (λ s a b. come_ok setup fits e w bytes s all a b) h

  deliver_apart : (w : World) (e : End) (o : Option Made) → ((m : Made) → o ≡ Some m → AreBytes m.bytes) → Inv setup w → Apart w → Apart (deliver setup w e o).world
  deliver_apart w e None all inv h = h
  deliver_apart w e (Some m) all inv h = arrive_apart w e m.bytes (all m refl) inv h

  alter_apart : (w : World) (e : End) (place mask : ℕ) (fixing : Fixing) (o : Option Made) → mask < 256 → ((m : Made) → o ≡ Some m → AreBytes m.bytes) → Inv setup w → Apart w
      → Apart (alter setup w e (record { place = place; mask = mask; fixing = fixing }) o).world
  alter_apart w e place mask fixing None low all inv h = h
  alter_apart w e place mask fixing (Some m) low all inv h =
      choose (λ (x : Stepped). Apart x.world) (has_place m.bytes place) _ _
      (λ t. arrive_apart w e (altered m.bytes (record { place = place; mask = mask; fixing = fixing })) (altered_bytes m.bytes place mask fixing low (record { at = all m refl })).at inv h) (λ t. h)

  add_apart : (w : World) (e : End) (o : Adding) → Apart w → Apart (add_row w e o).world
  add_apart w e (AddedAs n rows) h = quiet_apart w e (with_table (side w e) rows) refl h
  add_apart w e TooMany h = h
  add_apart w e (OverlapsRow n) h = h

  withdraw_apart : (w : World) (e : End) (o : Option (List Row)) → Apart w → Apart (withdraw w e o).world
  withdraw_apart w e None h = h
  withdraw_apart w e (Some rows) h = quiet_apart w e (with_table (side w e) rows) refl h

  sent_of : (v : View) (e : End) (s : EndState) (without : Outcome) (o : Emitted) → IsOf e s.isn (sent v s without o).happened
  sent_of v e s without Quiet = tt
  sent_of v e s without NoKey = tt
  sent_of v e s without (Emits out) = tt

  given_of : (piece : List ℕ) (e : End) (s : EndState) → IsOf e s.isn (given piece s).happened
  given_of piece e s =
      let P : Act → Type 0 = λ a. IsOf e s.isn a.happened in
      choose P (not (gives s)) (quietly s HasClosed) _ (λ t. tt) (λ t. choose P (nat_lt (room s) (length piece)) (quietly s Full) (quietly (give piece s) Done) (λ t. tt) (λ t. tt))

  step_apart : (w : World) (event : Event) → EventFits event → Inv setup w → Apart w → Apart (step setup w event).world
  step_apart w (At e (Clock seconds)) f inv h = clock_if w e seconds (side w e).sessions refl inv h
  step_apart w (At e (Connect isn)) f inv h = new_apart w e (connected (pair_of setup e) isn) (find (side w e).sessions isn) refl (omega arith) (λ p. refl) refl h
  step_apart w (At e (Await isn)) f inv h = new_apart w e (listening (pair_of setup e) isn) (find (side w e).sessions isn) refl (omega arith) (λ p. refl) refl h
  step_apart w (At e (Start isn peer)) f inv h = new_apart w e (started (pair_of setup e) isn peer) (find (side w e).sessions isn) refl (omega arith) (λ p. refl) refl h
  step_apart w (At e (Give piece)) f inv h = act_apart w e (side w e).sessions _ refl inv (λ s. given_of piece e s) (λ s a b. given_ok setup e piece s f a b) h
  step_apart w (At e (Fill count byte)) f inv h = act_apart w e (side w e).sessions _ refl inv (λ s. given_of (replicate count byte) e s) (λ s a b. given_ok setup e (replicate count byte) s (repeated count byte f).at a b) h
  step_apart w (At e Send) f inv h =
      act_apart w e (side w e).sessions _ refl inv (λ s. sent_of (view_of setup w e) e s Idle (emit (side w e).rows (pair_of setup e) (side w e).clock s)) (λ s a b. send_ok setup e w (inv.rows e) s a b) h
  step_apart w (At e Resend) f inv h =
      act_apart w e (side w e).sessions _ refl inv (λ s. sent_of (view_of setup w e) e s Nothing (resend (side w e).rows (pair_of setup e) (side w e).clock s)) (λ s a b. resend_act_ok setup e w (inv.rows e) s a b) h
  step_apart w (At e (Deliver name)) f inv h = deliver_apart w e (segment_named name w.history) (λ m is. named_bytes setup fits w name m inv is) inv h
  step_apart w (At e (Inject bytes)) f inv h = arrive_apart w e bytes f inv h
  step_apart w (At e (Alter name place mask fixing)) f inv h = alter_apart w e place mask fixing (segment_named name w.history) f (λ m is. named_bytes setup fits w name m inv is) inv h
  step_apart w (At e (Take count)) f inv h = act_apart w e (side w e).sessions _ refl inv (λ s. tt) (λ s a b. took_ok setup e count s a b) h
  step_apart w (At e Close) f inv h = act_apart w e (side w e).sessions _ refl inv (λ s. tt) (λ s a b. close_ok setup e s s.phase a b) h
  step_apart w (At e Abort) f inv h = act_apart w e (side w e).sessions _ refl inv (λ s. tt) (λ s a b. abort_ok setup e s a b) h
  step_apart w (At e (AddRow row)) f inv h = add_apart w e (adding (side w e).rows (row_of_new row)) h
  step_apart w (At e (Withdraw n)) f inv h = withdraw_apart w e (withdrawn (side w e).rows n) h
  step_apart w (Dump name) f inv h = h

  apart_from : (w : World) (events : List Event) → AllByRecursion EventFits events → Inv setup w → Apart w → Apart (run_from setup w events)
  apart_from w [] f inv h = h
  apart_from w (event ∷ events) f inv h = apart_from (step setup w event).world events f.1 (step_keeps setup fits w event f.0 inv) (step_apart w event f.0 inv h)

  pub run_apart : (events : List Event) → AllByRecursion EventFits events → Apart (run setup events)
  run_apart events f =
      apart_from (empty setup) events f (begins_inv setup fits)
      (record { kept = both (λ e. AllKept e (empty setup).history (side (empty setup) (other e)).sessions (side (empty setup) e).sessions) tt tt })
