-- What is seen of each session is what it keeps: each step, and so each run, keeps it so.
use Rattle.std.proofs.Common.{◌≡◌, ℕ, ◌≤◌, ◌<◌, max, Bool, true, false, not, ◌||◌, nat_lt, List, [], ◌∷◌, ◌++◌, length, replicate, unwrap_or, Option, Some, None, if◌then◌else◌, refl, sym, ap, ◌∙◌, subst, arith}
use Rattle.std.specs.List.{AllByRecursion, AllZip}
use Rattle.book_base.specs.declared.end.End.{End}
use Rattle.book_base.specs.declared.end.End.TheVariants.{A, B}
use Rattle.book_segments.specs.Segments.{reading}
use Rattle.book_segments.specs.Spelling.{AreBytes}
use Rattle.book_keys.specs.Rows.{Row}
use Rattle.book_keys.specs.declared.new_row.NewRow.{NewRow}
use Rattle.book_keys.specs.Tables.{Adding, AddedAs, TooMany, OverlapsRow, adding, withdrawn, row_of_new}
use Rattle.book_endpoint.specs.declared.phase.Phase.{Phase}
use Rattle.book_endpoint.specs.declared.phase.Phase.TheVariants.{Listen as Listening, SynSent, TimeWait, Closed}
use Rattle.book_endpoint.specs.Emissions.{Emitted, Quiet, NoKey, Emits, emit, resend}
use Rattle.book_endpoint.specs.States.{EndState, connected, listening, started, room, gives, give, taking, take_out, at_end, close_in, abort, is_due, tick_in}
use Rattle.book_link.specs.declared.event.Fixing.{Fixing}
use Rattle.book_link.specs.Alterations.{has_place, altered}
use Rattle.book_link.specs.declared.event.Action.{Action}
use Rattle.book_link.specs.declared.event.Event.{Event}
use Rattle.book_link.specs.declared.event.Event.TheVariants.{At, Dump}
use Rattle.book_link.specs.declared.event.Action.TheVariants.{Clock, Connect, Listen, Start, Give, Fill, Send, Resend, Deliver, Inject, Alter, Take, Close, Abort, AddRow, Withdraw}
use Rattle.book_link.specs.Outcomes.{Outcome, Done, Sent, IsnUsed, Added, NoSession, NoSegment, NoPlace, Full, HasClosed, Idle, Nothing, WithoutKey, TooManyRows, OverlapWith, NoRow}
use Rattle.book_link.specs.Runs.{empty, run_from, run, outcomes_from}
use Rattle.book_link.specs.Steps.{View, Stepped, Act, quietly, put, with_clock, with_table, with_sessions, ticked, acted, act_on, on_live, begin, given, sent, took, come, deliver, alter, add_row, withdraw, step, view_of}
use Rattle.book_link.specs.Worlds.{same_end, Setup, pair_of, Session, LinkSide, Made, Happening, World, side, find, segment_named}
use Rattle.law_link.specs.Laws.{SetupFits, EventFits}
use Rattle.law_link.proofs.ByteLists.{altered_bytes}
use Rattle.law_link.proofs.Invariant.{AllSound, AllWhole, Inv}
use Rattle.law_link.proofs.Making.{send_ok, resend_act_ok}
use Rattle.law_link.proofs.Running.{begins_inv, come_ok, named_bytes, step_keeps}
use Rattle.law_link.proofs.Sessions.{both}
use Rattle.law_link.proofs.Sound.{Sound}
use Rattle.law_link.proofs.Tests.{choose}
use Rattle.law_link.proofs.Whole.{Whole}
use Rattle.law_seen.proofs.Stays.{core, Emitting, arrive_core, emit_emitting, resend_emitting}
use Rattle.law_seen.specs.Seen.{Seen, opened, and_then, sessions_then, sessions_after, sessions_by, seen}

-- what is seen of a session, and what it keeps
pub record Match (one : Seen) (s : Session) : Type 0 where
  pub isn : one.isn ≡ s.state.isn
  pub gave : one.gave ≡ s.state.given
  pub got : one.got ≡ s.state.taken
  pub closed : s.state.closing ≡ true → one.closed ≡ true
  pub end_told : one.end_told ≡ s.end_shown
  pub acknowledged : one.acknowledged ≤ s.state.expected

-- so it is of all sessions of both ends
abbrev pub Matches : (End → List Seen) → World → Type 0
Matches seens w = (f : End) → AllZip Match (seens f) (side w f).sessions

or_none : (a b : Bool) → b ≡ false → a ≡ (a || b)
or_none true b e = refl
or_none false b e = sym e

-- ---- a call

-- nothing changes of what is seen
same_match : (one : Seen) (s : Session) (act : Act) → core act.state ≡ core s.state → s.state.expected ≤ act.state.expected → act.shown ≡ false → Match one s → Match one (acted s act)
same_match one s act same up hidden h =
    let low = h.acknowledged in
    record {
      isn = h.isn ∙ ap (λ c. c.isn) (sym same);
      gave = h.gave ∙ ap (λ c. c.given) (sym same);
      got = h.got ∙ ap (λ c. c.taken) (sym same);
      closed = λ e. h.closed (ap (λ c. c.closing) (sym same) ∙ e);
      end_told = h.end_told ∙ or_none s.end_shown act.shown hidden;
      acknowledged = omega arith;
    }

-- what a call does is seen by its outcome
abbrev IsSeen : Action → (EndState → Act) → Type 0
IsSeen action call = (one : Seen) (s : Session) → Sound s.state → Whole s.state → Match one s → Match (and_then action (call s.state).outcome one) (acted s (call s.state))

given_seen : (action : Action) (piece : List ℕ) (one : Seen) (s : Session) → and_then action Done one ≡ record one { gave = one.gave ++ piece }
    → and_then action Full one ≡ one → and_then action HasClosed one ≡ one → Match one s → Match (and_then action (given piece s.state).outcome one) (acted s (given piece s.state))
given_seen action piece one s done full shut h =
    let P = λ (act : Act). Match (and_then action act.outcome one) (acted s act) in
    let still = λ (o : Outcome) (same : and_then action o one ≡ one). subst (λ (x : Seen). Match x (acted s (quietly s.state o))) (sym same) (same_match one s (quietly s.state o) refl (omega arith) refl h) in
    choose P (not (gives s.state)) (quietly s.state HasClosed) _ (λ t. still HasClosed shut) (λ t.
    choose P (nat_lt (room s.state) (length piece)) (quietly s.state Full) (quietly (give piece s.state) Done) (λ u. still Full full)
    (λ u. subst (λ (x : Seen). Match x (acted s (quietly (give piece s.state) Done))) (sym done)
    (record {
      isn = h.isn;
      gave = ap (λ (l : List ℕ). l ++ piece) h.gave;
      got = h.got;
      closed = h.closed;
      end_told = h.end_told ∙ or_none s.end_shown false refl;
      acknowledged = h.acknowledged;
    })))

-- the greatest of two numbers that aren't above another one
both_low : (a b x : ℕ) → a ≤ x → b ≤ x → max a b ≤ x
both_low a b x low high = omega arith

abbrev Acknowledging : Action → Type 0
Acknowledging action = (m : Made) (one : Seen) → and_then action (Sent m) one ≡ record one { acknowledged = max one.acknowledged (unwrap_or m.emission.acknowledged 0) }

sent_seen : (action : Action) (v : View) (without : Outcome) (one : Seen) (s : Session) (x : Emitted) → Acknowledging action → and_then action without one ≡ one → and_then action WithoutKey one ≡ one
    → Emitting s.state x → s.state.expected ≤ (sent v s.state without x).state.expected → Match one s → Match (and_then action (sent v s.state without x).outcome one) (acted s (sent v s.state without x))
sent_seen action v without one s Quiet tells idle keyless made up h =
    subst (λ (y : Seen). Match y (acted s (quietly s.state without))) (sym idle) (same_match one s (quietly s.state without) refl (omega arith) refl h)
sent_seen action v without one s NoKey tells idle keyless made up h =
    subst (λ (y : Seen). Match y (acted s (quietly s.state WithoutKey))) (sym keyless) (same_match one s (quietly s.state WithoutKey) refl (omega arith) refl h)
sent_seen action v without one s (Emits out) tells idle keyless made up h =
    let act = sent v s.state without (Emits out) in
    let now = same_match one s act made.0 up refl h in
    let low = made.1 in
    let before = now.acknowledged in
    subst (λ (y : Seen). Match y (acted s act)) (sym (tells _ one))
    (record {
      isn = now.isn;
      gave = now.gave;
      got = now.got;
      closed = now.closed;
      end_told = now.end_told;
      acknowledged = both_low one.acknowledged (unwrap_or out.acknowledged 0) act.state.expected before (omega arith);
    })

took_seen : (count : ℕ) (one : Seen) (s : Session) → Match one s → Match (and_then (Take count) (took count s.state).outcome one) (acted s (took count s.state))
took_seen count one s h =
    record {
      isn = h.isn;
      gave = h.gave;
      got = ap (λ (l : List ℕ). l ++ taking count s.state) h.got;
      closed = h.closed;
      end_told = ap (λ (b : Bool). b || at_end (take_out count s.state)) h.end_told;
      acknowledged = h.acknowledged;
    }

close_seen : (one : Seen) (s : Session) (phase : Phase) → Match one s → Match (record one { closed = true }) (acted s (quietly (close_in phase s.state) Done))
close_seen one s Listening h = record { isn = h.isn; gave = h.gave; got = h.got; closed = λ e. refl; end_told = h.end_told ∙ or_none s.end_shown false refl; acknowledged = h.acknowledged }
close_seen one s SynSent h = record { isn = h.isn; gave = h.gave; got = h.got; closed = λ e. refl; end_told = h.end_told ∙ or_none s.end_shown false refl; acknowledged = h.acknowledged }
close_seen one s Closed h = record { isn = h.isn; gave = h.gave; got = h.got; closed = λ e. refl; end_told = h.end_told ∙ or_none s.end_shown false refl; acknowledged = h.acknowledged }
close_seen one s _ h = record { isn = h.isn; gave = h.gave; got = h.got; closed = λ e. refl; end_told = h.end_told ∙ or_none s.end_shown false refl; acknowledged = h.acknowledged }

abort_seen : (one : Seen) (s : Session) → Match one s → Match one (acted s (quietly (abort s.state) Done))
abort_seen one s h = record { isn = h.isn; gave = h.gave; got = h.got; closed = h.closed; end_told = h.end_told ∙ or_none s.end_shown false refl; acknowledged = h.acknowledged }

-- ---- a step

-- at one end some sessions are others, as what is seen of them
put_match : (w : World) (p : End) (now : LinkSide) (happened : Option Happening) (seens : End → List Seen) (change : List Seen → List Seen) → Matches seens w → AllZip Match (change (seens p)) now.sessions
    → Matches (λ f. if same_end p f then change (seens f) else seens f) (put w p now happened)
put_match w A now happened seens change h new = both (λ f. AllZip Match (if same_end A f then change (seens f) else seens f) (side (put w A now happened) f).sessions) new (h B)
put_match w B now happened seens change h new = both (λ f. AllZip Match (if same_end B f then change (seens f) else seens f) (side (put w B now happened) f).sessions) (h A) new

-- nothing changes, and nothing is seen
still_match : (w : World) (p : End) (seens : End → List Seen) (change : List Seen → List Seen) → Matches seens w → ((l : List Seen) → change l ≡ l) → Matches (λ f. if same_end p f then change (seens f) else seens f) w
still_match w A seens change h same = both (λ f. AllZip Match (if same_end A f then change (seens f) else seens f) (side w f).sessions) (subst (λ (l : List Seen). AllZip Match l w.a.sessions) (sym (same (seens A))) (h A)) (h B)
still_match w B seens change h same = both (λ f. AllZip Match (if same_end B f then change (seens f) else seens f) (side w f).sessions) (h A) (subst (λ (l : List Seen). AllZip Match l w.b.sessions) (sym (same (seens B))) (h B))

-- an action of the newest session
record IsCall (action : Action) : Type 0 where
  none : (o : Outcome) → sessions_then action o [] ≡ []
  some : (o : Outcome) (one : Seen) (rest : List Seen) → sessions_then action o (one ∷ rest) ≡ and_then action o one ∷ rest

-- of which nothing is seen
idle_same : (action : Action) (o : Outcome) → IsCall action → ((one : Seen) → and_then action o one ≡ one) → (l : List Seen) → sessions_then action o l ≡ l
idle_same action o is idle [] = is.none o
idle_same action o is idle (one ∷ rest) = is.some o one rest ∙ ap (λ (x : Seen). x ∷ rest) (idle one)

act_match : (w : World) (e : End) (action : Action) (seens : End → List Seen) (ones : List Seen) (sessions : List Session) (call : EndState → Act) → (side w e).sessions ≡ sessions → seens e ≡ ones → IsCall action → IsSeen action call
    → AllSound sessions → AllWhole sessions → AllZip Match ones sessions → Matches seens w
    → Matches (λ f. if same_end e f then sessions_then action (act_on w e sessions call).outcome (seens f) else seens f) (act_on w e sessions call).world
act_match w e action seens [] [] call is at kind seen sound whole zip h =
    empty_match w e seens at (kind.none NoSession) h
  where
    empty_match : (w : World) (e : End) (seens : End → List Seen) → seens e ≡ [] → sessions_then action NoSession [] ≡ [] → Matches seens w → Matches (λ f. if same_end e f then sessions_then action NoSession (seens f) else seens f) w
    empty_match w A seens at none h = both (λ f. AllZip Match (if same_end A f then sessions_then action NoSession (seens f) else seens f) (side w f).sessions) (subst (λ (l : List Seen). AllZip Match l w.a.sessions) (at ∙ sym none ∙ ap (sessions_then action NoSession) (sym at)) (h A)) (h B)
    empty_match w B seens at none h = both (λ f. AllZip Match (if same_end B f then sessions_then action NoSession (seens f) else seens f) (side w f).sessions) (h A) (subst (λ (l : List Seen). AllZip Match l w.b.sessions) (at ∙ sym none ∙ ap (sessions_then action NoSession) (sym at)) (h B))
act_match w e action seens (one ∷ ones) [] call is at kind seen sound whole zip h = absurd zip
act_match w e action seens [] (s ∷ rest) call is at kind seen sound whole zip h = absurd zip
act_match w e action seens (one ∷ ones) (s ∷ rest) call is at kind seen sound whole zip h =
    let act = call s.state in
    put_match w e (with_sessions (side w e) (acted s act ∷ rest)) act.happened seens (sessions_then action act.outcome) h
    (subst (λ (l : List Seen). AllZip Match l (acted s act ∷ rest)) (sym (ap (sessions_then action act.outcome) at ∙ kind.some act.outcome one ones)) (seen one s sound.0 whole.0 zip.0, zip.1))

begin_match : (w : World) (e : End) (s : EndState) (o : Option Session) (seens : End → List Seen) (change : Outcome → List Seen → List Seen) → ((l : List Seen) → change IsnUsed l ≡ l)
    → ((l : List Seen) → change Done l ≡ opened s.isn ∷ l) → Match (opened s.isn) (record { state = s; end_shown = false }) → Matches seens w
    → Matches (λ f. if same_end e f then change (begin w e s o).outcome (seens f) else seens f) (begin w e s o).world
begin_match w e s (Some used) seens change idle new one h = still_match w e seens (change IsnUsed) h idle
begin_match w e s None seens change idle new one h =
    let u : Session = record { state = s; end_shown = false } in
    put_match w e (with_sessions (side w e) (u ∷ (side w e).sessions)) None seens (change Done) h
    (subst (λ (l : List Seen). AllZip Match l (u ∷ (side w e).sessions)) (sym (new (seens e))) (one, h e))

ticked_zip : (now : ℕ) (ones : List Seen) (sessions : List Session) → AllZip Match ones sessions → AllZip Match ones (ticked now sessions)
ticked_zip now [] [] h = h
ticked_zip now (one ∷ ones) [] h = absurd h
ticked_zip now [] (s ∷ rest) h = absurd h
ticked_zip now (one ∷ ones) (s ∷ rest) h = (tick_match one s (s.state.phase) h.0, h.1)
  where
    closed_match : (one : Seen) (s : Session) → Match one s → Match one (record { state = record (s.state) { phase = Closed }; end_shown = s.end_shown })
    closed_match one s h = record { isn = h.isn; gave = h.gave; got = h.got; closed = h.closed; end_told = h.end_told; acknowledged = h.acknowledged }

    same_session : (one : Seen) (s : Session) → Match one s → Match one (record { state = s.state; end_shown = s.end_shown })
    same_session one s h = record { isn = h.isn; gave = h.gave; got = h.got; closed = h.closed; end_told = h.end_told; acknowledged = h.acknowledged }

    tick_match : (one : Seen) (s : Session) (phase : Phase) → Match one s → Match one (record { state = tick_in phase now s.state; end_shown = s.end_shown })
    tick_match one s TimeWait h =
        choose (λ (t : EndState). Match one (record { state = t; end_shown = s.end_shown })) (is_due s.state.deadline now) (record (s.state) { phase = Closed }) s.state (λ t. closed_match one s h) (λ t. same_session one s h)
    tick_match one s _ h = same_session one s h

-- no action of which anything is seen
idle_change : (action : Action) → IsCall action → ((o : Outcome) (one : Seen) → and_then action o one ≡ one) → (o : Outcome) (l : List Seen) → sessions_then action o l ≡ l
idle_change action is idle o l = idle_same action o is (idle o) l

add_match : (w : World) (e : End) (row : NewRow) (o : Adding) (seens : End → List Seen) → Matches seens w → Matches (λ f. if same_end e f then sessions_then (AddRow row) (add_row w e o).outcome (seens f) else seens f) (add_row w e o).world
add_match w e row (AddedAs n rows) seens h =
    let same = idle_change (AddRow row) (record { none = λ o. refl; some = λ o one rest. refl }) (λ o one. refl) in
    put_match w e (with_table (side w e) rows) None seens (sessions_then (AddRow row) (Added n)) h (subst (λ (l : List Seen). AllZip Match l (side w e).sessions) (sym (same (Added n) (seens e))) (h e))
add_match w e row TooMany seens h = still_match w e seens (sessions_then (AddRow row) TooManyRows) h (idle_change (AddRow row) (record { none = λ o. refl; some = λ o one rest. refl }) (λ o one. refl) TooManyRows)
add_match w e row (OverlapsRow n) seens h = still_match w e seens (sessions_then (AddRow row) (OverlapWith n)) h (idle_change (AddRow row) (record { none = λ o. refl; some = λ o one rest. refl }) (λ o one. refl) (OverlapWith n))

withdraw_match : (w : World) (e : End) (n : ℕ) (o : Option (List Row)) (seens : End → List Seen) → Matches seens w → Matches (λ f. if same_end e f then sessions_then (Withdraw n) (withdraw w e o).outcome (seens f) else seens f) (withdraw w e o).world
withdraw_match w e n None seens h = still_match w e seens (sessions_then (Withdraw n) NoRow) h (idle_change (Withdraw n) (record { none = λ o. refl; some = λ o one rest. refl }) (λ o one. refl) NoRow)
withdraw_match w e n (Some rows) seens h =
    let same = idle_change (Withdraw n) (record { none = λ o. refl; some = λ o one rest. refl }) (λ o one. refl) in
    put_match w e (with_table (side w e) rows) None seens (sessions_then (Withdraw n) Done) h (subst (λ (l : List Seen). AllZip Match l (side w e).sessions) (sym (same Done (seens e))) (h e))

opened_match : (s : EndState) → s.given ≡ [] → s.taken ≡ [] → s.closing ≡ false → Match (opened s.isn) (record { state = s; end_shown = false })
opened_match s gave got closed =
    record { isn = refl; gave = sym gave; got = sym got; closed = λ e. absurd (cc); end_told = refl; acknowledged = omega arith }

module _ (setup : Setup) (fits : SetupFits setup) where
  call_match : (w : World) (e : End) (action : Action) (seens : End → List Seen) (call : EndState → Act) → IsCall action → IsSeen action call → Inv setup w → Matches seens w
      → Matches (λ f. if same_end e f then sessions_then action (on_live w e call).outcome (seens f) else seens f) (on_live w e call).world
  call_match w e action seens call kind seen inv h = act_match w e action seens (seens e) (side w e).sessions call refl refl kind seen (inv.sound e) (inv.whole e) (h e) h

  -- an arrival, of which nothing is seen
  come_match : (w : World) (e : End) (action : Action) (seens : End → List Seen) (bytes : List ℕ) → IsCall action → ((o : Outcome) (one : Seen) → and_then action o one ≡ one) → AreBytes bytes → Inv setup w → Matches seens w
      → Matches (λ f. if same_end e f then sessions_then action (on_live w e (come bytes (view_of setup w e))).outcome (seens f) else seens f) (on_live w e (come bytes (view_of setup w e))).world
  come_match w e action seens bytes kind idle all inv h =
      call_match w e action seens (come bytes (view_of setup w e)) kind
      (λ one s sound whole m. let act = come bytes (view_of setup w e) s.state in
      subst (λ (x : Seen). Match x (acted s act)) (sym (idle act.outcome one))
      (same_match one s act (arrive_core (side w e).rows (pair_of setup e) (side w e).clock s.state (reading bytes)) (come_ok setup fits e w bytes s.state all sound whole).later.up refl m)) inv h

  deliver_match : (w : World) (e : End) (name : ℕ) (o : Option Made) (seens : End → List Seen) → ((m : Made) → o ≡ Some m → AreBytes m.bytes) → Inv setup w → Matches seens w
      → Matches (λ f. if same_end e f then sessions_then (Deliver name) (deliver setup w e o).outcome (seens f) else seens f) (deliver setup w e o).world
  deliver_match w e name None seens all inv h = still_match w e seens (sessions_then (Deliver name) NoSegment) h (idle_change (Deliver name) (record { none = λ o. refl; some = λ o one rest. refl }) (λ o one. refl) NoSegment)
  deliver_match w e name (Some m) seens all inv h = come_match w e (Deliver name) seens m.bytes (record { none = λ o. refl; some = λ o one rest. refl }) (λ o one. refl) (all m refl) inv h

  alter_match : (w : World) (e : End) (name place mask : ℕ) (fixing : Fixing) (o : Option Made) (seens : End → List Seen) → mask < 256 → ((m : Made) → o ≡ Some m → AreBytes m.bytes) → Inv setup w → Matches seens w
      → Matches (λ f. if same_end e f then sessions_then (Alter name place mask fixing) (alter setup w e (record { place = place; mask = mask; fixing = fixing }) o).outcome (seens f) else seens f)
      (alter setup w e (record { place = place; mask = mask; fixing = fixing }) o).world
  alter_match w e name place mask fixing None seens low all inv h = still_match w e seens (sessions_then (Alter name place mask fixing) NoSegment) h (idle_change (Alter name place mask fixing) (record { none = λ o. refl; some = λ o one rest. refl }) (λ o one. refl) NoSegment)
  alter_match w e name place mask fixing (Some m) seens low all inv h =
      choose (λ (x : Stepped). Matches (λ f. if same_end e f then sessions_then (Alter name place mask fixing) x.outcome (seens f) else seens f) x.world) (has_place m.bytes place) _ _
      (λ t. come_match w e (Alter name place mask fixing) seens (altered m.bytes (record { place = place; mask = mask; fixing = fixing })) (record { none = λ o. refl; some = λ o one rest. refl }) (λ o one. refl)
      (altered_bytes m.bytes place mask fixing low (record { at = all m refl })).at inv h)
      (λ t. still_match w e seens (sessions_then (Alter name place mask fixing) NoPlace) h (idle_change (Alter name place mask fixing) (record { none = λ o. refl; some = λ o one rest. refl }) (λ o one. refl) NoPlace))

  pub step_match : (w : World) (event : Event) (seens : End → List Seen) → EventFits event → Inv setup w → Matches seens w → Matches (λ f. sessions_after f event (step setup w event).outcome (seens f)) (step setup w event).world
  step_match w (At e (Clock seconds)) seens f inv h =
      put_match w e (with_clock (side w e) seconds) None seens (sessions_then (Clock seconds) Done) h
      (subst (λ (l : List Seen). AllZip Match l (ticked seconds (side w e).sessions)) (sym (idle_change (Clock seconds) (record { none = λ o. refl; some = λ o one rest. refl }) (λ o one. refl) Done (seens e)))
      (ticked_zip seconds (seens e) (side w e).sessions (h e)))
  step_match w (At e (Connect isn)) seens f inv h = begin_match w e (connected (pair_of setup e) isn) (find (side w e).sessions isn) seens (sessions_then (Connect isn)) (used_connect isn) (λ l. refl) (opened_match (connected (pair_of setup e) isn) refl refl refl) h
    where
      used_connect : (isn : ℕ) (l : List Seen) → sessions_then (Connect isn) IsnUsed l ≡ l
      used_connect isn [] = refl
      used_connect isn (one ∷ l) = refl
  step_match w (At e (Listen isn)) seens f inv h = begin_match w e (listening (pair_of setup e) isn) (find (side w e).sessions isn) seens (sessions_then (Listen isn)) (used_listen isn) (λ l. refl) (opened_match (listening (pair_of setup e) isn) refl refl refl) h
    where
      used_listen : (isn : ℕ) (l : List Seen) → sessions_then (Listen isn) IsnUsed l ≡ l
      used_listen isn [] = refl
      used_listen isn (one ∷ l) = refl
  step_match w (At e (Start isn peer)) seens f inv h = begin_match w e (started (pair_of setup e) isn peer) (find (side w e).sessions isn) seens (sessions_then (Start isn peer)) (used_start isn peer) (λ l. refl) (opened_match (started (pair_of setup e) isn peer) refl refl refl) h
    where
      used_start : (isn peer : ℕ) (l : List Seen) → sessions_then (Start isn peer) IsnUsed l ≡ l
      used_start isn peer [] = refl
      used_start isn peer (one ∷ l) = refl
  step_match w (At e (Give piece)) seens f inv h =
      call_match w e (Give piece) seens _ (record { none = λ o. refl; some = λ o one rest. refl })
      (λ one s sound whole m. given_seen (Give piece) piece one s refl refl refl m) inv h
  step_match w (At e (Fill count byte)) seens f inv h =
      call_match w e (Fill count byte) seens _ (record { none = λ o. refl; some = λ o one rest. refl })
      (λ one s sound whole m. given_seen (Fill count byte) (replicate count byte) one s refl refl refl m) inv h
  step_match w (At e Send) seens f inv h =
      call_match w e Send seens _ (record { none = λ o. refl; some = λ o one rest. refl })
      (λ one s sound whole m. sent_seen Send (view_of setup w e) Idle one s (emit (side w e).rows (pair_of setup e) (side w e).clock s.state) (λ k one2. refl) refl refl
      (emit_emitting (side w e).rows (pair_of setup e) (side w e).clock s.state) (send_ok setup e w (inv.rows e) s.state sound whole).later.up m) inv h
  step_match w (At e Resend) seens f inv h =
      call_match w e Resend seens _ (record { none = λ o. refl; some = λ o one rest. refl })
      (λ one s sound whole m. sent_seen Resend (view_of setup w e) Nothing one s (resend (side w e).rows (pair_of setup e) (side w e).clock s.state) (λ k one2. refl) refl refl
      (resend_emitting (side w e).rows (pair_of setup e) (side w e).clock s.state) (resend_act_ok setup e w (inv.rows e) s.state sound whole).later.up m) inv h
  step_match w (At e (Deliver name)) seens f inv h = deliver_match w e name (segment_named name w.history) seens (λ m is. named_bytes setup fits w name m inv is) inv h
  step_match w (At e (Inject bytes)) seens f inv h = come_match w e (Inject bytes) seens bytes (record { none = λ o. refl; some = λ o one rest. refl }) (λ o one. refl) f inv h
  step_match w (At e (Alter name place mask fixing)) seens f inv h = alter_match w e name place mask fixing (segment_named name w.history) seens f (λ m is. named_bytes setup fits w name m inv is) inv h
  step_match w (At e (Take count)) seens f inv h =
      call_match w e (Take count) seens _ (record { none = λ o. refl; some = λ o one rest. refl }) (λ one s sound whole m. took_seen count one s m) inv h
  step_match w (At e Close) seens f inv h =
      call_match w e Close seens _ (record { none = λ o. refl; some = λ o one rest. refl }) (λ one s sound whole m. close_seen one s s.state.phase m) inv h
  step_match w (At e Abort) seens f inv h =
      call_match w e Abort seens _ (record { none = λ o. refl; some = λ o one rest. refl }) (λ one s sound whole m. abort_seen one s m) inv h
  step_match w (At e (AddRow row)) seens f inv h = add_match w e row (adding (side w e).rows (row_of_new row)) seens h
  step_match w (At e (Withdraw n)) seens f inv h = withdraw_match w e n (withdrawn (side w e).rows n) seens h
  step_match w (Dump name) seens f inv h = h

  run_match : (w : World) (events : List Event) (seens : End → List Seen) → AllByRecursion EventFits events → Inv setup w → Matches seens w
      → Matches (λ f. sessions_by f events (outcomes_from setup w events) (seens f)) (run_from setup w events)
  run_match w [] seens f inv h = h
  run_match w (event ∷ events) seens f inv h =
      let s = step setup w event in
      run_match s.world events (λ e. sessions_after e event s.outcome (seens e)) f.1 (step_keeps setup fits w event f.0 inv) (step_match w event seens f.0 inv h)

  -- the law
  pub seen_match : (events : List Event) → AllByRecursion EventFits events → Matches (seen setup events) (run setup events)
  seen_match events f =
      run_match (empty setup) events (λ e. []) f (begins_inv setup fits) (both (λ e. AllZip Match [] (side (empty setup) e).sessions) tt tt)
