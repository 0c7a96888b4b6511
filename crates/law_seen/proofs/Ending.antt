-- A session ends only by its own user or its partner's.
use Rattle.std.proofs.Common.{◌≡◌, ℕ, Bool, true, false, not, nat_lt, List, [], ◌∷◌, length, replicate, Option, Some, None, ◌⊎◌, inl, inr, ⊎_elim, refl, sym, ap, ◌∙◌, subst, if◌then◌else◌, ◌<◌}
use Rattle.std.specs.List.{AllByRecursion}
use Rattle.book_base.specs.declared.end.End.{End}
use Rattle.book_base.specs.declared.end.End.TheVariants.{A, B}
use Rattle.book_segments.specs.Segments.{reading}
use Rattle.book_segments.proofs.Fields.{some_is}
use Rattle.book_keys.specs.Rows.{Row}
use Rattle.book_keys.specs.Tables.{Adding, AddedAs, TooMany, OverlapsRow, adding, withdrawn, row_of_new}
use Rattle.book_endpoint.specs.declared.arrival.Arrival.TheVariants.{Reset}
use Rattle.book_endpoint.specs.Arrivals.{Arrived, arrive}
use Rattle.book_endpoint.specs.declared.phase.Phase.{Phase}
use Rattle.book_endpoint.specs.declared.phase.Phase.TheVariants.{Listen as Listening, SynSent, LastAck, TimeWait, Closed}
use Rattle.book_endpoint.specs.Emissions.{Emitted, Quiet, NoKey, Emits, emit, resend}
use Rattle.book_endpoint.specs.States.{EndState, connected, listening, started, is_closed, room, gives, give, close_in, is_due, tick_in, tick}
use Rattle.book_link.specs.declared.event.Fixing.{Fixing}
use Rattle.book_link.specs.Alterations.{Alteration, has_place, altered}
use Rattle.book_link.specs.declared.event.Event.{Event}
use Rattle.book_link.specs.declared.event.Event.TheVariants.{At, Dump}
use Rattle.book_link.specs.declared.event.Action.TheVariants.{Clock, Connect, Listen, Start, Give, Fill, Send, Resend, Deliver, Inject, Alter, Take, Close, Abort, AddRow, Withdraw}
use Rattle.book_link.specs.Outcomes.{Outcome, Done, Full, HasClosed, Idle, Nothing, Answered, NoPlace}
use Rattle.book_link.specs.Runs.{empty, run_from, run}
use Rattle.book_link.specs.Steps.{View, Stepped, Act, add, quietly, put, with_clock, with_table, with_sessions, ticked, acted, act_on, on_live, begin, given, sent, took, come, deliver, alter, add_row, withdraw, step, view_of}
use Rattle.book_link.specs.Worlds.{Setup, pair_of, Session, LinkSide, Made, Came, Happening, World, side, find, live, partner, segment_named, forgeries}
use Rattle.law_link.specs.Laws.{SetupFits, EventFits}
use Rattle.law_link.specs.Sessions.{ReceivesFrom, ReceivesGiven}
use Rattle.law_link.proofs.Invariant.{Inv}
use Rattle.law_link.proofs.Origin.{resets_by_abort}
use Rattle.law_link.proofs.Phases.{fin_made, waits}
use Rattle.law_link.proofs.Receiving.{receives_given}
use Rattle.law_link.proofs.Running.{run_inv}
use Rattle.law_link.proofs.Sessions.{both}
use Rattle.law_link.proofs.Sound.{Sound}
use Rattle.law_link.proofs.Tests.{choose}
use Rattle.law_seen.proofs.Closes.{arrive_closes}
use Rattle.law_seen.proofs.Past.{Past, is_past, arrive_past, emit_goes, resend_goes, Emitting as Goes}
use Rattle.law_seen.proofs.Stays.{Emitting, arrive_core, emit_emitting, resend_emitting}
use Rattle.law_seen.specs.Endings.{Opens, PartnerClosed, ClosesSo, EndsOnlySo}

-- ---- a call

-- what a call does to a session: it stays the same, its peer's FIN stays recorded, and it is closed only so
record Call (W : Type 0) (s : EndState) (act : Act) : Type 0 where
  isn : act.state.isn ≡ s.isn
  past : Past s → Past act.state
  closes : is_closed s.phase ≡ false → is_closed act.state.phase ≡ true → W

module _ (W : Type 0) where
  still_call : (s : EndState) (o : Outcome) → Call W s (quietly s o)
  still_call s o = record { isn = refl; past = λ h. h; closes = λ awake shut. absurd (cc) }

  given_call : (piece : List ℕ) (s : EndState) → Call W s (given piece s)
  given_call piece s =
      choose (Call W s) (not (gives s)) (quietly s HasClosed) _ (λ t. still_call s HasClosed) (λ t.
      choose (Call W s) (nat_lt (room s) (length piece)) (quietly s Full) (quietly (give piece s) Done) (λ u. still_call s Full)
      (λ u. record { isn = refl; past = λ h. h; closes = λ awake shut. absurd (cc) }))

  took_call : (count : ℕ) (s : EndState) → Call W s (took count s)
  took_call count s = record { isn = refl; past = λ h. h; closes = λ awake shut. absurd (cc) }

  sent_call : (v : View) (s : EndState) (without : Outcome) (x : Emitted) → Emitting s x → Goes s x → Call W s (sent v s without x)
  sent_call v s without Quiet made goes = record { isn = refl; past = λ h. h; closes = λ awake shut. absurd (cc) }
  sent_call v s without NoKey made goes = record { isn = refl; past = λ h. h; closes = λ awake shut. absurd (cc) }
  sent_call v s without (Emits out) made goes = record { isn = ap (λ c. c.isn) made.0; past = goes.0; closes = λ awake shut. let closed = goes.1 shut in absurd (cc) }

-- ---- an end

-- the newest session stays it, unless another is opened, and is closed only so
abbrev EndsAt : (O : Type 0) (W : Session → Type 0) → (before after : List Session) → Type 0
EndsAt O W before after =
    (s later : Session) → live before ≡ Some s → live after ≡ Some later
    → O ⊎ ((later.state.isn ≡ s.state.isn) × (is_closed s.state.phase ≡ false → is_closed later.state.phase ≡ true → W s))

same_ends : (O : Type 0) (W : Session → Type 0) (l : List Session) → EndsAt O W l l
same_ends O W [] s later is now = absurd (cc)
same_ends O W (x ∷ rest) s later is now =
    let one = some_is x s is in
    let two = some_is x later now in
    let same : later ≡ s = sym two ∙ one in
    inr (ap (λ (y : Session). y.state.isn) same, λ awake shut. let closed : is_closed s.state.phase ≡ true = subst (λ (y : Session). is_closed y.state.phase ≡ true) same shut in absurd (cc))

head_ends : (O : Type 0) (W : Session → Type 0) (x : Session) (act : Act) (rest : List Session) → Call (W x) x.state act → EndsAt O W (x ∷ rest) (acted x act ∷ rest)
head_ends O W x act rest c s later is now =
    let one = some_is x s is in
    let two : acted x act ≡ later = some_is (acted x act) later now in
    inr (
      ap (λ (y : Session). y.state.isn) (sym two) ∙ c.isn ∙ ap (λ (y : Session). y.state.isn) one,
      λ awake shut. subst W one (c.closes (subst (λ (y : Session). is_closed y.state.phase ≡ false) (sym one) awake) (subst (λ (y : Session). is_closed y.state.phase ≡ true) (sym two) shut)),
    )

-- ---- a step, at both ends

module _ (w : World) (O : End → Type 0) (W : End → Session → Type 0) where
  abbrev EndsIn : World → Type 0
  EndsIn v = (e : End) → EndsAt (O e) (W e) (side w e).sessions (side v e).sessions

  stays : EndsIn w
  stays e = same_ends (O e) (W e) (side w e).sessions

  put_ends : (p : End) (now : LinkSide) (happened : Option Happening) → EndsAt (O p) (W p) (side w p).sessions now.sessions → EndsIn (put w p now happened)
  put_ends A now happened h = both (λ e. EndsAt (O e) (W e) (side w e).sessions (side (put w A now happened) e).sessions) h (stays B)
  put_ends B now happened h = both (λ e. EndsAt (O e) (W e) (side w e).sessions (side (put w B now happened) e).sessions) (stays A) h

  act_ends : (p : End) (sessions : List Session) (call : EndState → Act) → (side w p).sessions ≡ sessions → ((s : Session) → live sessions ≡ Some s → Call (W p s) s.state (call s.state)) → EndsIn (act_on w p sessions call).world
  act_ends p [] call is says = stays
  act_ends p (s ∷ rest) call is says =
      let act = call s.state in
      put_ends p (with_sessions (side w p) (acted s act ∷ rest)) act.happened
      (subst (λ (l : List Session). EndsAt (O p) (W p) l (acted s act ∷ rest)) (sym is) (head_ends (O p) (W p) s act rest (says s refl)))

  live_ends : (p : End) (call : EndState → Act) → ((s : Session) → live (side w p).sessions ≡ Some s → Call (W p s) s.state (call s.state)) → EndsIn (on_live w p call).world
  live_ends p call says = act_ends p (side w p).sessions call refl says

  begin_ends : (p : End) (s : EndState) (o : Option Session) → O p → EndsIn (begin w p s o).world
  begin_ends p s (Some used) opens = stays
  begin_ends p s None opens = put_ends p (with_sessions (side w p) (record { state = s; end_shown = false } ∷ (side w p).sessions)) None (λ x later is now. inl opens)

  rows_ends : (p : End) (rows : List Row) → EndsIn (put w p (with_table (side w p) rows) None)
  rows_ends p rows = put_ends p (with_table (side w p) rows) None (same_ends (O p) (W p) (side w p).sessions)

  add_ends : (p : End) (o : Adding) → EndsIn (add_row w p o).world
  add_ends p (AddedAs n rows) = rows_ends p rows
  add_ends p TooMany = stays
  add_ends p (OverlapsRow n) = stays

  withdraw_ends : (p : End) (o : Option (List Row)) → EndsIn (withdraw w p o).world
  withdraw_ends p None = stays
  withdraw_ends p (Some rows) = rows_ends p rows

-- ---- both closed

closed_by : (w : World) (e : End) (s : Session) (o : Option Session) → partner w e s.state ≡ o → ReceivesFrom o s.state → (f : ℕ) × (s.state.fin ≡ Some f) → PartnerClosed w e s
closed_by w e s None is h f = let none = h.1 in let some = f.1 in absurd (cc)
closed_by w e s (Some t) is h f = record { session = t; is_partner = is; closed = (h.fin f.0 f.1).0 }

live_all : (P : Session → Type 0) (sessions : List Session) (r : Session) → live sessions ≡ Some r → AllByRecursion P sessions → P r
live_all P [] r lives h = absurd (cc)
live_all P (s ∷ rest) r lives h = subst P (some_is s r lives) h.0

both_closed : (w : World) (e : End) (s : Session) → live (side w e).sessions ≡ Some s → ReceivesGiven w → (f : ℕ) × (s.state.fin ≡ Some f) → forgeries w.history ≡ 0 → PartnerClosed w e s
both_closed w e s lives received fin none =
    closed_by w e s (partner w e s.state) refl (live_all (λ (x : Session). ReceivesFrom (partner w e x.state) x.state) (side w e).sessions s lives (received none e)) fin

-- the clock closes an end only in TIME-WAIT
tick_closes : (s : EndState) (now : ℕ) (phase : Phase) → s.phase ≡ phase → is_closed s.phase ≡ false → is_closed (tick_in phase now s).phase ≡ true → s.phase ≡ TimeWait
tick_closes s now TimeWait is awake shut = is
tick_closes s now _ is awake shut = absurd (cc)

tick_past : (s : EndState) (now : ℕ) (phase : Phase) → Past s → Past (tick_in phase now s)
tick_past s now TimeWait h = choose Past (is_due s.deadline now) (record s { phase = Closed }) s (λ t e. absurd (cc)) (λ t. h)
tick_past s now _ h = h

tick_isn : (s : EndState) (now : ℕ) (phase : Phase) → (tick_in phase now s).isn ≡ s.isn
tick_isn s now TimeWait = choose (λ (t : EndState). t.isn ≡ s.isn) (is_due s.deadline now) (record s { phase = Closed }) s (λ t. refl) (λ t. refl)
tick_isn s now _ = refl

-- a call of an arrival of the newest session: its outcome and its entry
live_outcome : (w : World) (p : End) (sessions : List Session) (call : EndState → Act) (s : Session) → live sessions ≡ Some s → (act_on w p sessions call).outcome ≡ (call s.state).outcome
live_outcome w p [] call s lives = absurd (cc)
live_outcome w p (x ∷ rest) call s lives = ap (λ (y : Session). (call y.state).outcome) (some_is x s lives)

put_history : (w : World) (p : End) (now : LinkSide) (h : Option Happening) → (put w p now h).history ≡ add h w.history
put_history w A now h = refl
put_history w B now h = refl

live_history : (w : World) (p : End) (sessions : List Session) (call : EndState → Act) (s : Session) → live sessions ≡ Some s → (act_on w p sessions call).world.history ≡ add (call s.state).happened w.history
live_history w p [] call s lives = absurd (cc)
live_history w p (x ∷ rest) call s lives =
    put_history w p (with_sessions (side w p) (acted x (call x.state) ∷ rest)) (call x.state).happened ∙ ap (λ (y : Session). add (call y.state).happened w.history) (some_is x s lives)

-- ---- the FIN stays recorded

abbrev AllPast : List Session → Type 0
AllPast sessions = AllByRecursion (λ (s : Session). Past s.state) sessions

abbrev EachPast : World → Type 0
EachPast w = (e : End) → AllPast (side w e).sessions

put_past : (w : World) (p : End) (now : LinkSide) (h : Option Happening) → AllPast now.sessions → EachPast w → EachPast (put w p now h)
put_past w A now h new old = both (λ e. AllPast (side (put w A now h) e).sessions) new (old B)
put_past w B now h new old = both (λ e. AllPast (side (put w B now h) e).sessions) (old A) new

act_past : (w : World) (p : End) (sessions : List Session) (call : EndState → Act) → (side w p).sessions ≡ sessions → ((s : EndState) → Past s → Past (call s).state) → EachPast w → EachPast (act_on w p sessions call).world
act_past w p [] call is says old = old
act_past w p (s ∷ rest) call is says old =
    let all : AllPast (s ∷ rest) = subst AllPast is (old p) in
    put_past w p (with_sessions (side w p) (acted s (call s.state) ∷ rest)) (call s.state).happened (says s.state all.0, all.1) old

live_past : (w : World) (p : End) (call : EndState → Act) → ((s : EndState) → Past s → Past (call s).state) → EachPast w → EachPast (on_live w p call).world
live_past w p call says old = act_past w p (side w p).sessions call refl says old

begin_past : (w : World) (p : End) (s : EndState) (o : Option Session) → Past s → EachPast w → EachPast (begin w p s o).world
begin_past w p s (Some used) new old = old
begin_past w p s None new old = put_past w p (with_sessions (side w p) (record { state = s; end_shown = false } ∷ (side w p).sessions)) None (new, old p) old

ticked_past : (now : ℕ) (sessions : List Session) → AllPast sessions → AllPast (ticked now sessions)
ticked_past now [] h = h
ticked_past now (s ∷ rest) h = (tick_past s.state now s.state.phase h.0, h.1)

come_past : (setup : Setup) (w : World) (p : End) (bytes : List ℕ) → EachPast w → EachPast (on_live w p (come bytes (view_of setup w p))).world
come_past setup w p bytes old = live_past w p (come bytes (view_of setup w p)) (λ s h. arrive_past (side w p).rows (pair_of setup p) (side w p).clock s (reading bytes) h) old

deliver_past : (setup : Setup) (w : World) (p : End) (o : Option Made) → EachPast w → EachPast (deliver setup w p o).world
deliver_past setup w p None old = old
deliver_past setup w p (Some m) old = come_past setup w p m.bytes old

alter_past : (setup : Setup) (w : World) (p : End) (change : Alteration) (o : Option Made) → EachPast w → EachPast (alter setup w p change o).world
alter_past setup w p change None old = old
alter_past setup w p change (Some m) old = choose (λ (x : Stepped). EachPast x.world) (has_place m.bytes change.place) _ _ (λ t. come_past setup w p (altered m.bytes change) old) (λ t. old)

add_past : (w : World) (p : End) (o : Adding) → EachPast w → EachPast (add_row w p o).world
add_past w p (AddedAs n rows) old = put_past w p (with_table (side w p) rows) None (old p) old
add_past w p TooMany old = old
add_past w p (OverlapsRow n) old = old

withdraw_past : (w : World) (p : End) (o : Option (List Row)) → EachPast w → EachPast (withdraw w p o).world
withdraw_past w p None old = old
withdraw_past w p (Some rows) old = put_past w p (with_table (side w p) rows) None (old p) old

close_past : (s : EndState) (phase : Phase) → Past s → Past (close_in phase s)
close_past s Listening h = λ e. absurd (cc)
close_past s SynSent h = λ e. absurd (cc)
close_past s Closed h = h
close_past s _ h = h

step_past : (setup : Setup) (w : World) (event : Event) → EachPast w → EachPast (step setup w event).world
step_past setup w (At p (Clock seconds)) old = put_past w p (with_clock (side w p) seconds) None (ticked_past seconds (side w p).sessions (old p)) old
step_past setup w (At p (Connect isn)) old = begin_past w p (connected (pair_of setup p) isn) (find (side w p).sessions isn) (λ e. absurd (cc)) old
step_past setup w (At p (Listen isn)) old = begin_past w p (listening (pair_of setup p) isn) (find (side w p).sessions isn) (λ e. absurd (cc)) old
step_past setup w (At p (Start isn peer)) old = begin_past w p (started (pair_of setup p) isn peer) (find (side w p).sessions isn) (λ e. absurd (cc)) old
step_past setup w (At p (Give piece)) old = live_past w p (given piece) (λ s h. (given_call (Unit {0}) piece s).past h) old
step_past setup w (At p (Fill count byte)) old = live_past w p (given (replicate count byte)) (λ s h. (given_call (Unit {0}) (replicate count byte) s).past h) old
step_past setup w (At p Send) old =
    live_past w p _ (λ s h. (sent_call (Unit {0}) (view_of setup w p) s Idle (emit (side w p).rows (pair_of setup p) (side w p).clock s) (emit_emitting (side w p).rows (pair_of setup p) (side w p).clock s) (emit_goes (side w p).rows (pair_of setup p) (side w p).clock s)).past h) old
step_past setup w (At p Resend) old =
    live_past w p _ (λ s h. (sent_call (Unit {0}) (view_of setup w p) s Nothing (resend (side w p).rows (pair_of setup p) (side w p).clock s) (resend_emitting (side w p).rows (pair_of setup p) (side w p).clock s) (resend_goes (side w p).rows (pair_of setup p) (side w p).clock s)).past h) old
step_past setup w (At p (Deliver name)) old = deliver_past setup w p (segment_named name w.history) old
step_past setup w (At p (Inject bytes)) old = come_past setup w p bytes old
step_past setup w (At p (Alter name place mask fixing)) old = alter_past setup w p (record { place = place; mask = mask; fixing = fixing }) (segment_named name w.history) old
step_past setup w (At p (Take count)) old = live_past w p (took count) (λ s h. h) old
step_past setup w (At p Close) old = live_past w p _ (λ s h. close_past s s.phase h) old
step_past setup w (At p Abort) old = live_past w p _ (λ s h e. absurd (cc)) old
step_past setup w (At p (AddRow row)) old = add_past w p (adding (side w p).rows (row_of_new row)) old
step_past setup w (At p (Withdraw n)) old = withdraw_past w p (withdrawn (side w p).rows n) old
step_past setup w (Dump name) old = old

run_past : (setup : Setup) (w : World) (events : List Event) → EachPast w → EachPast (run_from setup w events)
run_past setup w [] old = old
run_past setup w (event ∷ events) old = run_past setup (step setup w event).world events (step_past setup w event old)

-- ---- the law

module _ (setup : Setup) (fits : SetupFits setup) (w : World) (inv : Inv setup w) (past : EachPast w) (received : ReceivesGiven w) where
  sound_of : (p : End) (s : Session) → live (side w p).sessions ≡ Some s → Sound s.state
  sound_of p s lives = live_all (λ (x : Session). Sound x.state) (side w p).sessions s lives (inv.sound p)

  past_of : (p : End) (s : Session) → live (side w p).sessions ≡ Some s → Past s.state
  past_of p s lives = live_all (λ (x : Session). Past x.state) (side w p).sessions s lives (past p)

  -- an arrival
  come_call : (event : Event) → EventFits event → (p : End) (bytes : List ℕ) → step setup w event ≡ on_live w p (come bytes (view_of setup w p)) → (s : Session) → live (side w p).sessions ≡ Some s
      → Call (ClosesSo setup w event p s) s.state (come bytes (view_of setup w p) s.state)
  come_call event f p bytes is s lives =
      let rows = (side w p).rows in
      let pair = pair_of setup p in
      let now = (side w p).clock in
      let call = come bytes (view_of setup w p) in
      let a = arrive_of s in
      record {
        isn = ap (λ c. c.isn) (arrive_core rows pair now s.state (reading bytes));
        past = arrive_past rows pair now s.state (reading bytes);
        closes = λ awake shut. ⊎_elim
            (λ (reset : a.answer ≡ Reset). inr (inr (inl (
              ap (λ (x : Stepped). x.outcome) is ∙ live_outcome w p (side w p).sessions call s lives ∙ ap Answered reset,
              λ none. resets_by_abort setup fits w event f inv none (came_of s)
                  (record { session = s; lives = lives; came = ap (λ (x : Stepped). x.world.history) is ∙ live_history w p (side w p).sessions call s lives }) reset,
            ))))
            (λ (last : s.state.phase ≡ LastAck). inr (inr (inr (
              (sound_of p s lives).closed (ap fin_made last),
              both_closed w p s lives received (past_of p s lives (ap is_past last)),
            ))))
            (arrive_closes rows pair now s.state (reading bytes) awake shut);
      }
    where
      arrive_of : Session → Arrived
      arrive_of s = arrive (side w p).rows (pair_of setup p) (side w p).clock s.state (reading bytes)

      came_of : Session → Came
      came_of s = record { at = p; isn = s.state.isn; clock = (side w p).clock; bytes = bytes; answer = (arrive_of s).answer; passed = (arrive_of s).passed }

  abbrev Ends : Event → World → Type 0
  Ends event v = EndsIn w (Opens event) (ClosesSo setup w event) v

  come_ends : (event : Event) → EventFits event → (p : End) (bytes : List ℕ) → step setup w event ≡ on_live w p (come bytes (view_of setup w p)) → Ends event (on_live w p (come bytes (view_of setup w p))).world
  come_ends event f p bytes is = live_ends w (Opens event) (ClosesSo setup w event) p (come bytes (view_of setup w p)) (come_call event f p bytes is)

  deliver_ends : (name : ℕ) (p : End) (o : Option Made) → segment_named name w.history ≡ o → Ends (At p (Deliver name)) (deliver setup w p o).world
  deliver_ends name p None is = stays w (Opens (At p (Deliver name))) (ClosesSo setup w (At p (Deliver name)))
  deliver_ends name p (Some m) is = come_ends (At p (Deliver name)) tt p m.bytes (ap (deliver setup w p) is)

  alter_if : (event : Event) (f : EventFits event) (p : End) (change : Alteration) (m : Made) (b : Bool) → step setup w event ≡ (if b then on_live w p (come (altered m.bytes change) (view_of setup w p)) else record { world = w; outcome = NoPlace })
      → Ends event (if b then on_live w p (come (altered m.bytes change) (view_of setup w p)) else record { world = w; outcome = NoPlace }).world
  alter_if event f p change m true is = come_ends event f p (altered m.bytes change) is
  alter_if event f p change m false is = stays w (Opens event) (ClosesSo setup w event)

  alter_ends : (name place mask : ℕ) (fixing : Fixing) → mask < 256 → (p : End) (o : Option Made) → segment_named name w.history ≡ o → Ends (At p (Alter name place mask fixing)) (alter setup w p (record { place = place; mask = mask; fixing = fixing }) o).world
  alter_ends name place mask fixing f p None is = stays w (Opens (At p (Alter name place mask fixing))) (ClosesSo setup w (At p (Alter name place mask fixing)))
  alter_ends name place mask fixing f p (Some m) is =
      let change : Alteration = record { place = place; mask = mask; fixing = fixing } in
      alter_if (At p (Alter name place mask fixing)) f p change m (has_place m.bytes place) (ap (alter setup w p change) is)

  close_call : (p : End) (s : Session) (phase : Phase) → s.state.phase ≡ phase → Sound s.state → Call (ClosesSo setup w (At p Close) p s) s.state (quietly (close_in phase s.state) Done)
  close_call p s Listening is h = record { isn = refl; past = λ k e. absurd (cc); closes = λ awake shut. inr (inl (refl, h.unknown (ap waits is))) }
  close_call p s SynSent is h = record { isn = refl; past = λ k e. absurd (cc); closes = λ awake shut. inr (inl (refl, h.unknown (ap waits is))) }
  close_call p s Closed is h = record { isn = refl; past = λ k. k; closes = λ awake shut. absurd (cc) }
  close_call p s _ is h = record { isn = refl; past = λ k. k; closes = λ awake shut. absurd (cc) }

  tick_ends : (p : End) (seconds : ℕ) (sessions : List Session) → (side w p).sessions ≡ sessions → EndsAt (Opens (At p (Clock seconds)) p) (ClosesSo setup w (At p (Clock seconds)) p) sessions (ticked seconds sessions)
  tick_ends p seconds [] at s later is now = absurd (cc)
  tick_ends p seconds (x ∷ rest) at s later is now =
      let one = some_is x s is in
      let two = some_is (record { state = tick seconds x.state; end_shown = x.end_shown }) later now in
      let lives : live (side w p).sessions ≡ Some x = ap live at in
      inr (
        ap (λ (y : Session). y.state.isn) (sym two) ∙ tick_isn x.state seconds x.state.phase ∙ ap (λ (y : Session). y.state.isn) one,
        λ awake shut. subst (ClosesSo setup w (At p (Clock seconds)) p) one
            (let timed = tick_closes x.state seconds x.state.phase refl (subst (λ (y : Session). is_closed y.state.phase ≡ false) (sym one) awake) (subst (λ (y : Session). is_closed y.state.phase ≡ true) (sym two) shut) in
            inr (inr (inr ((sound_of p x lives).closed (ap fin_made timed), both_closed w p x lives received (past_of p x lives (ap is_past timed)))))),
      )

  ends : (event : Event) → EventFits event → Ends event (step setup w event).world
  ends (At p (Clock seconds)) f =
      put_ends w (Opens (At p (Clock seconds))) (ClosesSo setup w (At p (Clock seconds))) p (with_clock (side w p) seconds) None (tick_ends p seconds (side w p).sessions refl)
  ends (At p (Connect isn)) f = begin_ends w (Opens (At p (Connect isn))) (ClosesSo setup w (At p (Connect isn))) p (connected (pair_of setup p) isn) (find (side w p).sessions isn) refl
  ends (At p (Listen isn)) f = begin_ends w (Opens (At p (Listen isn))) (ClosesSo setup w (At p (Listen isn))) p (listening (pair_of setup p) isn) (find (side w p).sessions isn) refl
  ends (At p (Start isn peer)) f = begin_ends w (Opens (At p (Start isn peer))) (ClosesSo setup w (At p (Start isn peer))) p (started (pair_of setup p) isn peer) (find (side w p).sessions isn) refl
  ends (At p (Give piece)) f = live_ends w (Opens (At p (Give piece))) (ClosesSo setup w (At p (Give piece))) p (given piece) (λ s lives. given_call (ClosesSo setup w (At p (Give piece)) p s) piece s.state)
  ends (At p (Fill count byte)) f =
      live_ends w (Opens (At p (Fill count byte))) (ClosesSo setup w (At p (Fill count byte))) p (given (replicate count byte)) (λ s lives. given_call (ClosesSo setup w (At p (Fill count byte)) p s) (replicate count byte) s.state)
  ends (At p Send) f =
      live_ends w (Opens (At p Send)) (ClosesSo setup w (At p Send)) p _ (λ s lives. sent_call (ClosesSo setup w (At p Send) p s) (view_of setup w p) s.state Idle (emit (side w p).rows (pair_of setup p) (side w p).clock s.state)
      (emit_emitting (side w p).rows (pair_of setup p) (side w p).clock s.state) (emit_goes (side w p).rows (pair_of setup p) (side w p).clock s.state))
  ends (At p Resend) f =
      live_ends w (Opens (At p Resend)) (ClosesSo setup w (At p Resend)) p _ (λ s lives. sent_call (ClosesSo setup w (At p Resend) p s) (view_of setup w p) s.state Nothing (resend (side w p).rows (pair_of setup p) (side w p).clock s.state)
      (resend_emitting (side w p).rows (pair_of setup p) (side w p).clock s.state) (resend_goes (side w p).rows (pair_of setup p) (side w p).clock s.state))
  ends (At p (Deliver name)) f = deliver_ends name p (segment_named name w.history) refl
  ends (At p (Inject bytes)) f = come_ends (At p (Inject bytes)) f p bytes refl
  ends (At p (Alter name place mask fixing)) f = alter_ends name place mask fixing f p (segment_named name w.history) refl
  ends (At p (Take count)) f = live_ends w (Opens (At p (Take count))) (ClosesSo setup w (At p (Take count))) p (took count) (λ s lives. took_call (ClosesSo setup w (At p (Take count)) p s) count s.state)
  ends (At p Close) f = live_ends w (Opens (At p Close)) (ClosesSo setup w (At p Close)) p _ (λ s lives. close_call p s s.state.phase refl (sound_of p s lives))
  ends (At p Abort) f = live_ends w (Opens (At p Abort)) (ClosesSo setup w (At p Abort)) p _ (λ s lives. record { isn = refl; past = λ k e. absurd (cc); closes = λ awake shut. inl refl })
  ends (At p (AddRow row)) f = add_ends w (Opens (At p (AddRow row))) (ClosesSo setup w (At p (AddRow row))) p (adding (side w p).rows (row_of_new row))
  ends (At p (Withdraw n)) f = withdraw_ends w (Opens (At p (Withdraw n))) (ClosesSo setup w (At p (Withdraw n))) p (withdrawn (side w p).rows n)
  ends (Dump name) f = stays w (Opens (Dump name)) (ClosesSo setup w (Dump name))

pub ends_only_so : (setup : Setup) (fits : SetupFits setup) (events : List Event) (event : Event) → AllByRecursion EventFits events → EventFits event → EndsOnlySo setup (run setup events) event
ends_only_so setup fits events event f one =
    ends setup fits (run setup events) (run_inv setup fits events f) (run_past setup (empty setup) events (both (λ e. AllPast (side (empty setup) e).sessions) tt tt)) (receives_given setup fits events f) event one
