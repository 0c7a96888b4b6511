-- Two live sessions whose keys, tables and clocks let them hear each other, in whatever phases: what a turn does.
use Rattle.std.proofs.Common.{◌≡◌, ◌⊎◌, inl, inr, ⊎_elim, ℕ, ◌%◌, ◌^◌, ◌<◌, true, false, ◌&&◌, List, [], ◌∷◌, length, Option, Some, if◌then◌else◌, refl, sym, ap, ◌∙◌, subst, arith}
use Rattle.std.specs.List.{AllByRecursion}
use Rattle.book_base.specs.declared.address.Pair.{Pair}
use Rattle.book_base.specs.declared.end.End.{End}
use Rattle.book_base.specs.declared.end.End.TheVariants.{A, B}
use Rattle.book_segments.specs.Bytes.{ring}
use Rattle.book_segments.specs.Segments.{Segment, reading, has, SYN, ACK}
use Rattle.book_keys.specs.Rows.{Row}
use Rattle.book_keys.specs.Coordination.{Sending, follow}
use Rattle.book_keys.specs.Plans.{AlignedFrom, has_sendable}
use Rattle.book_endpoint.specs.States.{EndState, take_out, is_closed}
use Rattle.book_endpoint.specs.Arrivals.{heard, passes, arrive}
use Rattle.endpoint_steps.specs.Arriving.{after_check}
use Rattle.book_endpoint.specs.Emissions.{Draft, Emitted, Quiet, Emits, sets, sealed, emit, resend}
use Rattle.book_link.specs.declared.event.Event.{Event}
use Rattle.book_link.specs.declared.event.Event.TheVariants.{At}
use Rattle.book_link.specs.declared.event.Action.TheVariants.{Send, Resend, Deliver, Take}
use Rattle.book_link.specs.Outcomes.{Outcome, Sent, Idle, Nothing}
use Rattle.book_link.specs.Worlds.{other, Setup, pair_of, Session, Made, Happening, World, side, find, live, is_known, addressed, forged, forgeries, segment_named}
use Rattle.book_link.specs.Steps.{Stepped, Act, add, acted, on_live, quietly, made_of, sent, came, come, took, deliver, step, view_of}
use Rattle.book_link.specs.Runs.{run_from}
use Rattle.law_link.specs.Headline.{GivesFew}
use Rattle.law_link.specs.Laws.{SetupFits, EventFits, IsNear, RollsOver}
use Rattle.law_link.proofs.Moves.{following}
use Rattle.law_link.proofs.Rollover.{finds_made}
use Rattle.law_progress.specs.Progress.{Turn, Sends, Resends, maker, delivering, turn_events, IsKeyed}
use Rattle.law_progress.proofs.Finishing.{named_last}
use Rattle.law_progress.proofs.Facts.{Facts, live_all, live_found}
use Rattle.law_progress.proofs.Kept.{facts_step}
use Rattle.law_progress.proofs.Acting.{instead_here, instead_other, instead_there, instead_far, Acted, act_live}
use Rattle.law_progress.proofs.Turning.{JustMade, arrives_so, unforged_now, all_taken}

-- ---- the two sessions

pub record Ready (setup : Setup) (w : World) (lead lag : ℕ) (y : End) (a b : Session) : Type 0 where
  pub facts : Facts setup w
  pub far_lives : live (side w (other y)).sessions ≡ Some a
  pub near_lives : live (side w y).sessions ≡ Some b
  pub keyed : IsKeyed setup w lead lag

-- the sessions of both ends
abbrev pub sides : End → Session → Session → End → Session
sides A a b A = b
sides A a b B = a
sides B a b A = a
sides B a b B = b

pub sides_near : (y : End) (a b : Session) → sides y a b y ≡ b
sides_near A a b = refl
sides_near B a b = refl

pub sides_far : (y : End) (a b : Session) → sides y a b (other y) ≡ a
sides_far A a b = refl
sides_far B a b = refl

pub sides_live : (w : World) (y : End) (a b : Session) → live (side w (other y)).sessions ≡ Some a → live (side w y).sessions ≡ Some b → (e : End) → live (side w e).sessions ≡ Some (sides y a b e)
sides_live w A a b far near A = near
sides_live w A a b far near B = far
sides_live w B a b far near A = far
sides_live w B a b far near B = near

-- keys, tables and clocks stay as they are in a call
pub keyed_by : (setup : Setup) (w v : World) (lead lag : ℕ) (x : End) (u : Session) (happened : Option Happening) → Acted w x u happened v → forgeries (add happened w.history) ≡ 0 → IsKeyed setup w lead lag → IsKeyed setup v lead lag
keyed_by setup w v lead lag x u happened acts none k = record {
  sends = λ e. ap (λ (r : List Row). has_sendable r (pair_of setup e) (side v e).clock) (acts.rows e) ∙ ap (has_sendable (side w e).rows (pair_of setup e)) (acts.clock e) ∙ k.sends e;
  aligned = λ e. subst (λ (r : List Row). AlignedFrom (side v (other e)).rows r (pair_of setup (other e)) lead lag) (sym (acts.rows e))
      (subst (λ (r : List Row). AlignedFrom r (side w e).rows (pair_of setup (other e)) lead lag) (sym (acts.rows (other e))) (k.aligned e));
  early = λ e. let h = k.early e in let here = acts.clock e in let there = acts.clock (other e) in omega arith;
  late = λ e. let h = k.late e in let here = acts.clock e in let there = acts.clock (other e) in omega arith;
  unforged = ap forgeries acts.history ∙ none;
}

module _ (setup : Setup) (w : World) (lead lag : ℕ) (y : End) (a b : Session) (r : Ready setup w lead lag y a b) where
  -- a call on the near end
  pub ready_near : (call : EndState → Act) (act : Act) → call b.state ≡ act → forgeries (add act.happened w.history) ≡ 0 → Facts setup (on_live w y call).world
      → Ready setup (on_live w y call).world lead lag y a (acted b act) × (length act.state.given < 2 ^ 31 → GivesFew w → GivesFew (on_live w y call).world)
  ready_near call act is none facts =
      let v = (on_live w y call).world in
      let u = acted b act in
      let old = sides y a b in
      let acts = subst (λ (k : Act). Acted w y (acted b k) k.happened v) is (act_live w y call b r.near_lives).0 in
      let lives = acts.lives old (sides_live w y a b r.far_lives r.near_lives) in (
        record {
          facts = facts;
          far_lives = lives (other y) ∙ ap (λ (s : Session). Some s) (instead_there y u old ∙ sides_far y a b);
          near_lives = lives y ∙ ap (λ (s : Session). Some s) (instead_here y u old);
          keyed = keyed_by setup w v lead lag y u act.happened acts none r.keyed;
        },
        acts.few,
      )

  -- a call on the far end
  pub ready_far : (call : EndState → Act) (act : Act) → call a.state ≡ act → forgeries (add act.happened w.history) ≡ 0 → Facts setup (on_live w (other y) call).world
      → Ready setup (on_live w (other y) call).world lead lag y (acted a act) b × (length act.state.given < 2 ^ 31 → GivesFew w → GivesFew (on_live w (other y) call).world)
  ready_far call act is none facts =
      let x = other y in
      let v = (on_live w x call).world in
      let u = acted a act in
      let old = sides y a b in
      let acts = subst (λ (k : Act). Acted w x (acted a k) k.happened v) is (act_live w x call a r.far_lives).0 in
      let lives = acts.lives old (sides_live w y a b r.far_lives r.near_lives) in (
        record {
          facts = facts;
          far_lives = lives x ∙ ap (λ (s : Session). Some s) (instead_far y u old);
          near_lives = lives y ∙ ap (λ (s : Session). Some s) (instead_other y u old ∙ sides_near y a b);
          keyed = keyed_by setup w v lead lag x u act.happened acts none r.keyed;
        },
        acts.few,
      )

pub ready_flip : (setup : Setup) (w : World) (lead lag : ℕ) (x : End) (a b : Session) → Ready setup w lead lag (other x) a b → Ready setup w lead lag (other (other x)) b a
ready_flip setup w lead lag A a b r = record { facts = r.facts; far_lives = r.near_lives; near_lives = r.far_lives; keyed = r.keyed }
ready_flip setup w lead lag B a b r = record { facts = r.facts; far_lives = r.near_lives; near_lives = r.far_lives; keyed = r.keyed }

pub ready_back : (setup : Setup) (w : World) (lead lag : ℕ) (x : End) (a b : Session) → Ready setup w lead lag (other (other x)) a b → Ready setup w lead lag (other x) b a
ready_back setup w lead lag A a b r = record { facts = r.facts; far_lives = r.near_lives; near_lives = r.far_lives; keyed = r.keyed }
ready_back setup w lead lag B a b r = record { facts = r.facts; far_lives = r.near_lives; near_lives = r.far_lives; keyed = r.keyed }

-- ---- a segment comes that the far end made last

record Comes (setup : Setup) (w : World) (lead lag : ℕ) (y : End) (a b : Session) (m : Made) : Type 0 where
  after : Session
  current : Option ℕ
  number : ℕ
  now : ℕ
  is : number ≡ m.emission.number
  state : after.state ≡ (after_check (pair_of setup y) b.state (following current b.state) m.emission.segment number now b.state.phase).state
  ready : Ready setup (step setup w (At y (Deliver m.name))).world lead lag y a after
  few : length after.state.given < 2 ^ 31 → GivesFew w → GivesFew (step setup w (At y (Deliver m.name))).world

comes : (setup : Setup) (fits : SetupFits setup) (w : World) (lead lag : ℕ) (y : End) (a b : Session) (m : Made) → Ready setup w lead lag y a b → JustMade w y a m → is_closed b.state.phase ≡ false
    → addressed m.emission.segment a.state b.state ≡ true → (has SYN m.emission.segment ≡ false → IsNear m.emission.number b.state.expected) → Comes setup w lead lag y a b m
comes setup fits w lead lag y a b m r just awake to near =
    let d = m.emission.segment in
    let named : segment_named m.name w.history ≡ Some m = ap (segment_named m.name) just.history ∙ named_last m just.past in
    let rolls : RollsOver setup w y m.name m = record {
      made = named;
      maker = just.maker;
      lead = lead;
      lag = lag;
      early = (let h = r.keyed.early y in let k = just.clock in omega arith);
      late = (let h = r.keyed.late y in let k = just.clock in omega arith);
      aligned = subst (λ (rows : List Row). AlignedFrom rows (side w y).rows (pair_of setup (other y)) lead lag) (sym just.rows) (r.keyed.aligned y);
      sender = a;
      sent = ap (find (side w (other y)).sessions) just.isn ∙ live_found (side w (other y)).sessions a r.far_lives;
      receiver = b;
      lives = r.near_lives;
      awake = awake;
      addressed = to;
      near = near;
    } in
    let found = finds_made setup fits r.facts.tables w y m.name m r.facts.inv rolls in
    let j = found.judges in
    let p = j.found in
    let rows = (side w y).rows in
    let pair = pair_of setup y in
    let now = (side w y).clock in
    let s = b.state in
    let moved = after_check pair s (heard rows pair now s p.rnext_key_id) d p.number now s.phase in
    let arrived : arrive rows pair now s (reading m.bytes) ≡ passes s p moved = arrives_so rows pair now s m.bytes d p found.reads j.ours found.right awake j.verdict in
    let act = came m.bytes (view_of setup w y) s (passes s p moved) in
    let none : forgeries (add act.happened w.history) ≡ 0 =
    (let z = unforged_now y p m just.past just.maker j.key j.context j.message in
    let all : forged y (Some p) w.history ≡ 0 = ap (forged y (Some p)) just.history ∙ z in
    let before_none = r.keyed.unforged in omega arith) in
    let v = (step setup w (At y (Deliver m.name))).world in
    let v_is : (on_live w y (come m.bytes (view_of setup w y))).world ≡ v = ap (λ (o : Option Made). (deliver setup w y o).world) (sym named) in
    let facts = facts_step setup fits w (At y (Deliver m.name)) tt r.facts in
    let facts_now = subst (Facts setup) (sym v_is) facts in
    let done = ready_near setup w lead lag y a b r (come m.bytes (view_of setup w y)) act (ap (came m.bytes (view_of setup w y) s) arrived) none facts_now in
    record {
      after = acted b act;
      current = follow s.current rows pair p.rnext_key_id now;
      number = p.number;
      now = now;
      is = j.number;
      state = refl;
      ready = subst (λ (k : World). Ready setup k lead lag y a (acted b act)) v_is done.0;
      few = subst (λ (k : World). length act.state.given < 2 ^ 31 → GivesFew w → GivesFew k) v_is done.1;
    }

-- ---- a turn

-- a draft with this property becomes a segment
pub record SealsAs (pair : Pair) (s : EndState) (P : Draft → Type 0) (r : Emitted) : Type 0 where
  pub out : Draft
  pub sending : Sending
  pub context : List ℕ
  pub is : r ≡ Emits (sealed pair s out sending context)
  pub holds : P out

-- a draft of state a is addressed to state b, and near what is expected there
pub record Fits (a b : EndState) (out : Draft) : Type 0 where
  pub to : (if sets out.flags SYN then (if sets out.flags ACK then is_known out.state.peer_isn b.isn else true) else is_known out.state.peer_isn b.isn && is_known b.peer_isn out.state.isn) ≡ true
  pub near : sets out.flags SYN ≡ false → IsNear out.number b.expected
  pub isn : out.state.isn ≡ a.isn

-- a segment was made of state a, and came to state b
pub record Turned (setup : Setup) (w v : World) (lead lag : ℕ) (y : End) (a b : EndState) (P : Draft → Type 0) : Type 0 where
  pub far : Session
  pub near : Session
  pub ready : Ready setup v lead lag y far near
  pub out : Draft
  pub holds : P out
  pub row : Option ℕ
  pub far_is : far.state ≡ following row out.state
  pub segment : Segment
  pub flags : segment.flags ≡ out.flags
  pub payload : segment.payload ≡ out.payload
  pub acknowledgement : segment.acknowledgement ≡ (if sets out.flags ACK then a.expected % ring else 0)
  pub current : Option ℕ
  pub number : ℕ
  pub now : ℕ
  pub number_is : number ≡ out.number
  pub near_is : near.state ≡ (after_check (pair_of setup y) b (following current b) segment number now b.phase).state
  pub few : length far.state.given < 2 ^ 31 → length near.state.given < 2 ^ 31 → GivesFew w → GivesFew v

-- nothing was made
pub record Rested (setup : Setup) (w v : World) (lead lag : ℕ) (y : End) (a b : EndState) : Type 0 where
  pub far : Session
  pub near : Session
  pub ready : Ready setup v lead lag y far near
  pub far_is : far.state ≡ a
  pub near_is : near.state ≡ b
  pub few : GivesFew w → GivesFew v

abbrev Few : List Session → Type 0
Few sessions = AllByRecursion (λ (s : Session). length s.state.given < 2 ^ 31) sessions

pub live_few : (sessions : List Session) (t : Session) → live sessions ≡ Some t → Few sessions → length t.state.given < 2 ^ 31
live_few sessions t lives h = live_all (λ (s : Session). length s.state.given < 2 ^ 31) sessions t lives h

module _ (setup : Setup) (fits : SetupFits setup) (w : World) (lead lag : ℕ) (y : End) (a b : Session) (r : Ready setup w lead lag y a b) where
  taken : Ready setup (step setup w (At y (Take 65535))).world lead lag y a (all_taken b) × (length b.state.given < 2 ^ 31 → GivesFew w → GivesFew (step setup w (At y (Take 65535))).world)
  taken = ready_near setup w lead lag y a b r (took 65535) (took 65535 b.state) refl r.keyed.unforged (facts_step setup fits w (At y (Take 65535)) tt r.facts)

  made : (ev : Event) (without : Outcome) (f : EndState → Emitted) (P : Draft → Type 0) → EventFits ev
      → let w1 = (step setup w (At y (Take 65535))).world in
      step setup w1 ev ≡ on_live w1 (other y) (λ (s : EndState). sent (view_of setup w1 (other y)) s without (f s))
      → SealsAs (pair_of setup (other y)) a.state P (f a.state) → is_closed b.state.phase ≡ false → ((out : Draft) → P out → Fits a.state b.state out)
      → Turned setup w (run_from setup w (At y (Take 65535) ∷ ev ∷ delivering y (step setup w1 ev).outcome)) lead lag y a.state (take_out 65535 b.state) P
  made ev without f P ev_fits is m awake may =
      let w1 = (step setup w (At y (Take 65535))).world in
      let x = other y in
      let one = taken.0 in
      let b1 = all_taken b in
      let em = sealed (pair_of setup x) a.state m.out m.sending m.context in
      let act = sent (view_of setup w1 x) a.state without (Emits em) in
      let entry = made_of (view_of setup w1 x) a.state em in
      let call = λ (s : EndState). sent (view_of setup w1 x) s without (f s) in
      let act_is : call a.state ≡ act = ap (sent (view_of setup w1 x) a.state without) m.is in
      let w2 = (on_live w1 x call).world in
      let facts2 : Facts setup w2 = subst (λ (k : Stepped). Facts setup k.world) is (facts_step setup fits w1 ev ev_fits one.facts) in
      let two = ready_far setup w1 lead lag y a b1 one call act act_is one.keyed.unforged facts2 in
      let a2 = acted a act in
      let live_act = act_live w1 x call a one.far_lives in
      let acts = subst (λ (k : Act). Acted w1 x (acted a k) k.happened w2) act_is live_act.0 in
      let outcome : (on_live w1 x call).outcome ≡ Sent entry = live_act.1 ∙ ap (λ (k : Act). k.outcome) act_is in
      let fit = may m.out m.holds in
      let just : JustMade w2 y a2 entry = record {
        past = w1.history;
        history = acts.history;
        unforged = one.keyed.unforged;
        maker = refl;
        isn = sym fit.isn;
        clock = sym (acts.clock x);
        rows = sym (acts.rows x);
      } in
      let c = comes setup fits w2 lead lag y a2 b1 entry two.0 just awake fit.to fit.near in
      let v = (step setup w2 (At y (Deliver entry.name))).world in
      let v_is : v ≡ run_from setup w (At y (Take 65535) ∷ ev ∷ delivering y (step setup w1 ev).outcome) =
      ap (λ (o : Outcome). run_from setup w2 (delivering y o)) (sym outcome) ∙ ap (λ (k : Stepped). run_from setup k.world (delivering y k.outcome)) (sym is) in
      let few : length a2.state.given < 2 ^ 31 → length c.after.state.given < 2 ^ 31 → GivesFew w → GivesFew v =
      λ low high all. c.few high (two.1 low (taken.1 (live_few (side w y).sessions b r.near_lives (all y)) all)) in
      let goal : Turned setup w v lead lag y a.state (take_out 65535 b.state) P = record {
        far = a2;
        near = c.after;
        ready = c.ready;
        out = m.out;
        holds = m.holds;
        row = Some m.sending.number;
        far_is = refl;
        segment = em.segment;
        flags = refl;
        payload = refl;
        acknowledgement = refl;
        current = c.current;
        number = c.number;
        now = c.now;
        number_is = c.is;
        near_is = c.state;
        few = few;
      } in
      subst (λ (k : World). Turned setup w k lead lag y a.state (take_out 65535 b.state) P) v_is goal

  rested : (ev : Event) (without : Outcome) (f : EndState → Emitted) → EventFits ev → delivering y without ≡ []
      → let w1 = (step setup w (At y (Take 65535))).world in
      step setup w1 ev ≡ on_live w1 (other y) (λ (s : EndState). sent (view_of setup w1 (other y)) s without (f s)) → f a.state ≡ Quiet
      → Rested setup w (run_from setup w (At y (Take 65535) ∷ ev ∷ delivering y (step setup w1 ev).outcome)) lead lag y a.state (take_out 65535 b.state)
  rested ev without f ev_fits nothing is quiet =
      let w1 = (step setup w (At y (Take 65535))).world in
      let x = other y in
      let one = taken.0 in
      let b1 = all_taken b in
      let act = quietly a.state without in
      let call = λ (s : EndState). sent (view_of setup w1 x) s without (f s) in
      let act_is : call a.state ≡ act = ap (sent (view_of setup w1 x) a.state without) quiet in
      let w2 = (on_live w1 x call).world in
      let facts2 : Facts setup w2 = subst (λ (k : Stepped). Facts setup k.world) is (facts_step setup fits w1 ev ev_fits one.facts) in
      let two = ready_far setup w1 lead lag y a b1 one call act act_is one.keyed.unforged facts2 in
      let outcome : (on_live w1 x call).outcome ≡ without = (act_live w1 x call a one.far_lives).1 ∙ ap (λ (k : Act). k.outcome) act_is in
      let v_is : w2 ≡ run_from setup w (At y (Take 65535) ∷ ev ∷ delivering y (step setup w1 ev).outcome) =
      ap (run_from setup w2) (sym (ap (delivering y) outcome ∙ nothing)) ∙ ap (λ (k : Stepped). run_from setup k.world (delivering y k.outcome)) (sym is) in
      let few : GivesFew w → GivesFew w2 =
      λ all. two.1 (live_few (side w (other y)).sessions a r.far_lives (all (other y))) (taken.1 (live_few (side w y).sessions b r.near_lives (all y)) all) in
      let goal : Rested setup w w2 lead lag y a.state (take_out 65535 b.state) = record { far = acted a act; near = b1; ready = two.0; far_is = refl; near_is = refl; few = few } in
      subst (λ (k : World). Rested setup w k lead lag y a.state (take_out 65535 b.state)) v_is goal

-- what a turn's end makes
abbrev pub makes_of : Turn → List Row → Pair → ℕ → EndState → Emitted
makes_of (Sends e) rows pair now s = emit rows pair now s
makes_of (Resends e) rows pair now s = resend rows pair now s

module _ (setup : Setup) (fits : SetupFits setup) (w : World) (lead lag : ℕ) (a b : Session) where
  pub turned : (t : Turn) (P : Draft → Type 0) → Ready setup w lead lag (other (maker t)) a b
      → ((rows : List Row) (now : ℕ) → has_sendable rows (pair_of setup (maker t)) now ≡ true → SealsAs (pair_of setup (maker t)) a.state P (makes_of t rows (pair_of setup (maker t)) now a.state))
      → is_closed b.state.phase ≡ false → ((out : Draft) → P out → Fits a.state b.state out)
      → Turned setup w (run_from setup w (turn_events setup w t)) lead lag (other (maker t)) a.state (take_out 65535 b.state) P
  unfolding turn_events
  turned (Sends A) P r m awake may =
      let w1 = (step setup w (At B (Take 65535))).world in
      let one = (taken setup fits w lead lag B a b r).0 in
      made setup fits w lead lag B a b r (At A Send) Idle (emit (side w1 A).rows (pair_of setup A) (side w1 A).clock) P tt refl (m (side w1 A).rows (side w1 A).clock (one.keyed.sends A)) awake may
  turned (Sends B) P r m awake may =
      let w1 = (step setup w (At A (Take 65535))).world in
      let one = (taken setup fits w lead lag A a b r).0 in
      made setup fits w lead lag A a b r (At B Send) Idle (emit (side w1 B).rows (pair_of setup B) (side w1 B).clock) P tt refl (m (side w1 B).rows (side w1 B).clock (one.keyed.sends B)) awake may
  turned (Resends A) P r m awake may =
      let w1 = (step setup w (At B (Take 65535))).world in
      let one = (taken setup fits w lead lag B a b r).0 in
      made setup fits w lead lag B a b r (At A Resend) Nothing (resend (side w1 A).rows (pair_of setup A) (side w1 A).clock) P tt refl (m (side w1 A).rows (side w1 A).clock (one.keyed.sends A)) awake may
  turned (Resends B) P r m awake may =
      let w1 = (step setup w (At A (Take 65535))).world in
      let one = (taken setup fits w lead lag A a b r).0 in
      made setup fits w lead lag A a b r (At B Resend) Nothing (resend (side w1 B).rows (pair_of setup B) (side w1 B).clock) P tt refl (m (side w1 B).rows (side w1 B).clock (one.keyed.sends B)) awake may

  pub turned_quiet : (t : Turn) → Ready setup w lead lag (other (maker t)) a b → ((rows : List Row) (now : ℕ) → makes_of t rows (pair_of setup (maker t)) now a.state ≡ Quiet)
      → Rested setup w (run_from setup w (turn_events setup w t)) lead lag (other (maker t)) a.state (take_out 65535 b.state)
  unfolding turn_events
  turned_quiet (Sends A) r m = let w1 = (step setup w (At B (Take 65535))).world in rested setup fits w lead lag B a b r (At A Send) Idle (emit (side w1 A).rows (pair_of setup A) (side w1 A).clock) tt refl refl (m (side w1 A).rows (side w1 A).clock)
  turned_quiet (Sends B) r m = let w1 = (step setup w (At A (Take 65535))).world in rested setup fits w lead lag A a b r (At B Send) Idle (emit (side w1 B).rows (pair_of setup B) (side w1 B).clock) tt refl refl (m (side w1 B).rows (side w1 B).clock)
  turned_quiet (Resends A) r m = let w1 = (step setup w (At B (Take 65535))).world in rested setup fits w lead lag B a b r (At A Resend) Nothing (resend (side w1 A).rows (pair_of setup A) (side w1 A).clock) tt refl refl (m (side w1 A).rows (side w1 A).clock)
  turned_quiet (Resends B) r m = let w1 = (step setup w (At A (Take 65535))).world in rested setup fits w lead lag A a b r (At B Resend) Nothing (resend (side w1 B).rows (pair_of setup B) (side w1 B).clock) tt refl refl (m (side w1 B).rows (side w1 B).clock)

module _ (setup : Setup) (fits : SetupFits setup) (w : World) (lead lag : ℕ) (a b : Session) (P : Draft → Type 0) (Q : Type 0) where
  -- a turn that makes a segment, or nothing where Q holds
  pub turned_either : (t : Turn) → Ready setup w lead lag (other (maker t)) a b
      → ((rows : List Row) (now : ℕ) → has_sendable rows (pair_of setup (maker t)) now ≡ true
      → SealsAs (pair_of setup (maker t)) a.state P (makes_of t rows (pair_of setup (maker t)) now a.state) ⊎ ((makes_of t rows (pair_of setup (maker t)) now a.state ≡ Quiet) × Q))
      → is_closed b.state.phase ≡ false → ((out : Draft) → P out → Fits a.state b.state out)
      → Turned setup w (run_from setup w (turn_events setup w t)) lead lag (other (maker t)) a.state (take_out 65535 b.state) P
      ⊎ (Rested setup w (run_from setup w (turn_events setup w t)) lead lag (other (maker t)) a.state (take_out 65535 b.state) × Q)
  unfolding turn_events
  turned_either (Sends A) r m awake may =
      let w1 = (step setup w (At B (Take 65535))).world in
      let one = (taken setup fits w lead lag B a b r).0 in
      let f = emit (side w1 A).rows (pair_of setup A) (side w1 A).clock in
      ⊎_elim (λ (z : SealsAs (pair_of setup A) a.state P (f a.state)). inl (made setup fits w lead lag B a b r (At A Send) Idle f P tt refl z awake may))
      (λ (z : (f a.state ≡ Quiet) × Q). inr (rested setup fits w lead lag B a b r (At A Send) Idle f tt refl refl z.0, z.1))
      (m (side w1 A).rows (side w1 A).clock (one.keyed.sends A))
  turned_either (Sends B) r m awake may =
      let w1 = (step setup w (At A (Take 65535))).world in
      let one = (taken setup fits w lead lag A a b r).0 in
      let f = emit (side w1 B).rows (pair_of setup B) (side w1 B).clock in
      ⊎_elim (λ (z : SealsAs (pair_of setup B) a.state P (f a.state)). inl (made setup fits w lead lag A a b r (At B Send) Idle f P tt refl z awake may))
      (λ (z : (f a.state ≡ Quiet) × Q). inr (rested setup fits w lead lag A a b r (At B Send) Idle f tt refl refl z.0, z.1))
      (m (side w1 B).rows (side w1 B).clock (one.keyed.sends B))
  turned_either (Resends A) r m awake may =
      let w1 = (step setup w (At B (Take 65535))).world in
      let one = (taken setup fits w lead lag B a b r).0 in
      let f = resend (side w1 A).rows (pair_of setup A) (side w1 A).clock in
      ⊎_elim (λ (z : SealsAs (pair_of setup A) a.state P (f a.state)). inl (made setup fits w lead lag B a b r (At A Resend) Nothing f P tt refl z awake may))
      (λ (z : (f a.state ≡ Quiet) × Q). inr (rested setup fits w lead lag B a b r (At A Resend) Nothing f tt refl refl z.0, z.1))
      (m (side w1 A).rows (side w1 A).clock (one.keyed.sends A))
  turned_either (Resends B) r m awake may =
      let w1 = (step setup w (At A (Take 65535))).world in
      let one = (taken setup fits w lead lag A a b r).0 in
      let f = resend (side w1 B).rows (pair_of setup B) (side w1 B).clock in
      ⊎_elim (λ (z : SealsAs (pair_of setup B) a.state P (f a.state)). inl (made setup fits w lead lag A a b r (At B Resend) Nothing f P tt refl z awake may))
      (λ (z : (f a.state ≡ Quiet) × Q). inr (rested setup fits w lead lag A a b r (At B Resend) Nothing f tt refl refl z.0, z.1))
      (m (side w1 B).rows (side w1 B).clock (one.keyed.sends B))
