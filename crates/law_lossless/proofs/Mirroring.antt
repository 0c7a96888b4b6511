-- Two stacks that hold the ends of a link go on as the link does.
use Rattle.std.proofs.Common.{◌≡◌, ℕ, false, List, [], ◌∷◌, Option, Some, refl, sym, ap, ◌∙◌, subst}
use Rattle.book_base.specs.declared.address.Pair.{Pair}
use Rattle.book_base.specs.declared.address.Socket.{Socket}
use Rattle.book_base.specs.declared.end.End.{End}
use Rattle.book_base.specs.declared.end.End.TheVariants.{A, B}
use Rattle.book_segments.specs.Segments.{Segment, Reading, Read, spell, pair_reached}
use Rattle.book_keys.specs.Rows.{Row}
use Rattle.book_endpoint.specs.States.{EndState}
use Rattle.book_endpoint.specs.Arrivals.{Arrived, arrive}
use Rattle.book_endpoint.specs.Emissions.{Emission, Emitted, Quiet, NoKey, Emits, is_syn_sent, emit}
use Rattle.book_link.specs.declared.event.Event.TheVariants.{At as AtEnd}
use Rattle.book_link.specs.declared.event.Action.TheVariants.{Deliver, Send, Take}
use Rattle.book_link.specs.Outcomes.{Outcome, Sent, Idle, WithoutKey}
use Rattle.book_link.specs.Worlds.{other, Setup, pair_of, Session, Made, Happening, Making, World, side, live, segment_named}
use Rattle.book_link.specs.Steps.{Act, add, acted, on_live, made_of, sent, come, took, deliver, step, view_of}
use Rattle.book_link.specs.Runs.{run_from}
use Rattle.book_stack.specs.Calls.{At, Input, Output, CallAnswer, Hands, Rests, call}
use Rattle.book_stack.specs.Stacks.{StackState, handed}
use Rattle.book_cmd_node.specs.declared.node.Act.TheVariants as act
use Rattle.law_link.specs.Laws.{SetupFits}
use Rattle.law_link.proofs.Invariant.{wired}
use Rattle.law_link.proofs.Running.{named_ok}
use Rattle.law_link.proofs.Sessions.{both}
use Rattle.law_progress.specs.Progress.{delivering, turn_events}
use Rattle.law_progress.proofs.Acting.{instead, Acted, act_live}
use Rattle.law_progress.proofs.Facts.{Facts}
use Rattle.law_progress.proofs.Finishing.{named_last}
use Rattle.law_progress.proofs.Kept.{facts_step}
use Rattle.law_progress.proofs.Turning.{all_taken}
use Rattle.law_stack.proofs.Handed.{handed_well, taken_alike}
use Rattle.law_lossless.specs.Lossless.{speaking}
use Rattle.law_lossless.specs.Meeting.{Stacks, stack_at, with_stack, called_stack, user_takes, comes_to, stack_speaks}
use Rattle.law_lossless.proofs.Calling.{Has, answer_of, state_of, take_has, take_line, output_has, input_has}
use Rattle.law_lossless.proofs.Greetings.{PlainIf, emits_plain}

-- ---- what stands for what

has_moved : (now : ℕ) (pair : Pair) (rows rows2 : List Row) (clock clock2 : ℕ) (s : StackState) (u : EndState) → rows2 ≡ rows → clock2 ≡ clock → Has now pair rows clock s u → Has now pair rows2 clock2 s u
has_moved now pair rows rows2 clock clock2 s u e f h = record {
  rows_are = h.rows_are ∙ sym e;
  clock_is = h.clock_is ∙ sym f;
  time = h.time;
  held = h.held;
  line = h.line;
  some = h.some;
  few = h.few;
  both = h.both;
  none = h.none;
}

-- the stacks hold the live sessions of the link
pub record Mirrors (setup : Setup) (w : World) (now : ℕ) (s : Stacks) (ses : End → Session) : Type 0 where
  pub facts : Facts setup w
  pub lives : (e : End) → live (side w e).sessions ≡ Some (ses e)
  pub has : (e : End) → Has now (pair_of setup e) (side w e).rows (side w e).clock (stack_at s e) (ses e).state

pairs_so : (a b c d : Socket) → a ≡ c → b ≡ d → (let p : Pair = record { local = a; remote = b } in p) ≡ record { local = c; remote = d }
pairs_so a b c d e f = ap (λ (x : Socket). let p : Pair = record { local = x; remote = b } in p) e ∙ ap (λ (x : Socket). let p : Pair = record { local = c; remote = x } in p) f

module _ (setup : Setup) (fits : SetupFits setup) (now : ℕ) where
  -- a call at an end, and one at its stack
  mirrors_act : (w v : World) (s : Stacks) (ses : End → Session) (x : End) (u : Session) (happened : Option Happening) (t : StackState) → Mirrors setup w now s ses → Acted w x u happened v → Facts setup v
      → Has now (pair_of setup x) (side w x).rows (side w x).clock t u.state → Mirrors setup v now (with_stack s x t) (instead x u ses)
  mirrors_act w v s ses A u happened t h acts facts new = record {
    facts = facts;
    lives = acts.lives ses h.lives;
    has = both (λ e. Has now (pair_of setup e) (side v e).rows (side v e).clock (stack_at (with_stack s A t) e) (instead A u ses e).state)
        (has_moved now (pair_of setup A) (side w A).rows (side v A).rows (side w A).clock (side v A).clock t u.state (acts.rows A) (acts.clock A) new)
        (has_moved now (pair_of setup B) (side w B).rows (side v B).rows (side w B).clock (side v B).clock s.b (ses B).state (acts.rows B) (acts.clock B) (h.has B));
  }
  mirrors_act w v s ses B u happened t h acts facts new = record {
    facts = facts;
    lives = acts.lives ses h.lives;
    has = both (λ e. Has now (pair_of setup e) (side v e).rows (side v e).clock (stack_at (with_stack s B t) e) (instead B u ses e).state)
        (has_moved now (pair_of setup A) (side w A).rows (side v A).rows (side w A).clock (side v A).clock s.a (ses A).state (acts.rows A) (acts.clock A) (h.has A))
        (has_moved now (pair_of setup B) (side w B).rows (side v B).rows (side w B).clock (side v B).clock t u.state (acts.rows B) (acts.clock B) new);
  }

  -- a user takes
  pub mirrors_take : (w : World) (s : Stacks) (ses : End → Session) (x : End) → Mirrors setup w now s ses → Mirrors setup (step setup w (AtEnd x (Take 65535))).world now (user_takes setup x s) (instead x (all_taken (ses x)) ses)
  mirrors_take w s ses x h =
      let k = h.has x in
      mirrors_act w (step setup w (AtEnd x (Take 65535))).world s ses x (all_taken (ses x)) _ (call (At (pair_of setup x) (act.Take 65535)) (stack_at s x)).stack h (act_live w x (took 65535) (ses x) (h.lives x)).0
      (facts_step setup fits w (AtEnd x (Take 65535)) tt h.facts)
      (take_has now (pair_of setup x) (side w x).rows (side w x).clock (stack_at s x) (ses x).state k 65535)

  -- after both users took, the end stands in line
  line_now : (w : World) (s : Stacks) (ses : End → Session) (x : End) → Mirrors setup w now s ses → (stack_at (user_takes setup (other x) (user_takes setup x s)) x).line ≡ pair_of setup x ∷ []
  line_now w s ses A h = take_line now (pair_of setup A) (side w A).rows (side w A).clock s.a (ses A).state (h.has A) 65535
  line_now w s ses B h = take_line now (pair_of setup B) (side w B).rows (side w B).clock s.b (ses B).state (h.has B) 65535

  -- ---- the end sends

  -- a segment of an end reaches the other one's pair
  reaches : (e : End) (d f : Segment) → d ≡ f → f.source ≡ (pair_of setup e).local → f.destination ≡ (pair_of setup e).remote → pair_reached d ≡ pair_of setup (other e)
  reaches A d f is from to = ap pair_reached is ∙ pairs_so f.destination f.source (pair_of setup A).remote (pair_of setup A).local to from
  reaches B d f is from to = ap pair_reached is ∙ pairs_so f.destination f.source (pair_of setup B).remote (pair_of setup B).local to from

  module _ (w : World) (s : Stacks) (ses : End → Session) (e : End) (h : Mirrors setup w now s ses) (line : (stack_at s e).line ≡ pair_of setup e ∷ []) (plain : is_syn_sent (ses e).state.phase ≡ false) where
    abbrev makes : Emitted
    makes = emit (side w e).rows (pair_of setup e) (side w e).clock (ses e).state

    abbrev sends : EndState → Act
    sends u = sent (view_of setup w e) u Idle (emit (side w e).rows (pair_of setup e) (side w e).clock u)

    abbrev w3 : World
    w3 = (step setup w (AtEnd e Send)).world

    facts3 : Facts setup w3
    facts3 = facts_step setup fits w (AtEnd e Send) tt h.facts

    -- the world and the stacks once the end has spoken
    abbrev v : World
    v = run_from setup w (AtEnd e Send ∷ delivering (other e) (step setup w (AtEnd e Send)).outcome)

    abbrev spoken : Stacks
    spoken = comes_to now (other e) (call (Output now) (stack_at s e)).answer (called_stack e (Output now) s)

    live_act : Acted w e (acted (ses e) (sends (ses e).state)) (sends (ses e).state).happened (on_live w e sends).world × ((on_live w e sends).outcome ≡ (sends (ses e).state).outcome)
    live_act = act_live w e sends (ses e) (h.lives e)

    state_so : (r : Emitted) → state_of (ses e).state r ≡ (sent (view_of setup w e) (ses e).state Idle r).state
    state_so Quiet = refl
    state_so NoKey = refl
    state_so (Emits em) = refl

    asked : ((call (Output now) (stack_at s e)).answer ≡ answer_of makes) × Has now (pair_of setup e) (side w e).rows (side w e).clock (call (Output now) (stack_at s e)).stack (state_of (ses e).state makes)
    asked = output_has now (pair_of setup e) (side w e).rows (side w e).clock (stack_at s e) (ses e).state (h.has e) makes line refl

    mirrors3 : Mirrors setup w3 now (called_stack e (Output now) s) (instead e (acted (ses e) (sends (ses e).state)) ses)
    mirrors3 =
        mirrors_act w w3 s ses e (acted (ses e) (sends (ses e).state)) (sends (ses e).state).happened (call (Output now) (stack_at s e)).stack h live_act.0 facts3
        (subst (Has now (pair_of setup e) (side w e).rows (side w e).clock (call (Output now) (stack_at s e)).stack) (state_so makes) asked.1)

    abbrev Goes : Type 0
    Goes = (sessions : End → Session) × Mirrors setup v now spoken sessions

    silent : (o : Outcome) (answer : CallAnswer) → (sends (ses e).state).outcome ≡ o → delivering (other e) o ≡ [] → (call (Output now) (stack_at s e)).answer ≡ answer → comes_to now (other e) answer (called_stack e (Output now) s) ≡ called_stack e (Output now) s → Goes
    silent o answer is nothing answers stays =
        let w_is : w3 ≡ v = ap (run_from setup w3) (sym (ap (delivering (other e)) (live_act.1 ∙ is) ∙ nothing)) in
        let s_is : called_stack e (Output now) s ≡ spoken = sym (ap (λ (a : CallAnswer). comes_to now (other e) a (called_stack e (Output now) s)) answers ∙ stays) in
        (instead e (acted (ses e) (sends (ses e).state)) ses, subst (λ (x : World). Mirrors setup x now spoken (instead e (acted (ses e) (sends (ses e).state)) ses)) w_is (subst (λ (x : Stacks). Mirrors setup w3 now x (instead e (acted (ses e) (sends (ses e).state)) ses)) s_is mirrors3))

    loud : (em : Emission) → makes ≡ Emits em → Goes
    loud em is =
        let y = other e in
        let made = made_of (view_of setup w e) (ses e).state em in
        let s3 = called_stack e (Output now) s in
        let ses3 = instead e (acted (ses e) (sends (ses e).state)) ses in
        let act_is : sends (ses e).state ≡ sent (view_of setup w e) (ses e).state Idle (Emits em) = ap (sent (view_of setup w e) (ses e).state Idle) is in
        let outcome : (step setup w (AtEnd e Send)).outcome ≡ Sent made = live_act.1 ∙ ap (λ (k : Act). k.outcome) act_is in
        let history : w3.history ≡ Making made ∷ w.history = live_act.0.history ∙ ap (λ (k : Act). add k.happened w.history) act_is in
        let named : segment_named made.name w3.history ≡ Some made = ap (segment_named made.name) history ∙ named_last made w.history in
        let ok = named_ok setup fits w3 made.name w3.history made facts3.inv.made named in
        let wire = wired setup ok.session.state made ok.by fits in
        let d = em.segment in
        let w4 = (step setup w3 (AtEnd y (Deliver made.name))).world in
        let come_is : (on_live w3 y (come made.bytes (view_of setup w3 y))).world ≡ w4 = ap (λ (o : Option Made). (deliver setup w3 y o).world) (sym named) in
        let w_is : w4 ≡ v = ap (λ (o : Outcome). run_from setup w3 (delivering y o)) (sym outcome) in
        let u = ses3 y in
        let heard = acted u (come made.bytes (view_of setup w3 y) u.state) in
        let acts = subst (Acted w3 y heard (come made.bytes (view_of setup w3 y) u.state).happened) come_is (act_live w3 y (come made.bytes (view_of setup w3 y)) u (mirrors3.lives y)).0 in
        let k = mirrors3.has y in
        let t = stack_at s3 y in
        let bytes = spell (handed d) in
        let well = handed_well d wire.fits in
        let rows = (side w3 y).rows in
        let clock = (side w3 y).clock in
        let from = ok.by.emission in
        let to : pair_reached (handed d) ≡ pair_of setup y = reaches e d _ (ap (λ (x : Emission). x.segment) from) refl refl in
        let unsyn : PlainIf (Emits em) = subst PlainIf is (emits_plain (side w e).rows (pair_of setup e) (side w e).clock (ses e).state plain) in
        let came = input_has now (pair_of setup y) rows clock t u.state k bytes (handed d) well.read to unsyn in
        let same : (arrive rows (pair_of setup y) clock u.state (Read (handed d))).state ≡ heard.state =
        ap (λ (r : Reading). (arrive rows (pair_of setup y) clock u.state r).state) (sym well.read) ∙ ap (λ (x : Arrived). x.state) (taken_alike d wire.fits rows (pair_of setup y) clock u.state) in
        let facts4 = facts_step setup fits w3 (AtEnd y (Deliver made.name)) tt facts3 in
        let all : Mirrors setup w4 now (with_stack s3 y (call (Input (record { now = now; bytes = bytes })) t).stack) (instead y heard ses3) =
        mirrors_act w3 w4 s3 ses3 y heard (come made.bytes (view_of setup w3 y) u.state).happened (call (Input (record { now = now; bytes = bytes })) t).stack mirrors3 acts facts4
        (subst (Has now (pair_of setup y) rows clock (call (Input (record { now = now; bytes = bytes })) t).stack) same came) in
        let answers : (call (Output now) (stack_at s e)).answer ≡ Hands em = asked.0 ∙ ap answer_of is in
        let s_is : with_stack s3 y (call (Input (record { now = now; bytes = bytes })) t).stack ≡ spoken = sym (ap (λ (a : CallAnswer). comes_to now y a s3) answers) in
        (instead y heard ses3, subst (λ (x : World). Mirrors setup x now spoken (instead y heard ses3)) w_is (subst (λ (x : Stacks). Mirrors setup w4 now x (instead y heard ses3)) s_is all))

    goes : Goes
    goes = by_case makes refl
      where
        by_case : (r : Emitted) → makes ≡ r → Goes
        by_case Quiet is = silent Idle Rests (ap (λ (r : Emitted). (sent (view_of setup w e) (ses e).state Idle r).outcome) is) refl (asked.0 ∙ ap answer_of is) refl
        by_case NoKey is = silent WithoutKey Rests (ap (λ (r : Emitted). (sent (view_of setup w e) (ses e).state Idle r).outcome) is) refl (asked.0 ∙ ap answer_of is) refl
        by_case (Emits em) is = loud em is

  speak_world : (w : World) (e : End) → let w2 = (step setup (step setup w (AtEnd e (Take 65535))).world (AtEnd (other e) (Take 65535))).world in run_from setup w (speaking setup w e) ≡ run_from setup w2 (AtEnd e Send ∷ delivering (other e) (step setup w2 (AtEnd e Send)).outcome)
  unfolding speaking turn_events
  speak_world w e = refl

  phase_kept : (ses : End → Session) (e : End) → is_syn_sent (ses e).state.phase ≡ false → is_syn_sent (instead (other e) (all_taken (instead e (all_taken (ses e)) ses (other e))) (instead e (all_taken (ses e)) ses) e).state.phase ≡ false
  phase_kept ses A off = off
  phase_kept ses B off = off

  pub mirrors_speak : (w : World) (s : Stacks) (ses : End → Session) (e : End) → Mirrors setup w now s ses → is_syn_sent (ses e).state.phase ≡ false
      → (sessions : End → Session) × Mirrors setup (run_from setup w (speaking setup w e)) now (stack_speaks setup now e s) sessions
  mirrors_speak w s ses e h off =
      let w1 = (step setup w (AtEnd e (Take 65535))).world in
      let w2 = (step setup w1 (AtEnd (other e) (Take 65535))).world in
      let s1 = user_takes setup e s in
      let s2 = user_takes setup (other e) s1 in
      let ses1 = instead e (all_taken (ses e)) ses in
      let ses2 = instead (other e) (all_taken (ses1 (other e))) ses1 in
      let one = mirrors_take w s ses e h in
      let two = mirrors_take w1 s1 ses1 (other e) one in
      subst (λ (v : World). (sessions : End → Session) × Mirrors setup v now (stack_speaks setup now e s) sessions) (sym (speak_world w e)) (goes w2 s2 ses2 e two (line_now w s ses e h) (phase_kept ses e off))
