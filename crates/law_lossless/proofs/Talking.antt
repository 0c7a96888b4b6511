-- Two stacks that hold the ends of a link in step deliver all.
use Rattle.std.proofs.Common.{◌≡◌, ℕ, true, false, List, [], ◌∷◌, ◌++◌, Some, inl, inr, refl, sym, ap, ◌∙◌, subst, arith}
use Rattle.std.specs.List.{AllByRecursion}
use Rattle.book_base.specs.declared.address.Pair.{Pair}
use Rattle.book_base.specs.declared.end.End.{End}
use Rattle.book_base.specs.declared.end.End.TheVariants.{A, B}
use Rattle.book_segments.proofs.Fields.{some_is}
use Rattle.book_keys.specs.Rows.{Row}
use Rattle.book_endpoint.specs.declared.phase.Phase.{Phase}
use Rattle.book_endpoint.specs.declared.phase.Phase.TheVariants.{Listen, SynSent, SynReceived, Established, FinWait1, FinWait2, CloseWait, Closing, LastAck, TimeWait, Closed}
use Rattle.book_endpoint.specs.States.{EndState}
use Rattle.book_endpoint.specs.Emissions.{is_syn_sent}
use Rattle.book_link.specs.declared.event.Event.{Event}
use Rattle.book_link.specs.declared.event.Event.TheVariants.{At}
use Rattle.book_link.specs.declared.event.Action.TheVariants.{Take}
use Rattle.book_link.specs.Worlds.{Setup, pair_of, Session, World, side, live}
use Rattle.book_link.specs.Steps.{step}
use Rattle.book_link.specs.Runs.{run, run_from}
use Rattle.book_stack.specs.Calls.{Call, call}
use Rattle.book_stack.specs.Runs.{stack_after}
use Rattle.book_stack.specs.Stacks.{StackState, empty_stack}
use Rattle.law_link.specs.Headline.{GivesFew}
use Rattle.law_link.specs.Laws.{SetupFits, TablesFit, EventFits}
use Rattle.law_progress.specs.Progress.{is_open, all_end, CaughtUp, takings}
use Rattle.law_progress.proofs.Calm.{Calm}
use Rattle.law_progress.proofs.Facts.{live_all}
use Rattle.law_progress.proofs.Kept.{run_facts}
use Rattle.law_progress.proofs.Progressing.{run_append}
use Rattle.law_progress.proofs.Turning.{all_taken}
use Rattle.law_progress.proofs.Acting.{instead}
use Rattle.law_stack.proofs.Called.{call_steps}
use Rattle.law_stack.proofs.Timed.{TidyRings, empty_rings, run_rings}
use Rattle.law_lossless.specs.Lossless.{speaking, conversation, speakers}
use Rattle.law_lossless.proofs.Conversing.{said, said_none, said_more, over_spoken}
use Rattle.law_lossless.proofs.Staying.{one_keeps, Stepping, Keeping}
use Rattle.law_lossless.proofs.Delivering.{both_up, delivers_all, step_a, step_b}
use Rattle.law_lossless.specs.Meeting.{Stacks, stack_at, user_takes, stack_speaks, stacks_talk, GoesOnce, Holds, StacksDeliver}
use Rattle.law_lossless.proofs.Calling.{Has}
use Rattle.law_lossless.proofs.Mirroring.{Mirrors, mirrors_speak, mirrors_take}
use Rattle.law_lossless.proofs.Going.{GoesBy, all_goes}
use Rattle.law_lossless.proofs.Once.{all_ahead, calls_once}

-- ---- nobody is in SYN-SENT

open_no_syn : (phase : Phase) → is_open phase ≡ true → is_syn_sent phase ≡ false
open_no_syn Listen o = refl
open_no_syn SynSent o = absurd (cc)
open_no_syn SynReceived o = refl
open_no_syn Closed o = refl
open_no_syn Established o = refl
open_no_syn FinWait1 o = refl
open_no_syn FinWait2 o = refl
open_no_syn CloseWait o = refl
open_no_syn Closing o = refl
open_no_syn LastAck o = refl
open_no_syn TimeWait o = refl

acked_no_syn : (s : EndState) (phase : Phase) → s.phase ≡ phase → Calm s → s.una ≡ all_end s → is_syn_sent phase ≡ false
acked_no_syn s SynSent is calm all = let low = calm.oldest (rw is refl) in absurd (omega (arith, low, all))
acked_no_syn s Listen is calm all = refl
acked_no_syn s SynReceived is calm all = refl
acked_no_syn s Closed is calm all = refl
acked_no_syn s Established is calm all = refl
acked_no_syn s FinWait1 is calm all = refl
acked_no_syn s FinWait2 is calm all = refl
acked_no_syn s CloseWait is calm all = refl
acked_no_syn s Closing is calm all = refl
acked_no_syn s LastAck is calm all = refl
acked_no_syn s TimeWait is calm all = refl

module _ (setup : Setup) (fits : SetupFits setup) (lead lag now : ℕ) where
  no_syn : (w : World) (a b : EndState) (ses : End → Session) → ((e : End) → live (side w e).sessions ≡ Some (ses e)) → Keeping setup w lead lag a b → (e : End) → is_syn_sent (ses e).state.phase ≡ false
  no_syn w a b ses lives (inl r) e =
      let same : r.two.up.session e ≡ ses e = some_is (r.two.up.session e) (ses e) (sym (r.two.up.lives e) ∙ lives e) in
      subst (λ (x : Session). is_syn_sent x.state.phase ≡ false) same (open_no_syn (r.two.up.session e).state.phase (r.two.up.opened e))
  no_syn w a b ses lives (inr o) e =
      let over = o.over in
      let s = over.session e in
      let same : s ≡ ses e = some_is s (ses e) (sym (over.lives e) ∙ lives e) in
      let calm = live_all (λ (x : Session). Calm x.state) (side w e).sessions s (over.lives e) (over.facts.calm e) in
      subst (λ (x : Session). is_syn_sent x.state.phase ≡ false) same (acked_no_syn s.state s.state.phase refl calm (over.all e))

  -- both go on so, whoever speaks
  goes_on : (w : World) (a b : EndState) (e : End) → Keeping setup w lead lag a b → (c : EndState) × (d : EndState) × Keeping setup (run_from setup w (speaking setup w e)) lead lag c d
  goes_on w a b e (inl r) = (r.here.state, r.there.state, one_keeps setup fits w lead lag e r.here r.there r.two r.step_here r.step_there)
  goes_on w a b e (inr o) = (a, b, inr (over_spoken setup fits w e A a b o))

  talk : (ends : List End) (w : World) (s : Stacks) (ses : End → Session) (a b : EndState) → Keeping setup w lead lag a b → Mirrors setup w now s ses → (sessions : End → Session) × Mirrors setup (said setup w ends) now (stacks_talk setup now ends s) sessions
  talk [] w s ses a b k h = (ses, subst (λ (v : World). Mirrors setup v now s ses) (sym (said_none setup w)) h)
  talk (e ∷ ends) w s ses a b k h =
      let v = run_from setup w (speaking setup w e) in
      let t = stack_speaks setup now e s in
      let one = mirrors_speak setup fits now w s ses e h (no_syn w a b ses h.lives k e) in
      let next = goes_on w a b e k in
      subst (λ (x : World). (sessions : End → Session) × Mirrors setup x now (stacks_talk setup now ends t) sessions) (sym (said_more setup w e ends)) (talk ends v t one.0 next.0 next.1 next.2 one.1)

-- ---- how it begins

most_same : (s : StackState) (calls : List Call) → (stack_after s calls).most ≡ s.most
most_same s [] = refl
most_same s (c ∷ cs) = most_same (call c s).stack cs ∙ (call_steps c s).most

has_of : (setup : Setup) (w : World) (now : ℕ) (e : End) (s : StackState) (u : EndState) → Holds setup w now e s u → Has now (pair_of setup e) (side w e).rows (side w e).clock s u
has_of setup w now e s u h =
    let r = h.run in
    let most : s.most ≡ r.most = ap (λ (t : StackState). t.most) r.is ∙ most_same (empty_stack r.rows r.most) r.calls in
    let some = r.some in
    let few = r.few in
    let rings : TidyRings s = subst TidyRings (sym r.is) (run_rings (empty_stack r.rows r.most) r.calls r.few (empty_rings r.rows r.most)) in
    record {
      rows_are = h.rows;
      clock_is = h.clock;
      time = h.time;
      held = h.held;
      line = h.line;
      some = omega arith;
      few = omega arith;
      both = rings;
      none = all_ahead now s rings.rings h.none;
    }

-- calls at a time at which no timer has expired send nothing again
once_of : (now : ℕ) (pair : Pair) (rows : List Row) (clock : ℕ) (s : StackState) (u : EndState) → Has now pair rows clock s u → (t : StackState) → GoesBy now s t → GoesOnce now s t
once_of now pair rows clock s u h t g = record { calls = g.0; at = g.1; is = g.2; once = (calls_once now s g.0 h.few g.1 h.both h.none).once }

pub stacks_deliver : (setup : Setup) (fits : SetupFits setup) (tables : TablesFit setup) (events : List Event) → AllByRecursion EventFits events → GivesFew (run setup events) → StacksDeliver setup (run setup events)
stacks_deliver setup fits tables events f few lead lag n now rounds s up steps holds low long =
    let w = run setup events in
    let facts = run_facts setup fits tables events f in
    let a = up.session A in
    let b = up.session B in
    let start : Stepping setup w lead lag a.state b.state = record {
      here = a;
      there = b;
      two = both_up setup fits w lead lag facts few up steps;
      same_here = record { isn = refl; given = refl; closing = refl };
      same_there = record { isn = refl; given = refl; closing = refl };
      step_here = step_a setup fits w lead lag facts few up steps;
      step_there = step_b setup fits w lead lag facts few up steps;
    } in
    let h : Mirrors setup w now s up.session = record { facts = facts; lives = up.lives; has = λ e. has_of setup w now e (stack_at s e) (up.session e).state (holds e) } in
    let v = said setup w (speakers rounds) in
    let t = stacks_talk setup now (speakers rounds) s in
    let talked = talk setup fits lead lag now (speakers rounds) w s up.session a.state b.state (inl start) h in
    let one = mirrors_take setup fits now v t talked.0 A talked.1 in
    let v1 = (step setup v (At A (Take 65535))).world in
    let ses1 = instead A (all_taken (talked.0 A)) talked.0 in
    let two = mirrors_take setup fits now v1 (user_takes setup A t) ses1 B one in
    let v2 = (step setup v1 (At B (Take 65535))).world in
    let ses2 = instead B (all_taken (ses1 B)) ses1 in
    let is : run_from setup w (conversation setup w (speakers rounds) ++ takings) ≡ v2 = run_append setup w (conversation setup w (speakers rounds)) takings in
    let c : CaughtUp setup w v2 lead lag up = subst (λ (x : World). CaughtUp setup w x lead lag up) is (delivers_all setup fits tables events f few lead lag n rounds up steps low long) in
    let same : (e : End) → ses2 e ≡ c.after.session e = λ e. some_is (ses2 e) (c.after.session e) (sym (two.lives e) ∙ c.after.lives e) in
    record {
      after = λ e. (c.after.session e).state;
      held = λ e. (two.has e).held ∙ ap (λ (x : Session). Some x.state) (same e);
      same = c.after.same;
      once = λ e. once_of now (pair_of setup e) (side w e).rows (side w e).clock (stack_at s e) (up.session e).state (has_of setup w now e (stack_at s e) (up.session e).state (holds e)) _ (all_goes setup now (speakers rounds) e s);
      acknowledged = c.acknowledged;
      taken = c.taken;
      ended = c.ended;
    }
