-- Where ends are in step they stay so, and all is delivered.
use Rattle.std.proofs.Common.{◌≡◌, ℕ, ◌+◌, ◌≤◌, true, List, [], ◌∷◌, ◌++◌, length, ◌⊎◌, inl, inr, ⊎_elim, refl, sym, subst, arith}
use Rattle.std.specs.List.{AllByRecursion}
use Rattle.book_base.specs.declared.end.End.{End}
use Rattle.book_base.specs.declared.end.End.TheVariants.{A, B}
use Rattle.book_endpoint.specs.States.{EndState}
use Rattle.book_link.specs.declared.event.Event.{Event}
use Rattle.book_link.specs.Runs.{run, run_from}
use Rattle.book_link.specs.Worlds.{other, Setup, Session, World}
use Rattle.law_link.specs.Headline.{GivesFew}
use Rattle.law_link.specs.Laws.{SetupFits, TablesFit, EventFits}
use Rattle.law_link.proofs.Sessions.{both}
use Rattle.law_progress.specs.Progress.{all_end, IsUp, IsSame, CaughtUp, takings}
use Rattle.law_progress.proofs.Facts.{Facts, Ends}
use Rattle.law_progress.proofs.Kept.{run_facts}
use Rattle.law_progress.proofs.Opened.{BothOpen}
use Rattle.law_progress.proofs.Progressing.{run_append}
use Rattle.law_progress.proofs.Trips.{Over, same_then}
use Rattle.law_progress.proofs.Turning.{Two, near_ends, far_ends}
use Rattle.law_lossless.specs.Lossless.{conversation, Round, speakers, IsInStep, AreInStep, StaysInStep, KeepStep, DeliverAll}
use Rattle.law_lossless.proofs.Speaking.{Step}
use Rattle.law_lossless.proofs.Conversing.{said, said_round, round_of, same_all, over_said, over_as, Rounded, one_round, Talked, talks}
use Rattle.law_lossless.proofs.Staying.{Keeping, keeps}
use Rattle.law_progress.proofs.Taking.{Settled, takes_all}

step_of : (s t : EndState) → IsInStep s t → Step s t
step_of s t h =
    let is = h.received in
    record { received = omega arith; acknowledged = ⊎_elim (λ (e : s.una ≡ s.next). inl (omega arith)) (λ (e : t.ack_owed ≡ true). inr e) h.acknowledged; window = h.window }

in_step_of : (s t : EndState) → Ends s t → Step s t → IsInStep s t
in_step_of s t h k =
    let low = k.received in
    let high = h.sent in
    let una = h.numbers.una in
    record { received = omega arith; acknowledged = ⊎_elim (λ (e : s.next ≤ s.una). inl (omega arith)) (λ (e : t.ack_owed ≡ true). inr e) k.acknowledged; window = k.window }

module _ (setup : Setup) (fits : SetupFits setup) (w : World) (lead lag : ℕ) (facts : Facts setup w) (few : GivesFew w) (up : IsUp setup w lead lag) (steps : AreInStep setup w lead lag up) where
  abbrev opened : BothOpen setup w lead lag
  opened = record {
    session = up.session;
    lives = up.lives;
    partners = up.partners;
    opened = steps.opened;
    keyed = up.keyed.sends;
    aligned = up.keyed.aligned;
    early = up.keyed.early;
    late = up.keyed.late;
    unforged = up.keyed.unforged;
  }

  pub both_up : Two setup w lead lag B (up.session A) (up.session B)
  both_up = record { facts = facts; few = few; up = opened; far = refl; near = refl }

  pub step_a : Step (up.session A).state (up.session B).state
  step_a = step_of (up.session A).state (up.session B).state (steps.steps A)

  pub step_b : Step (up.session B).state (up.session A).state
  step_b = step_of (up.session B).state (up.session A).state (steps.steps B)

  -- ---- in step throughout

  kept_of : (v : World) → Keeping setup v lead lag (up.session A).state (up.session B).state → StaysInStep setup w v lead lag up
  kept_of v (inl r) =
      let sessions = r.two.up.session in
      let far = r.two.far in
      let near = r.two.near in
      let one : IsInStep r.here.state r.there.state = in_step_of r.here.state r.there.state (far_ends setup v lead lag B r.here r.there r.two) r.step_here in
      let two : IsInStep r.there.state r.here.state = in_step_of r.there.state r.here.state (near_ends setup v lead lag B r.here r.there r.two) r.step_there in
      record {
        after = record {
          session = sessions;
          lives = r.two.up.lives;
          same = both (λ e. IsSame (up.session e).state (sessions e).state) (subst (λ (s : Session). IsSame (up.session A).state s.state) (sym far) r.same_here) (subst (λ (s : Session). IsSame (up.session B).state s.state) (sym near) r.same_there);
        };
        steps = inl (both (λ e. IsInStep (sessions e).state (sessions (other e)).state)
            (subst (λ (s : Session). IsInStep s.state (sessions B).state) (sym far) (subst (λ (s : Session). IsInStep r.here.state s.state) (sym near) one))
            (subst (λ (s : Session). IsInStep s.state (sessions A).state) (sym near) (subst (λ (s : Session). IsInStep r.there.state s.state) (sym far) two)));
      }
  kept_of v (inr o) = record {
    after = record { session = o.over.session; lives = o.over.lives; same = both (λ e. IsSame (up.session e).state (o.over.session e).state) o.here o.there };
    steps = inr o.over.all;
  }

  keep_step : (ends : List End) → StaysInStep setup w (run_from setup w (conversation setup w ends)) lead lag up
  keep_step ends = kept_of (said setup w ends) (keeps setup fits w lead lag ends (up.session A) (up.session B) both_up step_a step_b)

  -- ---- all is delivered

  settled : (v : World) (n k : ℕ) (a1 b1 : EndState) → IsSame (up.session A).state a1 → IsSame (up.session B).state b1 → (up.session A).state.next ≤ a1.next → (up.session B).state.next ≤ b1.next
      → ((e : End) → all_end (up.session e).state ≤ (up.session e).state.next + n) → n + 1 ≤ k → Talked setup v lead lag a1 b1 k → Settled setup v lead lag (up.session A).state (up.session B).state
  settled v n k a1 b1 same_a same_b up_a up_b low long r =
      let low_a = low A in
      let low_b = low B in
      let here = r.all_here in
      let there = r.all_there n long in
      let end_a = same_all (up.session A).state a1 same_a in
      let end_b = same_all (up.session B).state b1 same_b in
      let end_here = same_all a1 r.here.state r.same_here in
      let end_there = same_all b1 r.there.state r.same_there in
      record {
        here = r.here;
        there = r.there;
        two = r.two;
        same_here = same_then (up.session A).state a1 r.here.state same_a r.same_here;
        same_there = same_then (up.session B).state b1 r.there.state same_b r.same_there;
        all_here = omega arith;
        all_there = omega arith;
      }

  all_settled : (n : ℕ) (rounds : List Round) → ((e : End) → all_end (up.session e).state ≤ (up.session e).state.next + n) → n + 2 ≤ length rounds
      → Settled setup (said setup w (speakers rounds)) lead lag (up.session A).state (up.session B).state ⊎ Over setup (said setup w (speakers rounds)) A (up.session A).state (up.session B).state
  all_settled n [] low long = absurd (omega arith)
  all_settled n (r ∷ rounds) low long =
      let a = up.session A in
      let b = up.session B in
      let v = said setup w (round_of r) in
      let u = said setup v (speakers rounds) in
      let k = length rounds in
      let P : World → Type 0 = λ x. Settled setup x lead lag a.state b.state ⊎ Over setup x A a.state b.state in
      subst P (sym (said_round setup w r rounds))
      (⊎_elim
      (λ (p : Rounded setup v lead lag a.state b.state).
      let goal : P u =
      ⊎_elim (λ (q : Talked setup u lead lag p.here.state p.there.state k). inl (settled u n k p.here.state p.there.state p.same_here p.same_there p.next_here p.next_there low (omega arith) q))
      (λ (o : Over setup u A p.here.state p.there.state). inr (over_as setup u A a.state b.state p.here.state p.there.state p.same_here p.same_there o))
      (talks setup fits v lead lag rounds p.here p.there p.two p.step_here p.step_there p.acked) in goal)
      (λ (o : Over setup v A a.state b.state). let goal : P u = inr (over_said setup fits v (speakers rounds) A a.state b.state o) in goal)
      (one_round setup fits w lead lag r a b both_up step_a step_b))

  deliver_all : (n : ℕ) (rounds : List Round) → ((e : End) → all_end (up.session e).state ≤ (up.session e).state.next + n) → n + 2 ≤ length rounds
      → CaughtUp setup w (run_from setup w (conversation setup w (speakers rounds) ++ takings)) lead lag up
  deliver_all n rounds low long =
      let is = run_append setup w (conversation setup w (speakers rounds)) takings in
      subst (λ (x : World). CaughtUp setup w x lead lag up) (sym is) (takes_all setup fits w (said setup w (speakers rounds)) lead lag up (all_settled n rounds low long))

pub keeps_step : (setup : Setup) (fits : SetupFits setup) (tables : TablesFit setup) (events : List Event) → AllByRecursion EventFits events → GivesFew (run setup events) → KeepStep setup (run setup events)
keeps_step setup fits tables events f few lead lag ends up steps = keep_step setup fits (run setup events) lead lag (run_facts setup fits tables events f) few up steps ends

pub delivers_all : (setup : Setup) (fits : SetupFits setup) (tables : TablesFit setup) (events : List Event) → AllByRecursion EventFits events → GivesFew (run setup events) → DeliverAll setup (run setup events)
delivers_all setup fits tables events f few lead lag n rounds up steps low long = deliver_all setup fits (run setup events) lead lag (run_facts setup fits tables events f) few up steps n rounds low long
