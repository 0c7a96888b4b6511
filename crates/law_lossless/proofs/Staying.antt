-- Ends in step stay so, whoever speaks.
use Rattle.std.proofs.Common.{ℕ, List, [], ◌∷◌, ◌⊎◌, inl, inr, ⊎_elim, refl, sym, subst}
use Rattle.book_base.specs.declared.end.End.{End}
use Rattle.book_base.specs.declared.end.End.TheVariants.{A, B}
use Rattle.book_endpoint.specs.States.{EndState}
use Rattle.book_link.specs.Worlds.{Setup, Session, World}
use Rattle.book_link.specs.Runs.{run_from}
use Rattle.law_link.specs.Laws.{SetupFits}
use Rattle.law_progress.specs.Progress.{IsSame}
use Rattle.law_progress.proofs.Trips.{Over, same_then, flip, flip_back}
use Rattle.law_progress.proofs.Turning.{Two}
use Rattle.law_lossless.specs.Lossless.{speaking}
use Rattle.law_lossless.proofs.Conversing.{said, said_none, said_more, over_said, over_turned, over_as}
use Rattle.law_lossless.proofs.Speaking.{Step, Spoken, speaks}

-- both ends in step, of which the first is far
pub record Stepping (setup : Setup) (v : World) (lead lag : ℕ) (a b : EndState) : Type 0 where
  pub here : Session
  pub there : Session
  pub two : Two setup v lead lag B here there
  pub same_here : IsSame a here.state
  pub same_there : IsSame b there.state
  pub step_here : Step here.state there.state
  pub step_there : Step there.state here.state

abbrev pub Keeping : Setup → World → ℕ → ℕ → EndState → EndState → Type 0
Keeping setup v lead lag a b = Stepping setup v lead lag a b ⊎ Over setup v A a b

pub one_keeps : (setup : Setup) (fits : SetupFits setup) (w : World) (lead lag : ℕ) (e : End) (a b : Session) → Two setup w lead lag B a b → Step a.state b.state → Step b.state a.state
    → Keeping setup (run_from setup w (speaking setup w e)) lead lag a.state b.state
one_keeps setup fits w lead lag A a b two here there =
    let v = run_from setup w (speaking setup w A) in
    ⊎_elim
    (λ (p : Spoken setup v lead lag B a.state b.state).
    let goal : Stepping setup v lead lag a.state b.state = record { here = p.far; there = p.near; two = p.two; same_here = p.same_far; same_there = p.same_near; step_here = p.far_step; step_there = p.near_step } in inl goal)
    (λ (o : Over setup v A a.state b.state). inr o) (speaks setup fits w lead lag A a b two here there)
one_keeps setup fits w lead lag B a b two here there =
    let v = run_from setup w (speaking setup w B) in
    ⊎_elim
    (λ (p : Spoken setup v lead lag A b.state a.state).
    let goal : Stepping setup v lead lag a.state b.state = record { here = p.near; there = p.far; two = flip_back setup v lead lag A p.far p.near p.two; same_here = p.same_near; same_there = p.same_far; step_here = p.near_step; step_there = p.far_step } in inl goal)
    (λ (o : Over setup v B b.state a.state). inr (over_turned setup v a.state b.state o)) (speaks setup fits w lead lag B b a (flip setup w lead lag A a b two) there here)

pub keeps : (setup : Setup) (fits : SetupFits setup) (w : World) (lead lag : ℕ) (ends : List End) (a b : Session) → Two setup w lead lag B a b → Step a.state b.state → Step b.state a.state
    → Keeping setup (said setup w ends) lead lag a.state b.state
keeps setup fits w lead lag [] a b two here there =
    let goal : Stepping setup w lead lag a.state b.state = record {
      here = a;
      there = b;
      two = two;
      same_here = record { isn = refl; given = refl; closing = refl };
      same_there = record { isn = refl; given = refl; closing = refl };
      step_here = here;
      step_there = there;
    } in
    subst (λ (v : World). Keeping setup v lead lag a.state b.state) (sym (said_none setup w)) (inl goal)
keeps setup fits w lead lag (e ∷ ends) a b two here there =
    let v = run_from setup w (speaking setup w e) in
    let u = said setup v ends in
    subst (λ (k : World). Keeping setup k lead lag a.state b.state) (sym (said_more setup w e ends))
    (⊎_elim
    (λ (p : Stepping setup v lead lag a.state b.state).
    let goal : Keeping setup u lead lag a.state b.state =
    ⊎_elim
    (λ (q : Stepping setup u lead lag p.here.state p.there.state).
    let more : Stepping setup u lead lag a.state b.state = record {
      here = q.here;
      there = q.there;
      two = q.two;
      same_here = same_then a.state p.here.state q.here.state p.same_here q.same_here;
      same_there = same_then b.state p.there.state q.there.state p.same_there q.same_there;
      step_here = q.step_here;
      step_there = q.step_there;
    } in inl more)
    (λ (o : Over setup u A p.here.state p.there.state). inr (over_as setup u A a.state b.state p.here.state p.there.state p.same_here p.same_there o))
    (keeps setup fits v lead lag ends p.here p.there p.two p.step_here p.step_there) in goal)
    (λ (o : Over setup v A a.state b.state). let goal : Keeping setup u lead lag a.state b.state = inr (over_said setup fits v ends A a.state b.state o) in goal)
    (one_keeps setup fits w lead lag e a b two here there))
