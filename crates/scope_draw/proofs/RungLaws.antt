-- The rungs of one more event of a run.
use Rattle.std.proofs.Common.{◌≡◌, ℕ, ◌+◌, ◌<◌, ◌≤◌, List, [], ◌∷◌, ◌++◌, Option, Some, None, length, take, get_or, refl, sym, ap, ◌∙◌, subst, append_assoc}
use Rattle.std.proofs.lemmas.List.{append-nil, take_all, take_more}
use Rattle.book_base.specs.declared.end.End.TheVariants.{A, B}
use Rattle.book_endpoint.specs.declared.phase.Phase.{Phase}
use Rattle.book_draw.specs.declared.rung.Rung.{Rung}
use Rattle.book_draw.specs.Rungs.{ahead, phase_at, rung_of, rungs, rungs_at, rungs_from, turned}
use Rattle.book_link.specs.declared.event.Event.{Event}
use Rattle.book_link.specs.Runs.{empty, run, run_from}
use Rattle.book_link.specs.Steps.{step}
use Rattle.book_link.specs.Worlds.{Setup, World as Link}
use Rattle.link_world.specs.declared.world.World.{World}
use Rattle.link_world.specs.Stands.{StandsFor, steps_taken}

-- the run of one more event
pub one_more : (setup : Setup) (w : Link) (events : List Event) (e : Event) → run_from setup w (events ++ e ∷ []) ≡ (step setup (run_from setup w events) e).world
one_more setup w [] e = refl
one_more setup w (x ∷ events) e = one_more setup (step setup w x).world events e

ahead_one : (r : Option Rung) (rs : List Rung) → ahead r rs ≡ ahead r [] ++ rs
ahead_one None rs = refl
ahead_one (Some r) rs = refl

-- three rungs put behind others, one after another
pub three_rungs : (before one two after : List Rung) (r x y : Option Rung) → one ≡ before ++ ahead r [] → two ≡ one ++ ahead x [] → after ≡ two ++ ahead y [] →
    after ≡ before ++ ahead r (ahead x (ahead y []))
three_rungs before one two after r x y p q s =
    s ∙ (ap (λ (l : List Rung). l ++ ahead y []) (q ∙ ap (λ (l : List Rung). l ++ ahead x []) p)
    ∙ (append_assoc (before ++ ahead r []) (ahead x []) (ahead y [])
    ∙ (append_assoc before (ahead r []) (ahead x [] ++ ahead y [])
    ∙ ap (λ (l : List Rung). before ++ l) (sym (ahead_one r (ahead x (ahead y [])) ∙ ap (λ (l : List Rung). ahead r [] ++ l) (ahead_one x (ahead y [])))))))

-- the rungs of an event by the phases before and after
pub same_rungs : (setup : Setup) (events : List Event) (e : Event) (rung x y : Option Rung) (a b c d : Option Phase) (rs : List Rung)
    → rung ≡ rung_of e (step setup (run setup events) e).outcome → x ≡ turned A a c → y ≡ turned B b d
    → a ≡ phase_at (run setup events) A → b ≡ phase_at (run setup events) B
    → c ≡ phase_at (run setup (events ++ e ∷ [])) A → d ≡ phase_at (run setup (events ++ e ∷ [])) B
    → rs ++ ahead rung (ahead x (ahead y [])) ≡ rs ++ rungs_at setup (run setup events) e
same_rungs setup events e rung x y a b c d rs r x_is y_is a_is b_is c_is d_is =
    let world = one_more setup (empty setup) events e in
    rw (r, x_is, y_is, a_is, b_is, c_is, d_is, world) refl

-- the rungs of one more event
pub rungs_more : (setup : Setup) (w : Link) (events : List Event) (e : Event) →
    rungs_from setup w (events ++ e ∷ []) ≡ rungs_from setup w events ++ rungs_at setup (run_from setup w events) e
rungs_more setup w [] e = append-nil (rungs_at setup w e)
rungs_more setup w (x ∷ events) e =
    let now = (step setup w x).world in
    ap (λ (l : List Rung). rungs_at setup w x ++ l) (rungs_more setup now events e)
    ∙ sym (append_assoc (rungs_at setup w x) (rungs_from setup now events) (rungs_at setup (run_from setup now events) e))

-- what stands for the first events, and their rungs
pub record Drawing (world : World) (setup : Setup) (events : List Event) (n : ℕ) (rs : List Rung) : Type 0 where
  pub stands : StandsFor world setup events
  pub steps : steps_taken world ≡ n
  pub rungs : rs ≡ rungs_from setup (empty setup) events

-- those of one more event, after its step
pub one_drawn : (before after : World) (setup : Setup) (es : List Event) (i : ℕ) (e : Event) (old new : List Rung) → i < length es → e ≡ get_or es i e →
    Drawing before setup (take i es) i old →
    ((s : Setup) (events : List Event) → StandsFor before s events → StandsFor after s (events ++ e ∷ [])) →
    ((s : Setup) (events : List Event) → StandsFor before s events → new ≡ old ++ rungs_at s (run s events) e) →
    steps_taken after ≡ steps_taken before + 1 → Drawing after setup (take (i + 1) es) (i + 1) new
one_drawn before after setup es i e old new within is so_far stands more steps =
    let taken : take (i + 1) es ≡ take i es ++ e ∷ [] = take_more es i e within ∙ ap (λ x. take i es ++ x ∷ []) (sym is) in
    let drawn : new ≡ rungs_from setup (empty setup) (take i es ++ e ∷ []) =
    more setup (take i es) so_far.stands ∙ (ap (λ (l : List Rung). l ++ rungs_at setup (run setup (take i es)) e) so_far.rungs
    ∙ sym (rungs_more setup (empty setup) (take i es) e)) in
    record {
      stands = subst (λ (l : List Event). StandsFor after setup l) (sym taken) (stands setup (take i es) so_far.stands);
      steps = steps ∙ ap (λ n. n + 1) so_far.steps;
      rungs = subst (λ (l : List Event). new ≡ rungs_from setup (empty setup) l) (sym taken) drawn;
    }

-- all are drawn
pub all_drawn : (world : World) (setup : Setup) (es : List Event) (i : ℕ) (rs : List Rung) → length es ≤ i → Drawing world setup (take i es) i rs
    → rs ≡ rungs setup es
unfolding rungs
all_drawn world setup es i rs all drawn = drawn.rungs ∙ ap (λ (l : List Event). rungs_from setup (empty setup) l) (take_all i es all)
