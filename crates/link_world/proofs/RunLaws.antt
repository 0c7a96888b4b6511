-- One more event.
use Rattle.std.proofs.Common.{◌≡◌, List, [], ◌∷◌, ◌++◌, refl, ap}
use Rattle.book_link.specs.declared.event.Event.{Event}
use Rattle.book_link.specs.Outcomes.{Outcome}
use Rattle.book_link.specs.Runs.{empty, outcomes_from, run, run_from}
use Rattle.book_link.specs.Steps.{step}
use Rattle.book_link.specs.Worlds.{Setup, World}

run_from_more : (setup : Setup) (w : World) (events : List Event) (e : Event)
    → run_from setup w (events ++ e ∷ []) ≡ (step setup (run_from setup w events) e).world
run_from_more setup w [] e = refl
run_from_more setup w (x ∷ events) e = run_from_more setup (step setup w x).world events e

-- the world after one more event
pub run_more : (setup : Setup) (events : List Event) (e : Event) → run setup (events ++ e ∷ []) ≡ (step setup (run setup events) e).world
run_more setup events e = run_from_more setup (empty setup) events e

outcomes_from_more : (setup : Setup) (w : World) (events : List Event) (e : Event)
    → outcomes_from setup w (events ++ e ∷ []) ≡ outcomes_from setup w events ++ (step setup (run_from setup w events) e).outcome ∷ []
outcomes_from_more setup w [] e = refl
outcomes_from_more setup w (x ∷ events) e =
    ap (λ (rest : List Outcome). (step setup w x).outcome ∷ rest) (outcomes_from_more setup (step setup w x).world events e)

-- the outcomes after one more event
pub outcomes_more : (setup : Setup) (events : List Event) (e : Event)
    → outcomes_from setup (empty setup) (events ++ e ∷ [])
    ≡ outcomes_from setup (empty setup) events ++ (step setup (run setup events) e).outcome ∷ []
outcomes_more setup events e = outcomes_from_more setup (empty setup) events e
