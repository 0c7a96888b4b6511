-- How many rungs the events of a run have at most.
use Rattle.std.proofs.Common.{◌≡◌, ℕ, ◌+◌, ◌*◌, ◌≤◌, List, [], ◌∷◌, ◌++◌, Option, Some, None, length, arith}
use Rattle.std.proofs.lemmas.List.{length-append}
use Rattle.book_base.specs.declared.end.End.TheVariants.{A, B}
use Rattle.book_draw.specs.declared.rung.Rung.{Rung}
use Rattle.book_draw.specs.Rungs.{ahead, phase_at, rung_of, rungs, rungs_at, rungs_from, turned}
use Rattle.book_link.specs.declared.event.Event.{Event}
use Rattle.book_link.specs.Runs.{empty}
use Rattle.book_link.specs.Steps.{step}
use Rattle.book_link.specs.Worlds.{Setup, World}

one_ahead : (r : Option Rung) (rs : List Rung) → length (ahead r rs) ≤ length rs + 1
one_ahead None rs = omega arith
one_ahead (Some r) rs = omega arith

three : (x y z : Option Rung) → length (ahead x (ahead y (ahead z []))) ≤ 3
three x y z = omega (arith, one_ahead x (ahead y (ahead z [])), one_ahead y (ahead z []), one_ahead z [])

of_event : (setup : Setup) (w : World) (e : Event) → length (rungs_at setup w e) ≤ 3
of_event setup w e =
    let s = step setup w e in
    three (rung_of e s.outcome) (turned A (phase_at w A) (phase_at s.world A)) (turned B (phase_at w B) (phase_at s.world B))

of_events : (setup : Setup) (w : World) (events : List Event) → length (rungs_from setup w events) ≤ 3 * length events
of_events setup w [] = omega arith
of_events setup w (e ∷ es) =
    let now = (step setup w e).world in
    let both : length (rungs_at setup w e ++ rungs_from setup now es) ≡ length (rungs_at setup w e) + length (rungs_from setup now es) = length-append (rungs_at setup w e) (rungs_from setup now es) in
    omega (arith, both, of_event setup w e, of_events setup now es)

-- those of at most 20,000 events can be drawn
pub few_rungs : (setup : Setup) (events : List Event) → length events ≤ 20000 → length (rungs setup events) ≤ 100000
unfolding rungs
few_rungs setup events few = omega (arith, of_events setup (empty setup) events, few)
