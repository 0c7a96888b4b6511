-- The run of a list of events. Its top is `run`.
use Rattle.std.specs.Prelude.{List, [], ◌∷◌}
use Rattle.book_base.specs.declared.end.End.{End}
use Rattle.book_base.specs.declared.end.End.TheVariants.{A, B}
use Rattle.book_link.specs.declared.event.Event.{Event}
use Rattle.book_link.specs.Outcomes.{Outcome}
use Rattle.book_link.specs.Worlds.{Setup, first_rows, LinkSide, World}
use Rattle.book_link.specs.Steps.{step}

-- an end as it begins: the clock 0, its first table, no session (own)
abbrev pub begins : Setup → End → LinkSide
begins setup e = record { clock = 0; rows = first_rows setup e; sessions = [] }

-- both ends as they begin, when nothing was made (own)
abbrev pub empty : Setup → World
empty setup = record { a = begins setup A; b = begins setup B; history = [] }

-- the world after events that begin in this world (own)
abbrev pub run_from : Setup → World → List Event → World
run_from setup w [] = w
run_from setup w (e ∷ events) = run_from setup (step setup w e).world events

-- the world after events that begin in the empty one (own)
abbrev pub run : Setup → List Event → World
run setup events = run_from setup (empty setup) events

-- the outcomes of events that begin in this world (own)
abbrev pub outcomes_from : Setup → World → List Event → List Outcome
outcomes_from setup w [] = []
outcomes_from setup w (e ∷ events) =
    let s = step setup w e in
    s.outcome ∷ outcomes_from setup s.world events
