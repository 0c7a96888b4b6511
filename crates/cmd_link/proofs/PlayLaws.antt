-- One more event of a run.
use Rattle.std.proofs.Common.{◌≡◌, ℕ, ◌+◌, ◌<◌, List, [], ◌∷◌, ◌++◌, length, take, get_or, sym, ap, ◌∙◌, subst}
use Rattle.std.proofs.lemmas.List.{take_more}
use Rattle.book_link.specs.declared.event.Event.{Event}
use Rattle.book_link.specs.Worlds.{Setup}
use Rattle.link_world.specs.declared.world.World.{World}
use Rattle.link_world.specs.Stands.{StandsFor, steps_taken}

-- what stands for the first events stands for one more after its step
pub one_more : (before after : World) (setup : Setup) (es : List Event) (i : ℕ) (e : Event) → i < length es → e ≡ get_or es i e
    → StandsFor before setup (take i es) × (steps_taken before ≡ i)
    → ((s : Setup) (events : List Event) → StandsFor before s events → StandsFor after s (events ++ e ∷ []))
    → steps_taken after ≡ steps_taken before + 1
    → StandsFor after setup (take (i + 1) es) × (steps_taken after ≡ i + 1)
one_more before after setup es i e within is so_far stands more =
    let taken : take (i + 1) es ≡ take i es ++ e ∷ [] = take_more es i e within ∙ ap (λ x. take i es ++ x ∷ []) (sym is) in
    (subst (λ (l : List Event). StandsFor after setup l) (sym taken) (stands setup (take i es) so_far.0), more ∙ ap (λ n. n + 1) so_far.1)
