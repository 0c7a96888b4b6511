-- The loop of a run.
use Rattle.std.proofs.Common.{◌≡◌, ℕ, suc, ◌+◌, ◌<◌, ◌≤◌, List, [], ◌∷◌, ◌++◌, length, take, get_or, sym, ap, ◌∙◌, subst, arith}
use Rattle.std.proofs.lemmas.List.{length-take-le, take_all, take_more}
use Rattle.bgp_messages.specs.Readers.{Reading}
use Rattle.book_link.specs.declared.event.Event.{Event}
use Rattle.book_link.specs.Worlds.{Setup}
use Rattle.both_ends.specs.declared.values.BothEnds.{BothEnds}
use Rattle.link_world.specs.declared.world.World.{World}
use Rattle.link_world.specs.Stands.{StandsFor, steps_taken}
use Rattle.cmd_link.specs.Follows.{Follows}

-- after so many events: the world stands for them, the readers follow them, and no take told more than one fault
abbrev pub Reached : World → Setup → List Event → ℕ → ℕ → BothEnds Reading → List ℕ → ℕ → Type 0
Reached world setup events i number readers text faults =
    StandsFor world setup (take i events) × (steps_taken world ≡ i) × (number ≡ i) × (faults ≤ i) × Follows setup (take i events) readers text faults

-- one event more
pub one_more : (before after : World) (setup : Setup) (events : List Event) (i number : ℕ) (event : Event) (readers next : BothEnds Reading) (text next_text : List ℕ) (faults next_faults : ℕ)
    → i < length events → event ≡ get_or events i event → Reached before setup events i number readers text faults
    → ((s : Setup) (es : List Event) → StandsFor before s es → StandsFor after s (es ++ event ∷ [])) → steps_taken after ≡ steps_taken before + 1
    → ((s : Setup) (es : List Event) → StandsFor after s (es ++ event ∷ []) → number + 1 ≡ suc (length es) → Follows s es readers text faults → Follows s (es ++ event ∷ []) next next_text next_faults)
    → next_faults ≤ faults + 1 → Reached after setup events (i + 1) (number + 1) next next_text next_faults
one_more before after setup events i number event readers next text next_text faults next_faults within is so_far stands more follows few =
    let P : List Event → Type 0 = λ es. StandsFor after setup es in
    let Q : List Event → Type 0 = λ es. Follows setup es next next_text next_faults in
    let taken : take (i + 1) events ≡ take i events ++ event ∷ [] = take_more events i event within ∙ ap (λ e. take i events ++ e ∷ []) (sym is) in
    let size : length (take i events) ≡ i = length-take-le i events (omega (arith, within)) in
    let counted = so_far.2 in
    let were = so_far.3 in
    let number_is : number + 1 ≡ suc (length (take i events)) = omega (arith, counted, size) in
    let stood = stands setup (take i events) so_far.0 in (
      subst P (sym taken) stood,
      more ∙ ap (λ n. n + 1) so_far.1,
      ap (λ n. n + 1) counted,
      omega (arith, few, were),
      subst Q (sym taken) (follows setup (take i events) stood number_is so_far.4),
    )

-- all events
pub followed : (setup : Setup) (events : List Event) (i : ℕ) (readers : BothEnds Reading) (text : List ℕ) (faults : ℕ) → length events ≤ i → Follows setup (take i events) readers text faults → Follows setup events readers text faults
followed setup events i readers text faults all f = subst (λ (es : List Event). Follows setup es readers text faults) (take_all i events all) f

pub stood : (world : World) (setup : Setup) (events : List Event) (i : ℕ) → length events ≤ i → StandsFor world setup (take i events) → StandsFor world setup events
stood world setup events i all s = subst (λ (es : List Event). StandsFor world setup es) (take_all i events all) s
