-- The events of a storm, one after another.
use Rattle.std.proofs.Common.{◌≡◌, ◌+◌, ◌/◌, ◌%◌, ◌==◌, ℕ, zero, suc, Bool, true, false, Option, Some, None, if◌then◌else◌, List, [], ◌∷◌, ◌++◌, refl, sym, ap, subst, ◌∙◌, arith, append_assoc, append-nil}
use Rattle.book_base.specs.declared.end.End.{End}
use Rattle.book_link.specs.declared.event.Event.{Event}
use Rattle.book_link.specs.Runs.{empty, run, run_from}
use Rattle.book_link.specs.Steps.{step}
use Rattle.book_link.specs.declared.event.Event.TheVariants.{At}
use Rattle.book_link.specs.declared.event.Action.TheVariants.{Fill, Send, Resend, Deliver, Take}
use Rattle.book_link.specs.Storm.{draw, drawn, drawn_end, event_by, event_of, events_drawn, last_delivered, one_delivered, storm_events, storm_setup, storm_starts}
use Rattle.book_link.specs.Worlds.{Made, Setup, World, segment_named, segments}
use Rattle.link_world.specs.Events.{CanHappen}
use Rattle.link_world.specs.declared.world.World.{World as Link}
use Rattle.link_world.specs.Stands.{StandsFor}

-- a link stands for the storm so far, and so many events from this state on are its rest
pub record Storming (link : Link) (seed count state left : ℕ) : Type 0 where
  pub events : List Event
  pub stands : StandsFor link storm_setup events
  pub rest : events ++ events_drawn storm_setup (run storm_setup events) state left ≡ storm_events seed count

-- before the first
pub begins : (link : Link) (seed count left : ℕ) → left ≡ count → StandsFor link storm_setup storm_starts → Storming link seed count seed left
unfolding storm_events
begins link seed count left same stands = record { events = storm_starts; stands = stands; rest = rw same refl }

one_more : (setup : Setup) (w : World) (events : List Event) (e : Event) → run_from setup w (events ++ e ∷ []) ≡ (step setup (run_from setup w events) e).world
one_more setup w [] e = refl
one_more setup w (x ∷ events) e = one_more setup (step setup w x).world events e

-- one is drawn and stepped through
pub goes_on : (before after : Link) (seed count state now number left rest : ℕ) (event : Event) → left ≡ suc rest → now ≡ drawn state → number ≡ draw now →
    (so_far : Storming before seed count state left) → event ≡ event_of (run storm_setup so_far.events) number →
    StandsFor after storm_setup (so_far.events ++ event ∷ []) → Storming after seed count now rest
goes_on before after seed count state now number left rest event same next_is number_is so_far is stands =
    let events = so_far.events in
    let w = run storm_setup events in
    let next = (step storm_setup w event).world in
    let drawn_is : event ≡ event_of w (draw (drawn state)) = is ∙ ap (λ (n : ℕ). event_of w n) (number_is ∙ ap draw next_is) in
    let rest_is : events_drawn storm_setup w state left ≡ event ∷ events_drawn storm_setup next now rest = rw (same, next_is, drawn_is) refl in
    let world : run storm_setup (events ++ event ∷ []) ≡ next = one_more storm_setup (empty storm_setup) events event in
    record {
      events = events ++ event ∷ [];
      stands = stands;
      rest = rw world (append_assoc events (event ∷ []) (events_drawn storm_setup next now rest) ∙ (ap (λ (l : List Event). events ++ l) (sym rest_is) ∙ so_far.rest));
    }

-- none is left
pub ends : (link : Link) (seed count state left : ℕ) → left ≡ 0 → Storming link seed count state left → StandsFor link storm_setup (storm_events seed count)
ends link seed count state left none so_far =
    let last : events_drawn storm_setup (run storm_setup so_far.events) state left ≡ [] = rw none refl in
    let all : so_far.events ≡ storm_events seed count = sym (append-nil so_far.events) ∙ (ap (λ (l : List Event). so_far.events ++ l) (sym last) ∙ so_far.rest) in
    subst (λ (l : List Event). StandsFor link storm_setup l) all so_far.stands

delivered : (e : End) (o : Option Made) → CanHappen (last_delivered e o)
delivered e None = tt
delivered e (Some m) = tt

one : (e : End) (n v : ℕ) → CanHappen (one_delivered e n v)
one e zero v = tt
one e (suc n) v = tt

either : (b : Bool) (x y : Event) → CanHappen x → CanHappen y → CanHappen (if b then x else y)
either true x y p q = p
either false x y p q = q

by_kind : (w : World) (e : End) (kind v : ℕ) → CanHappen (event_by w e kind v)
by_kind w e kind v =
    let last = delivered e (segment_named (segments w.history) w.history) in
    either (kind == 0) _ _ tt
    (either (kind == 1) _ _ tt
    (either (kind == 2) _ _ tt
    (either (kind == 3) _ _ last
    (either (kind == 4) _ _ last
    (either (kind == 5) _ _ (one e (segments w.history) v)
    (either (kind == 6) _ _ tt tt))))))

-- each event that is drawn can happen
pub can_happen : (w : World) (r : ℕ) → CanHappen (event_of w r)
can_happen w r = by_kind w (drawn_end r) (r / 2 % 8) (r / 256)
