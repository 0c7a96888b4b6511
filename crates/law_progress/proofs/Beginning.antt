-- A run that is up, with a byte that waits.
use Rattle.std.proofs.Common.{◌≡◌, ◌+◌, ◌≤◌, true, false, [], ◌∷◌, ◌++◌, Some, refl, arith}
use Rattle.book_base.specs.declared.end.End.{End}
use Rattle.book_base.specs.declared.end.End.TheVariants.{A, B}
use Rattle.book_keys.specs.Plans.{AlignedFrom, has_sendable}
use Rattle.book_endpoint.specs.States.{connected, give, listening, started}
use Rattle.book_link.specs.declared.event.Event.TheVariants.{At}
use Rattle.book_link.specs.declared.event.Action.TheVariants.{Connect, Listen, Give}
use Rattle.book_link.specs.Runs.{run}
use Rattle.book_link.specs.Storm.{storm_setup, storm_starts}
use Rattle.book_link.specs.Worlds.{other, pair_of, Session, World, side, live}
use Rattle.law_progress.specs.Progress.{is_up, IsUp, IsWaiting, IsOpening}
use Rattle.law_link.proofs.Sessions.{both}

abbrev begun : World
begun = run storm_setup (storm_starts ++ At A (Give (1 ∷ [])) ∷ [])

abbrev sessions : End → Session
sessions A = record { state = give (1 ∷ []) (started (pair_of storm_setup A) 4294960000 4000000000); end_shown = false }
sessions B = record { state = started (pair_of storm_setup B) 4000000000 4294960000; end_shown = false }

begun_up : IsUp storm_setup begun 0 0
begun_up = record {
  session = sessions;
  lives = both (λ e. live (side begun e).sessions ≡ Some (sessions e)) refl refl;
  partners = record { here = refl; there = refl };
  opened = both (λ e. is_up (sessions e).state (sessions (other e)).state ≡ true) refl refl;
  keyed = record {
    sends = both (λ e. has_sendable (side begun e).rows (pair_of storm_setup e) (side begun e).clock ≡ true) refl refl;
    aligned = both (λ e. AlignedFrom (side begun (other e)).rows (side begun e).rows (pair_of storm_setup (other e)) 0 0) ((λ sends. refl), tt) ((λ sends. refl), tt);
    early = both (λ e. (side begun (other e)).clock ≤ (side begun e).clock + 0) (omega arith) (omega arith);
    late = both (λ e. (side begun e).clock ≤ (side begun (other e)).clock + 0) (omega arith) (omega arith);
    unforged = refl;
  };
}

pub begins_up : (up : IsUp storm_setup begun 0 0) × IsWaiting (up.session A).state
unfolding begun_up
begins_up = (begun_up, waits)
  where
    waits : IsWaiting (sessions A).state
    waits = omega arith

-- ---- a connection that is opening

abbrev opening : World
opening = run storm_setup (At A (Connect 4294960000) ∷ At B (Listen 4000000000) ∷ [])

abbrev asking : End → Session
asking A = record { state = connected (pair_of storm_setup A) 4294960000; end_shown = false }
asking B = record { state = listening (pair_of storm_setup B) 4000000000; end_shown = false }

pub begun_opening : IsOpening storm_setup opening 0 0 A
begun_opening = record {
  session = asking;
  lives = both (λ e. live (side opening e).sessions ≡ Some (asking e)) refl refl;
  asks = refl;
  answers = refl;
  keyed = record {
    sends = both (λ e. has_sendable (side opening e).rows (pair_of storm_setup e) (side opening e).clock ≡ true) refl refl;
    aligned = both (λ e. AlignedFrom (side opening (other e)).rows (side opening e).rows (pair_of storm_setup (other e)) 0 0) ((λ sends. refl), tt) ((λ sends. refl), tt);
    early = both (λ e. (side opening (other e)).clock ≤ (side opening e).clock + 0) (omega arith) (omega arith);
    late = both (λ e. (side opening e).clock ≤ (side opening (other e)).clock + 0) (omega arith) (omega arith);
    unforged = refl;
  };
}
