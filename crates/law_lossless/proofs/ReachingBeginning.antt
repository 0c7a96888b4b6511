-- The premises are met: a link that is up, with a byte that waits, and a round trip among other turns.
use Rattle.std.proofs.Common.{◌≡◌, ◌+◌, ◌≤◌, true, false, [], ◌∷◌, ◌++◌, Some, inl, inr, refl, arith}
use Rattle.book_base.specs.declared.end.End.{End}
use Rattle.book_base.specs.declared.end.End.TheVariants.{A, B}
use Rattle.book_keys.specs.Plans.{AlignedFrom, has_sendable}
use Rattle.book_endpoint.specs.States.{give, started}
use Rattle.book_link.specs.declared.event.Event.TheVariants.{At}
use Rattle.book_link.specs.declared.event.Action.TheVariants.{Give}
use Rattle.book_link.specs.Runs.{run}
use Rattle.book_link.specs.Storm.{storm_setup, storm_starts}
use Rattle.book_link.specs.Worlds.{other, pair_of, Session, World, side, live}
use Rattle.law_link.proofs.Sessions.{both}
use Rattle.law_progress.specs.Progress.{is_open, is_up, IsUp, IsWaiting}
use Rattle.law_progress.specs.Progress.{Sends, Resends, round_trip}
use Rattle.law_lossless.specs.Reaching.{Speaks, Takes, HasTurns}

abbrev pub begun : World
begun = run storm_setup (storm_starts ++ At A (Give (1 ∷ [])) ∷ [])

abbrev pub sessions : End → Session
sessions A = record { state = give (1 ∷ []) (started (pair_of storm_setup A) 4294960000 4000000000); end_shown = false }
sessions B = record { state = started (pair_of storm_setup B) 4000000000 4294960000; end_shown = false }

unfoldable pub begun_up : IsUp storm_setup begun 0 0
begun_up = record {
  session = sessions;
  lives = both (λ e. live (side begun e).sessions ≡ Some (sessions e)) refl refl;
  partners = record { here = refl; there = refl };
  opened = both (λ e. is_up (sessions e).state (sessions (other e)).state ≡ true) refl refl;
  keyed = record {
    sends = both (λ e. has_sendable (side begun e).rows (pair_of storm_setup e) (side begun e).clock ≡ true) refl refl;
    aligned = both (λ e. AlignedFrom (side begun (other e)).rows (side begun e).rows (pair_of storm_setup (other e)) 0 0) ((λ sends. refl), tt) ((λ sends. refl), tt);
    early = both (λ e. (side begun (other e)).clock ≤ (side begun e).clock + 0) (omega arith) (omega arith);
    late = both (λ e. (side begun e).clock ≤ (side begun (other e)).clock + 0) (omega arith) (omega arith);
    unforged = refl;
  };
}

-- a round trip in which its end sends again twice and sends twice, and each user takes
among : HasTurns A (round_trip A) (Speaks (Resends B) ∷ Takes A ∷ Speaks (Resends A) ∷ Speaks (Resends A) ∷ Takes B ∷ Speaks (Sends A) ∷ Speaks (Sends A) ∷ Speaks (Sends B) ∷ [])
among = inl (refl, inr (refl, inl (refl, inr (refl, inr (refl, inl (refl, inr (refl, inl (refl, tt))))))))

pub meets : (up : IsUp storm_setup begun 0 0) × ((e : End) → is_open (up.session e).state.phase ≡ true) × IsWaiting (up.session A).state
    × HasTurns A (round_trip A) (Speaks (Resends B) ∷ Takes A ∷ Speaks (Resends A) ∷ Speaks (Resends A) ∷ Takes B ∷ Speaks (Sends A) ∷ Speaks (Sends A) ∷ Speaks (Sends B) ∷ [])
unfolding begun_up
meets = (begun_up, both (λ e. is_open (sessions e).state.phase ≡ true) refl refl, waits, among)
  where
    waits : IsWaiting (sessions A).state
    waits = omega arith
