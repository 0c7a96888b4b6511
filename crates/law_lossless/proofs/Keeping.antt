-- What stands within a round trip of an end leaves what that round trip needs.
use Rattle.std.proofs.Common.{◌≡◌, ℕ, ◌<◌, ◌≤◌, true, ◌⊎◌, inl, inr, ⊎_elim, refl, sym, subst, arith}
use Rattle.book_base.specs.declared.end.End.{End}
use Rattle.book_base.specs.declared.end.End.TheVariants.{A, B}
use Rattle.book_endpoint.specs.States.{EndState}
use Rattle.book_endpoint.specs.Emissions.{is_sending, sends_data, sends_fin}
use Rattle.book_link.specs.Worlds.{other, Setup, Session, World}
use Rattle.law_link.specs.Laws.{SetupFits}
use Rattle.law_progress.specs.Progress.{Sends, Resends, IsWaiting}
use Rattle.law_progress.proofs.Trips.{Over, sends_so, flip, flip_back}
use Rattle.law_progress.proofs.Turning.{Two, far_ends, all_taken, two_taken, or_owed}
use Rattle.law_lossless.specs.Reaching.{Served, Speaks, Takes, is_beside}
use Rattle.law_lossless.proofs.Serving.{served, Beside, IsIdle, IsOwed, same_still, send_here, resend_here}

-- what it leaves: where this end was idle and waits, it is idle still, or its oldest number was received
pub record Kept (setup : Setup) (v : World) (lead lag : ℕ) (e : End) (s t : EndState) : Type 0 where
  pub beside : Beside setup v lead lag e s t
  pub idle : IsWaiting s → s.una ≤ t.expected → IsIdle s → IsOwed s beside.there.state ⊎ IsIdle beside.here.state

-- an idle end that waits has something to send
pub idle_sends : (s : EndState) → IsWaiting s → IsIdle s → (sends_data s ≡ true) ⊎ (sends_fin s ≡ true)
idle_sends s waits z = let low = z.0 in let wide = z.2 in sends_so s z.1 (omega arith) (omega arith)

module _ (setup : Setup) (fits : SetupFits setup) (lead lag : ℕ) where
  kept_send : (w : World) (e : End) (s t : Session) → Two setup w lead lag (other e) s t → let v = served setup w (Speaks (Sends e)) in Kept setup v lead lag e s.state t.state ⊎ Over setup v e s.state t.state
  kept_send w e s t two =
      let v = served setup w (Speaks (Sends e)) in
      ⊎_elim
      (λ (d : (b : Beside setup v lead lag e s.state t.state) × ((sends_data s.state ≡ true) ⊎ (sends_fin s.state ≡ true) → s.state.next ≤ t.state.expected → (s.state.next < b.there.state.expected) × (b.there.state.ack_owed ≡ true))).
      let b = d.0 in
      let k : Kept setup v lead lag e s.state t.state = record {
        beside = b;
        idle = λ waits low z. let nothing = z.0 in let sent = (far_ends setup w lead lag (other e) s t two).numbers.una in let r = d.1 (idle_sends s.state waits z) (omega arith) in let more = r.0 in inl (omega arith, r.1);
      } in inl k)
      (λ (o : Over setup v e s.state t.state). inr o)
      (send_here setup fits w lead lag e s t two)

  kept_resend : (w : World) (e : End) (s t : Session) → Two setup w lead lag (other e) s t → let v = served setup w (Speaks (Resends e)) in Kept setup v lead lag e s.state t.state ⊎ Over setup v e s.state t.state
  kept_resend w e s t two =
      let v = served setup w (Speaks (Resends e)) in
      ⊎_elim
      (λ (d : (b : Beside setup v lead lag e s.state t.state) × (IsOwed s.state b.there.state ⊎ ((b.here.state ≡ s.state) × (s.state.next ≤ s.state.una) × (IsWaiting s.state → (is_sending s.state.phase ≡ true) × (0 < s.state.send_window))))).
      let b = d.0 in
      let k : Kept setup v lead lag e s.state t.state = record {
        beside = b;
        idle = λ waits low z.
            ⊎_elim (λ (owed : IsOwed s.state b.there.state). inl owed)
            (λ (q : (b.here.state ≡ s.state) × (s.state.next ≤ s.state.una) × (IsWaiting s.state → (is_sending s.state.phase ≡ true) × (0 < s.state.send_window))). inr (subst IsIdle (sym q.0) z))
            d.1;
      } in inl k)
      (λ (o : Over setup v e s.state t.state). inr o)
      (resend_here setup fits w lead lag e s t two)

  -- a user takes
  kept_there : (w : World) (e : End) (s t : Session) → Two setup w lead lag (other e) s t → Kept setup (served setup w (Takes (other e))) lead lag e s.state t.state
  kept_there w e s t two = record {
    beside = record {
      here = s;
      there = all_taken t;
      two = two_taken setup fits w lead lag (other e) s t two;
      same_here = same_still s.state;
      same_there = record { isn = refl; given = refl; closing = refl };
      una_here = refl;
      expected = refl;
      una_there = omega arith;
      next_there = refl;
      up = omega arith;
      owed = λ z. or_owed t.state.ack_owed _ z;
    };
    idle = λ waits low z. inr z;
  }

  kept_take : (w : World) (e : End) (s t : Session) → Two setup w lead lag (other e) s t → Two setup (served setup w (Takes e)) lead lag (other e) (all_taken s) t
  kept_take w A s t two = let r = two_taken setup fits w lead lag A t s (flip setup w lead lag A s t two) in flip_back setup (served setup w (Takes A)) lead lag A t (all_taken s) r
  kept_take w B s t two = let r = two_taken setup fits w lead lag B t s (flip setup w lead lag B s t two) in flip_back setup (served setup w (Takes B)) lead lag B t (all_taken s) r

  kept_here : (w : World) (e : End) (s t : Session) → Two setup w lead lag (other e) s t → Kept setup (served setup w (Takes e)) lead lag e s.state t.state
  kept_here w e s t two = record {
    beside = record {
      here = all_taken s;
      there = t;
      two = kept_take w e s t two;
      same_here = record { isn = refl; given = refl; closing = refl };
      same_there = same_still t.state;
      una_here = refl;
      expected = refl;
      una_there = omega arith;
      next_there = refl;
      up = omega arith;
      owed = λ z. z;
    };
    idle = λ waits low z. inr z;
  }

  pub kept : (w : World) (e : End) (s t : Session) → Two setup w lead lag (other e) s t → (x : Served) → is_beside e x ≡ true → Kept setup (served setup w x) lead lag e s.state t.state ⊎ Over setup (served setup w x) e s.state t.state
  kept w A s t two (Speaks (Sends A)) on = kept_send w A s t two
  kept w A s t two (Speaks (Sends B)) on = absurd (cc)
  kept w B s t two (Speaks (Sends A)) on = absurd (cc)
  kept w B s t two (Speaks (Sends B)) on = kept_send w B s t two
  kept w A s t two (Speaks (Resends A)) on = kept_resend w A s t two
  kept w A s t two (Speaks (Resends B)) on = absurd (cc)
  kept w B s t two (Speaks (Resends A)) on = absurd (cc)
  kept w B s t two (Speaks (Resends B)) on = kept_resend w B s t two
  kept w A s t two (Takes A) on = inl (kept_here w A s t two)
  kept w A s t two (Takes B) on = inl (kept_there w A s t two)
  kept w B s t two (Takes A) on = inl (kept_there w B s t two)
  kept w B s t two (Takes B) on = inl (kept_here w B s t two)
