-- The deadline of a timer after a segment was heard is later than now, or as it was.
use Rattle.std.proofs.Common.{◌≡◌, ℕ, ◌+◌, ◌-◌, ◌<◌, Bool, true, false, not, ◌&&◌, nat_lt, nat_le, Option, Some, None, ◌⊎◌, inl, inr, refl, sym, ◌∙◌, if◌then◌else◌, arith}
use Rattle.book_segments.proofs.Fields.{some_is}
use Rattle.book_endpoint.specs.declared.arrival.Arrival.{Arrival}
use Rattle.book_stack.specs.declared.front.Change.{Change}
use Rattle.book_stack.specs.declared.front.Front.{Front}
use Rattle.book_stack.specs.declared.front.Timed.{Timed}
use Rattle.book_stack.specs.Millis.{sampled_millis, timer_behind_lost_syn}
use Rattle.book_stack.specs.Watches.{ConnectionWatch, after_acknowledgement, after_handshake, after_sample, arrived, hearing, is_opening, is_time_wait, moves_on, rests_now, time_wait_end, timer_started, timer_stopped}
use Rattle.law_stack.proofs.Timed.{IsOn, sampled_on}

hearing_same : (now : ℕ) (c : Change) (w : ConnectionWatch) → ((hearing now c w).deadline ≡ w.deadline) × (IsOn w → IsOn (hearing now c w))
hearing_same now c w = at (moves_on c)
  where
    at : (v : Bool) → ((if v then record w { heard = now } else w).deadline ≡ w.deadline) × (IsOn w → IsOn (if v then record w { heard = now } else w))
    at true = (refl, λ h. h)
    at false = (refl, λ h. h)

handshake_same : (c : Change) (w : ConnectionWatch) → ((after_handshake c w).deadline ≡ w.deadline) × (IsOn w → IsOn (after_handshake c w))
handshake_same c w = at (w.syn_again && is_opening c.before.phase && not (is_opening c.after.phase))
  where
    at : (v : Bool) → ((if v then record w { timer = timer_behind_lost_syn; syn_again = false } else w).deadline ≡ w.deadline) × (IsOn w → IsOn (if v then record w { timer = timer_behind_lost_syn; syn_again = false } else w))
    at true = (refl, λ h. omega (arith, h))
    at false = (refl, λ h. h)

-- the deadline is later than now, or as it was
abbrev pub IsLaterOr : ℕ → ConnectionWatch → ConnectionWatch → Type 0
IsLaterOr now old new = (d : ℕ) → new.deadline ≡ Some d → (now < d) ⊎ (old.deadline ≡ Some d)

acknowledged_later : (now : ℕ) (f : Front) (w : ConnectionWatch) → IsOn w → IsLaterOr now w (after_acknowledgement now f w)
acknowledged_later now f w on = at (nat_lt f.una f.next)
  where
    at : (v : Bool) → IsLaterOr now w (let t = after_sample now f w w.timed in if v then timer_started now t else timer_stopped t)
    at true d e = let t = after_sample now f w w.timed in let more = sampled_on now f w w.timed on in inl (omega (arith, more, some_is (now + t.timer.value) d e))
    at false d e = absurd (cc)

rests_later : (now : ℕ) (c : Change) (old w : ConnectionWatch) → IsLaterOr now old w → IsLaterOr now old (rests_now now c w)
rests_later now c old w h = at (is_time_wait c.after.phase && not (is_time_wait c.before.phase))
  where
    at : (v : Bool) → IsLaterOr now old (if v then record w { deadline = Some (time_wait_end now) } else w)
    at true d e = inl (omega (arith, some_is (time_wait_end now) d e))
    at false d e = h d e

pub arrived_later : (now : ℕ) (c : Change) (w : ConnectionWatch) → IsOn w → IsLaterOr now w (arrived now c w)
arrived_later now c w on =
    rests_later now c w (if nat_lt c.before.una c.after.una then after_acknowledgement now c.after v else v) (at (nat_lt c.before.una c.after.una))
  where
    u : ConnectionWatch
    u = hearing now c w

    v : ConnectionWatch
    v = after_handshake c u

    same : v.deadline ≡ w.deadline
    same = (handshake_same c u).0 ∙ (hearing_same now c w).0

    v_on : IsOn v
    v_on = (handshake_same c u).1 ((hearing_same now c w).1 on)

    back : (d : ℕ) → (now < d) ⊎ (v.deadline ≡ Some d) → (now < d) ⊎ (w.deadline ≡ Some d)
    back d (inl less) = inl less
    back d (inr is) = inr (sym same ∙ is)

    at : (b : Bool) → IsLaterOr now w (if b then after_acknowledgement now c.after v else v)
    at true d e = back d (acknowledged_later now c.after v v_on d e)
    at false d e = back d (inr e)
