-- A round trip of an end among other turns moves its oldest unacknowledged number.
use Rattle.std.proofs.Common.{◌≡◌, ℕ, ◌+◌, ◌<◌, ◌≤◌, true, List, [], ◌∷◌, length, ◌⊎◌, inl, inr, ⊎_elim, sym, ap, ◌∙◌, subst, arith}
use Rattle.book_base.specs.declared.end.End.{End}
use Rattle.book_base.specs.declared.end.End.TheVariants.{A, B}
use Rattle.book_segments.specs.Segments.{bit_of}
use Rattle.book_endpoint.specs.States.{EndState}
use Rattle.book_endpoint.specs.Emissions.{is_sending, sends_data, sends_fin}
use Rattle.book_link.specs.Worlds.{other, Setup, Session, World}
use Rattle.law_link.specs.Laws.{SetupFits}
use Rattle.law_link.proofs.Stream.{or_lt}
use Rattle.law_progress.specs.Progress.{Sends, Resends, round_trip, IsWaiting, IsSame}
use Rattle.law_progress.proofs.Making.{Rest}
use Rattle.law_progress.proofs.Trips.{Resent, Tripped, Over, fourth, same_then, same_rest, same_stays, over_from, flip, flip_back}
use Rattle.law_progress.proofs.Turning.{Two, near_ends, far_ends, Gone}
use Rattle.law_lossless.specs.Reaching.{Served, Speaks, HasTurns}
use Rattle.law_lossless.proofs.Turns.{resend_by}
use Rattle.law_lossless.proofs.Serving.{served, all_after, after_nothing, after_more, over_all, Beside, IsIdle, IsOwed, same_still, send_here, resend_here}
use Rattle.law_lossless.proofs.Keeping.{Kept, idle_sends, kept}

-- ---- the turns of a round trip, from the last to the first

-- both ends within a round trip, which began with these states
pub record Within (setup : Setup) (w : World) (lead lag : ℕ) (e : End) (s0 t0 : EndState) (s t : Session) : Type 0 where
  pub two : Two setup w lead lag (other e) s t
  pub same_s : IsSame s0 s.state
  pub same_t : IsSame t0 t.state
  pub low_s : s0.una ≤ s.state.una
  pub low_t : t0.una ≤ t.state.una

pub still_within : (setup : Setup) (w v : World) (lead lag : ℕ) (e : End) (s0 t0 : EndState) (s t : Session) → Within setup w lead lag e s0 t0 s t → (b : Beside setup v lead lag e s.state t.state) → Within setup v lead lag e s0 t0 b.here b.there
still_within setup w v lead lag e s0 t0 s t h b =
    let low_s = h.low_s in
    let low_t = h.low_t in
    let una_here = b.una_here in
    let una_there = b.una_there in
    record {
      two = b.two;
      same_s = same_then s0 s.state b.here.state h.same_s b.same_here;
      same_t = same_then t0 t.state b.there.state h.same_t b.same_there;
      low_s = omega arith;
      low_t = omega arith;
    }

-- the ACK of the other end's next segment is heard
abbrev pub IsNear : EndState → EndState → Type 0
IsNear s t = t.next < s.expected + 65535

still_near : (setup : Setup) (v : World) (lead lag : ℕ) (e : End) (s t : EndState) (b : Beside setup v lead lag e s t) → IsNear s t → IsNear b.here.state b.there.state
still_near setup v lead lag e s t b near = let expected = b.expected in let next = b.next_there in omega arith

-- before the fourth turn: the oldest number moved, or its acknowledgement is owed
abbrev pub IsDue : EndState → EndState → EndState → Type 0
IsDue s0 s t = (s0.una < s.una) ⊎ ((s0.una < t.expected) × (t.ack_owed ≡ true))

-- before the third turn, the end may be idle too
abbrev pub MayBeIdle : EndState → EndState → EndState → Type 0
MayBeIdle s0 s t = IsDue s0 s t ⊎ ((s.una ≡ s0.una) × IsIdle s)

abbrev pub Done : Setup → World → ℕ → ℕ → End → EndState → EndState → Type 0
Done setup v lead lag e s0 t0 = Tripped setup v lead lag e s0 t0 ⊎ Over setup v e s0 t0

still_due : (setup : Setup) (v : World) (lead lag : ℕ) (e : End) (s0 s t : EndState) (b : Beside setup v lead lag e s t) → IsDue s0 s t → IsDue s0 b.here.state b.there.state
still_due setup v lead lag e s0 s t b (inl moved) = let una = b.una_here in inl (omega arith)
still_due setup v lead lag e s0 s t b (inr z) = let low = z.0 in let up = b.up in inr (omega arith, b.owed z.1)

waits_still : (s0 s : EndState) → IsSame s0 s → s.una ≡ s0.una → IsWaiting s0 → IsWaiting s
waits_still s0 s same una waits =
    let long : length s.given ≡ length s0.given = ap length same.given in
    let isn = same.isn in
    let bit : bit_of s.closing ≡ bit_of s0.closing = ap bit_of same.closing in
    omega arith

gone_here : (setup : Setup) (v : World) (e : End) (s t : EndState) → Gone setup v (other (other e)) t s → Over setup v e s t
gone_here setup v A s t g = record { over = g.over; here = g.near; there = g.far }
gone_here setup v B s t g = record { over = g.over; here = g.near; there = g.far }

module _ (setup : Setup) (fits : SetupFits setup) (lead lag : ℕ) (e : End) (s0 t0 : EndState) where
  over_on : (w v : World) (s t : Session) → Within setup w lead lag e s0 t0 s t → Over setup v e s.state t.state → Over setup v e s0 t0
  over_on w v s t h o = over_from setup v e s0 t0 s.state t.state h.same_s h.same_t o

  -- before the fourth turn
  last_turn : (events : List Served) → HasTurns e (Sends (other e) ∷ []) events → (w : World) (s t : Session) → Within setup w lead lag e s0 t0 s t → IsNear s.state t.state → (IsWaiting s0 → IsDue s0 s.state t.state)
      → Done setup (all_after setup w events) lead lag e s0 t0
  last_turn [] turns w s t h near due = absurd (turns)
  last_turn (x ∷ []) (inl z) w s t h near due =
      let v = served setup w (Speaks (Sends (other e))) in
      let goal : Done setup v lead lag e s0 t0 = fourth setup fits lead lag e w s0 t0 s t h.two h.same_s h.same_t h.low_s h.low_t
      (λ waits. ⊎_elim (λ (moved : s0.una < s.state.una). inl moved) (λ (q : (s0.una < t.state.expected) × (t.state.ack_owed ≡ true)). inr (q.0, q.1, near)) (due waits)) in
      subst (λ (k : Served). Done setup (all_after setup w (k ∷ [])) lead lag e s0 t0) (sym z.0)
      (subst (λ (k : World). Done setup k lead lag e s0 t0) (sym (after_more setup w (Speaks (Sends (other e))) [] ∙ after_nothing setup v)) goal)
  last_turn (x ∷ y ∷ more) (inl z) w s t h near due = absurd (z.1)
  last_turn (x ∷ more) (inr z) w s t h near due =
      let v = served setup w x in
      subst (λ (k : World). Done setup k lead lag e s0 t0) (sym (after_more setup w x more))
      (⊎_elim
      (λ (k : Kept setup v lead lag e s.state t.state).
      let b = k.beside in
      last_turn more z.1 v b.here b.there (still_within setup w v lead lag e s0 t0 s t h b) (still_near setup v lead lag e s.state t.state b near) (λ waits. still_due setup v lead lag e s0 s.state t.state b (due waits)))
      (λ (o : Over setup v e s.state t.state). inr (over_all setup fits v e s0 t0 more (over_on w v s t h o)))
      (kept setup fits lead lag w e s t h.two x z.0))

  -- before the third
  third_turn : (events : List Served) → HasTurns e (Sends e ∷ Sends (other e) ∷ []) events → (w : World) (s t : Session) → Within setup w lead lag e s0 t0 s t → IsNear s.state t.state → (IsWaiting s0 → MayBeIdle s0 s.state t.state)
      → Done setup (all_after setup w events) lead lag e s0 t0
  third_turn [] turns w s t h near may = absurd (turns)
  third_turn (x ∷ more) (inl z) w s t h near may =
      let v = served setup w (Speaks (Sends e)) in
      let ends = far_ends setup w lead lag (other e) s t h.two in
      let low = ends.acked in
      let begun = ends.numbers.una in
      subst (λ (k : Served). Done setup (all_after setup w (k ∷ more)) lead lag e s0 t0) (sym z.0)
      (subst (λ (k : World). Done setup k lead lag e s0 t0) (sym (after_more setup w (Speaks (Sends e)) more))
      (⊎_elim
      (λ (d : (b : Beside setup v lead lag e s.state t.state) × ((sends_data s.state ≡ true) ⊎ (sends_fin s.state ≡ true) → s.state.next ≤ t.state.expected → (s.state.next < b.there.state.expected) × (b.there.state.ack_owed ≡ true))).
      let b = d.0 in
      last_turn more z.1 v b.here b.there (still_within setup w v lead lag e s0 t0 s t h b) (still_near setup v lead lag e s.state t.state b near)
      (λ waits.
      ⊎_elim (λ (due : IsDue s0 s.state t.state). still_due setup v lead lag e s0 s.state t.state b due)
      (λ (q : (s.state.una ≡ s0.una) × IsIdle s.state).
      let at = q.0 in
      let idle = q.1 in
      let nothing = idle.0 in
      let r = d.1 (idle_sends s.state (waits_still s0 s.state h.same_s q.0 waits) idle) (omega arith) in
      let some = r.0 in
      let owed : IsDue s0 b.here.state b.there.state = inr (omega arith, r.1) in owed)
      (may waits)))
      (λ (o : Over setup v e s.state t.state). inr (over_all setup fits v e s0 t0 more (over_on w v s t h o)))
      (send_here setup fits w lead lag e s t h.two)))
  third_turn (x ∷ more) (inr z) w s t h near may =
      let v = served setup w x in
      let ends = far_ends setup w lead lag (other e) s t h.two in
      subst (λ (k : World). Done setup k lead lag e s0 t0) (sym (after_more setup w x more))
      (⊎_elim
      (λ (k : Kept setup v lead lag e s.state t.state).
      let b = k.beside in
      third_turn more z.1 v b.here b.there (still_within setup w v lead lag e s0 t0 s t h b) (still_near setup v lead lag e s.state t.state b near)
      (λ waits.
      ⊎_elim (λ (due : IsDue s0 s.state t.state). inl (still_due setup v lead lag e s0 s.state t.state b due))
      (λ (q : (s.state.una ≡ s0.una) × IsIdle s.state).
      let at = q.0 in
      ⊎_elim (λ (owed : IsOwed s.state b.there.state). let low = owed.0 in let due : MayBeIdle s0 b.here.state b.there.state = inl (inr (omega arith, owed.1)) in due)
      (λ (idle : IsIdle b.here.state). inr (b.una_here ∙ q.0, idle))
      (k.idle (waits_still s0 s.state h.same_s q.0 waits) ends.acked q.1))
      (may waits)))
      (λ (o : Over setup v e s.state t.state). inr (over_all setup fits v e s0 t0 more (over_on w v s t h o)))
      (kept setup fits lead lag w e s t h.two x z.0))

  -- before the second
  second_turn : (events : List Served) → HasTurns e (Resends e ∷ Sends e ∷ Sends (other e) ∷ []) events → (w : World) (s t : Session) → Within setup w lead lag e s0 t0 s t → IsNear s.state t.state
      → Done setup (all_after setup w events) lead lag e s0 t0
  second_turn [] turns w s t h near = absurd (turns)
  second_turn (x ∷ more) (inl z) w s t h near =
      let v = served setup w (Speaks (Resends e)) in
      let low = h.low_s in
      subst (λ (k : Served). Done setup (all_after setup w (k ∷ more)) lead lag e s0 t0) (sym z.0)
      (subst (λ (k : World). Done setup k lead lag e s0 t0) (sym (after_more setup w (Speaks (Resends e)) more))
      (⊎_elim
      (λ (d : (b : Beside setup v lead lag e s.state t.state) × (IsOwed s.state b.there.state ⊎ ((b.here.state ≡ s.state) × (s.state.next ≤ s.state.una) × (IsWaiting s.state → (is_sending s.state.phase ≡ true) × (0 < s.state.send_window))))).
      let b = d.0 in
      let una = b.una_here in
      third_turn more z.1 v b.here b.there (still_within setup w v lead lag e s0 t0 s t h b) (still_near setup v lead lag e s.state t.state b near)
      (λ waits.
      ⊎_elim (λ (moved : s0.una < s.state.una). inl (inl (omega arith)))
      (λ (stood : s.state.una ≤ s0.una).
      let at : s.state.una ≡ s0.una = omega arith in
      ⊎_elim (λ (owed : IsOwed s.state b.there.state). let first = owed.0 in let due : MayBeIdle s0 b.here.state b.there.state = inl (inr (omega arith, owed.1)) in due)
      (λ (q : (b.here.state ≡ s.state) × (s.state.next ≤ s.state.una) × (IsWaiting s.state → (is_sending s.state.phase ≡ true) × (0 < s.state.send_window))).
      let may = q.2 (waits_still s0 s.state h.same_s at waits) in
      inr (b.una_here ∙ at, subst IsIdle (sym q.0) (q.1, may.0, may.1)))
      d.1)
      (or_lt s0.una s.state.una)))
      (λ (o : Over setup v e s.state t.state). inr (over_all setup fits v e s0 t0 more (over_on w v s t h o)))
      (resend_here setup fits w lead lag e s t h.two)))
  second_turn (x ∷ more) (inr z) w s t h near =
      let v = served setup w x in
      subst (λ (k : World). Done setup k lead lag e s0 t0) (sym (after_more setup w x more))
      (⊎_elim
      (λ (k : Kept setup v lead lag e s.state t.state).
      let b = k.beside in
      second_turn more z.1 v b.here b.there (still_within setup w v lead lag e s0 t0 s t h b) (still_near setup v lead lag e s.state t.state b near))
      (λ (o : Over setup v e s.state t.state). inr (over_all setup fits v e s0 t0 more (over_on w v s t h o)))
      (kept setup fits lead lag w e s t h.two x z.0))

  -- before the first
  first_turn : (events : List Served) → HasTurns e (round_trip e) events → (w : World) (s t : Session) → Within setup w lead lag e s0 t0 s t → Done setup (all_after setup w events) lead lag e s0 t0
  first_turn [] turns w s t h = absurd (turns)
  first_turn (x ∷ more) (inl z) w s t h =
      let v = served setup w (Speaks (Resends (other e))) in
      let low_s = h.low_s in
      let low_t = h.low_t in
      let acked = (near_ends setup w lead lag (other e) s t h.two).acked in
      subst (λ (k : Served). Done setup (all_after setup w (k ∷ more)) lead lag e s0 t0) (sym z.0)
      (subst (λ (k : World). Done setup k lead lag e s0 t0) (sym (after_more setup w (Speaks (Resends (other e))) more))
      (⊎_elim
      (λ (d : Resent setup v lead lag (other (other e)) t.state s.state).
      let t1 = d.after.far in
      let s1 = d.after.near in
      let up = d.after.up in
      let una = d.after.una in
      let far_una : t1.state.una ≡ t.state.una = ap (λ (r : Rest). r.una) d.after.rest_is in
      let near : IsNear s1.state t1.state =
      ⊎_elim
      (λ (q : (t.state.una < s1.state.expected) × (s1.state.ack_owed ≡ true) × (t1.state.next < s1.state.expected + 65535)). q.2)
      (λ (q : (t1.state ≡ t.state) × (t.state.next ≤ t.state.una) × (IsWaiting t.state → (is_sending t.state.phase ≡ true) × (0 < t.state.send_window))).
      let same : t1.state.next ≡ t.state.next = ap (λ (r : EndState). r.next) q.0 in
      let low = q.1 in
      omega arith)
      d.done in
      let inside : Within setup v lead lag e s0 t0 s1 t1 = record {
        two = flip_back setup v lead lag e t1 s1 d.after.two;
        same_s = same_then s0 s.state s1.state h.same_s (same_stays s.state s1.state d.after.stays);
        same_t = same_then t0 t.state t1.state h.same_t (same_rest t.state t1.state d.after.rest_is);
        low_s = omega arith;
        low_t = omega arith;
      } in
      second_turn more z.1 v s1 t1 inside near)
      (λ (g : Gone setup v (other (other e)) t.state s.state). inr (over_all setup fits v e s0 t0 more (over_on w v s t h (gone_here setup v e s.state t.state g))))
      (resend_by setup fits w lead lag (other e) t s (flip setup w lead lag e s t h.two))))
  first_turn (x ∷ more) (inr z) w s t h =
      let v = served setup w x in
      subst (λ (k : World). Done setup k lead lag e s0 t0) (sym (after_more setup w x more))
      (⊎_elim
      (λ (k : Kept setup v lead lag e s.state t.state).
      let b = k.beside in
      first_turn more z.1 v b.here b.there (still_within setup w v lead lag e s0 t0 s t h b))
      (λ (o : Over setup v e s.state t.state). inr (over_all setup fits v e s0 t0 more (over_on w v s t h o)))
      (kept setup fits lead lag w e s t h.two x z.0))

-- a round trip among what may stand within it
pub one_trip : (setup : Setup) (fits : SetupFits setup) (w : World) (lead lag : ℕ) (e : End) (s t : Session) → Two setup w lead lag (other e) s t → (events : List Served) → HasTurns e (round_trip e) events
    → Tripped setup (all_after setup w events) lead lag e s.state t.state ⊎ Over setup (all_after setup w events) e s.state t.state
one_trip setup fits w lead lag e s t two events turns =
    first_turn setup fits lead lag e s.state t.state events turns w s t (record { two = two; same_s = same_still s.state; same_t = same_still t.state; low_s = omega arith; low_t = omega arith })
