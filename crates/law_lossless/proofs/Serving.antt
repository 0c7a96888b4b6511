-- What is served leaves both ends up, or all acknowledged; what an end itself does, and what a user takes, leaves a round trip of that end as it is.
use Rattle.std.proofs.Common.{◌≡◌, ℕ, ◌+◌, ◌<◌, ◌≤◌, true, List, [], ◌∷◌, ◌++◌, ◌⊎◌, inl, inr, ⊎_elim, refl, sym, ap, ◌∙◌, subst}
use Rattle.book_base.specs.declared.end.End.{End}
use Rattle.book_endpoint.specs.States.{EndState}
use Rattle.book_endpoint.specs.Emissions.{is_sending, sends_data, sends_fin}
use Rattle.book_link.specs.Worlds.{other, Setup, Session, World}
use Rattle.book_link.specs.Runs.{run_from}
use Rattle.law_link.specs.Laws.{SetupFits}
use Rattle.law_progress.specs.Progress.{Sends, Resends, turn_events, IsWaiting, IsSame}
use Rattle.law_progress.proofs.Finishing.{over_take}
use Rattle.law_progress.proofs.Making.{Rest}
use Rattle.law_progress.proofs.Progressing.{run_append}
use Rattle.law_progress.proofs.Trips.{Resent, SentOn, Over, same_then, same_rest, same_stays, over_after, gone_there}
use Rattle.law_progress.proofs.Turning.{Two, Gone}
use Rattle.law_lossless.specs.Reaching.{Served, Speaks, Takes, served_events, serves}
use Rattle.law_lossless.proofs.Turns.{resend_by, send_by}

-- ---- the worlds

-- the world after one event that was served
abbrev pub served : Setup → World → Served → World
served setup w x = run_from setup w (served_events setup w x)

-- the world after some
abbrev pub all_after : Setup → World → List Served → World
all_after setup w xs = run_from setup w (serves setup w xs)

pub after_nothing : (setup : Setup) (w : World) → all_after setup w [] ≡ w
unfolding serves
after_nothing setup w = refl

pub after_more : (setup : Setup) (w : World) (x : Served) (xs : List Served) → all_after setup w (x ∷ xs) ≡ all_after setup (served setup w x) xs
unfolding serves
after_more setup w x xs = let now = served_events setup w x in run_append setup w now (serves setup (run_from setup w now) xs)

pub after_both : (setup : Setup) (w : World) (xs ys : List Served) → all_after setup w (xs ++ ys) ≡ all_after setup (all_after setup w xs) ys
after_both setup w [] ys = ap (λ (v : World). all_after setup v ys) (sym (after_nothing setup w))
after_both setup w (x ∷ xs) ys =
    let v = served setup w x in
    after_more setup w x (xs ++ ys) ∙ after_both setup v xs ys ∙ ap (λ (u : World). all_after setup u ys) (sym (after_more setup w x xs))

-- ---- a link that is finished

pub over_served : (setup : Setup) (fits : SetupFits setup) (w : World) (e : End) (s t : EndState) (x : Served) → Over setup w e s t → Over setup (served setup w x) e s t
over_served setup fits w e s t (Speaks turn) o = over_after setup fits w e s t o turn
over_served setup fits w e s t (Takes y) o =
    let r = over_take setup fits w o.over y in
    record { over = r.now; here = same_then s (o.over.session e).state (r.now.session e).state o.here (r.same e); there = same_then t (o.over.session (other e)).state (r.now.session (other e)).state o.there (r.same (other e)) }

pub over_all : (setup : Setup) (fits : SetupFits setup) (w : World) (e : End) (s t : EndState) (xs : List Served) → Over setup w e s t → Over setup (all_after setup w xs) e s t
over_all setup fits w e s t [] o = subst (λ (v : World). Over setup v e s t) (sym (after_nothing setup w)) o
over_all setup fits w e s t (x ∷ xs) o =
    subst (λ (v : World). Over setup v e s t) (sym (after_more setup w x xs)) (over_all setup fits (served setup w x) e s t xs (over_served setup fits w e s t x o))

-- ---- what stands within a round trip

-- both ends after something beside: this end's numbers stand, and what is owed to it is still owed
pub record Beside (setup : Setup) (v : World) (lead lag : ℕ) (e : End) (s t : EndState) : Type 0 where
  pub here : Session
  pub there : Session
  pub two : Two setup v lead lag (other e) here there
  pub same_here : IsSame s here.state
  pub same_there : IsSame t there.state
  pub una_here : here.state.una ≡ s.una
  pub expected : here.state.expected ≡ s.expected
  pub una_there : t.una ≤ there.state.una
  pub next_there : there.state.next ≡ t.next
  pub up : t.expected ≤ there.state.expected
  pub owed : t.ack_owed ≡ true → there.state.ack_owed ≡ true

-- nothing of this end is in flight, and its window is open
abbrev pub IsIdle : EndState → Type 0
IsIdle s = (s.next ≤ s.una) × (is_sending s.phase ≡ true) × (0 < s.send_window)

-- the oldest number of this end was received, and its acknowledgement is owed
abbrev pub IsOwed : EndState → EndState → Type 0
IsOwed s t = (s.una < t.expected) × (t.ack_owed ≡ true)

pub same_still : (s : EndState) → IsSame s s
same_still s = record { isn = refl; given = refl; closing = refl }

module _ (setup : Setup) (fits : SetupFits setup) (w : World) (lead lag : ℕ) (e : End) (s t : Session) (two : Two setup w lead lag (other e) s t) where
  -- this end sends
  pub send_here : let v = run_from setup w (turn_events setup w (Sends e)) in
      ((b : Beside setup v lead lag e s.state t.state) × ((sends_data s.state ≡ true) ⊎ (sends_fin s.state ≡ true) → s.state.next ≤ t.state.expected → (s.state.next < b.there.state.expected) × (b.there.state.ack_owed ≡ true)))
      ⊎ Over setup v e s.state t.state
  send_here =
      let v = run_from setup w (turn_events setup w (Sends e)) in
      ⊎_elim
      (λ (d : SentOn setup v lead lag (other e) s.state t.state).
      let b : Beside setup v lead lag e s.state t.state = record {
        here = d.after.far;
        there = d.after.near;
        two = d.after.two;
        same_here = same_rest s.state d.after.far.state d.after.rest_is;
        same_there = same_stays t.state d.after.near.state d.after.stays;
        una_here = ap (λ (x : Rest). x.una) d.after.rest_is;
        expected = ap (λ (x : Rest). x.expected) d.after.rest_is;
        una_there = d.after.una;
        next_there = d.after.same_next;
        up = d.after.up;
        owed = d.after.owed;
      } in inl (b, d.given))
      (λ (g : Gone setup v (other e) s.state t.state). inr (gone_there setup v e s.state t.state g))
      (send_by setup fits w lead lag e s t two)

  -- this end sends again
  pub resend_here : let v = run_from setup w (turn_events setup w (Resends e)) in
      ((b : Beside setup v lead lag e s.state t.state) × (IsOwed s.state b.there.state ⊎ ((b.here.state ≡ s.state) × (s.state.next ≤ s.state.una) × (IsWaiting s.state → (is_sending s.state.phase ≡ true) × (0 < s.state.send_window)))))
      ⊎ Over setup v e s.state t.state
  resend_here =
      let v = run_from setup w (turn_events setup w (Resends e)) in
      ⊎_elim
      (λ (d : Resent setup v lead lag (other e) s.state t.state).
      let b : Beside setup v lead lag e s.state t.state = record {
        here = d.after.far;
        there = d.after.near;
        two = d.after.two;
        same_here = same_rest s.state d.after.far.state d.after.rest_is;
        same_there = same_stays t.state d.after.near.state d.after.stays;
        una_here = ap (λ (x : Rest). x.una) d.after.rest_is;
        expected = ap (λ (x : Rest). x.expected) d.after.rest_is;
        una_there = d.after.una;
        next_there = d.after.same_next;
        up = d.after.up;
        owed = d.after.owed;
      } in
      let goal : (k : Beside setup v lead lag e s.state t.state) × (IsOwed s.state k.there.state ⊎ ((k.here.state ≡ s.state) × (s.state.next ≤ s.state.una) × (IsWaiting s.state → (is_sending s.state.phase ≡ true) × (0 < s.state.send_window)))) = (
        b,
        ⊎_elim (λ (z : (s.state.una < d.after.near.state.expected) × (d.after.near.state.ack_owed ≡ true) × (d.after.far.state.next < d.after.near.state.expected + 65535)). inl (z.0, z.1))
            (λ (z : (d.after.far.state ≡ s.state) × (s.state.next ≤ s.state.una) × (IsWaiting s.state → (is_sending s.state.phase ≡ true) × (0 < s.state.send_window))). inr z) d.done,
      ) in
      inl goal)
      (λ (g : Gone setup v (other e) s.state t.state). inr (gone_there setup v e s.state t.state g))
      (resend_by setup fits w lead lag e s t two)
