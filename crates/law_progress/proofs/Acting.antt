-- What a call on the live session of one end does to a link that is up.
use Rattle.std.proofs.Common.{◌≡◌, ℕ, ◌^◌, ◌<◌, true, List, [], ◌∷◌, length, Option, Some, refl, sym, ap, ◌∙◌, subst, arith}
use Rattle.std.specs.List.{AllByRecursion}
use Rattle.book_base.specs.declared.end.End.{End}
use Rattle.book_base.specs.declared.end.End.TheVariants.{A, B}
use Rattle.book_segments.proofs.Fields.{some_is}
use Rattle.book_keys.specs.Rows.{Row}
use Rattle.book_keys.specs.Plans.{AlignedFrom, has_sendable}
use Rattle.book_endpoint.specs.States.{EndState}
use Rattle.book_link.specs.Worlds.{other, Setup, pair_of, Session, Happening, World, side, live, forgeries}
use Rattle.book_link.specs.Steps.{Act, add, acted, act_on, on_live}
use Rattle.law_link.specs.Headline.{GivesFew, ArePartners}
use Rattle.law_link.proofs.Sessions.{both}
use Rattle.law_progress.proofs.Opened.{BothOpen}
use Rattle.law_progress.specs.Progress.{is_open}

-- the sessions of both ends, one of them changed
abbrev pub instead : End → Session → (End → Session) → End → Session
instead A u old A = u
instead A u old B = old B
instead B u old A = old A
instead B u old B = u

pub instead_here : (x : End) (u : Session) (old : End → Session) → instead x u old x ≡ u
instead_here A u old = refl
instead_here B u old = refl

pub instead_other : (y : End) (u : Session) (old : End → Session) → instead (other y) u old y ≡ old y
instead_other A u old = refl
instead_other B u old = refl

pub instead_there : (y : End) (u : Session) (old : End → Session) → instead y u old (other y) ≡ old (other y)
instead_there A u old = refl
instead_there B u old = refl

pub instead_far : (y : End) (u : Session) (old : End → Session) → instead (other y) u old (other y) ≡ u
instead_far A u old = refl
instead_far B u old = refl

-- what a call does to a world
pub record Acted (w : World) (x : End) (u : Session) (happened : Option Happening) (v : World) : Type 0 where
  pub clock : (e : End) → (side v e).clock ≡ (side w e).clock
  pub rows : (e : End) → (side v e).rows ≡ (side w e).rows
  pub lives : (sessions : End → Session) → ((e : End) → live (side w e).sessions ≡ Some (sessions e)) → (e : End) → live (side v e).sessions ≡ Some (instead x u sessions e)
  pub history : v.history ≡ add happened w.history
  pub few : length u.state.given < 2 ^ 31 → GivesFew w → GivesFew v

abbrev Few : List Session → Type 0
Few sessions = AllByRecursion (λ (s : Session). length s.state.given < 2 ^ 31) sessions

act_by : (w : World) (x : End) (sessions : List Session) (call : EndState → Act) (t : Session) → (side w x).sessions ≡ sessions → live sessions ≡ Some t
    → Acted w x (acted t (call t.state)) (call t.state).happened (act_on w x sessions call).world × ((act_on w x sessions call).outcome ≡ (call t.state).outcome)
act_by w x [] call t is lives = absurd (cc)
act_by w A (s ∷ rest) call t is lives =
    let v = (act_on w A (s ∷ rest) call).world in
    let u = acted s (call s.state) in
    subst (λ (y : Session). Acted w A (acted y (call y.state)) (call y.state).happened v × ((act_on w A (s ∷ rest) call).outcome ≡ (call y.state).outcome)) (some_is s t lives) (
      record {
        clock = both (λ e. (side v e).clock ≡ (side w e).clock) refl refl;
        rows = both (λ e. (side v e).rows ≡ (side w e).rows) refl refl;
        lives = λ sessions h. both (λ e. live (side v e).sessions ≡ Some (instead A u sessions e)) refl (h B);
        history = refl;
        few = λ low h. let old : Few (s ∷ rest) = subst Few is (h A) in both (λ e. Few (side v e).sessions) (low, old.1) (h B);
      },
      refl,
    )
act_by w B (s ∷ rest) call t is lives =
    let v = (act_on w B (s ∷ rest) call).world in
    let u = acted s (call s.state) in
    subst (λ (y : Session). Acted w B (acted y (call y.state)) (call y.state).happened v × ((act_on w B (s ∷ rest) call).outcome ≡ (call y.state).outcome)) (some_is s t lives) (
      record {
        clock = both (λ e. (side v e).clock ≡ (side w e).clock) refl refl;
        rows = both (λ e. (side v e).rows ≡ (side w e).rows) refl refl;
        lives = λ sessions h. both (λ e. live (side v e).sessions ≡ Some (instead B u sessions e)) (h A) refl;
        history = refl;
        few = λ low h. let old : Few (s ∷ rest) = subst Few is (h B) in both (λ e. Few (side v e).sessions) (h A) (low, old.1);
      },
      refl,
    )

pub act_live : (w : World) (x : End) (call : EndState → Act) (t : Session) → live (side w x).sessions ≡ Some t
    → Acted w x (acted t (call t.state)) (call t.state).happened (on_live w x call).world × ((on_live w x call).outcome ≡ (call t.state).outcome)
act_live w x call t lives = act_by w x (side w x).sessions call t refl lives

-- a change that leaves an end up
pub record StaysUp (s t : EndState) : Type 0 where
  pub opened : is_open t.phase ≡ true
  pub isn : t.isn ≡ s.isn
  pub peer : t.peer_isn ≡ s.peer_isn
  pub closing : t.closing ≡ s.closing
  pub given : t.given ≡ s.given

-- the link is up after the call, with that session
pub record UpBy (setup : Setup) (v : World) (lead lag : ℕ) (sessions : End → Session) : Type 0 where
  pub up : BothOpen setup v lead lag
  pub is : (e : End) → up.session e ≡ sessions e
  pub few : GivesFew v

live_few : (sessions : List Session) (t : Session) → live sessions ≡ Some t → Few sessions → length t.state.given < 2 ^ 31
live_few [] t lives h = absurd (cc)
live_few (s ∷ rest) t lives h = subst (λ (x : Session). length x.state.given < 2 ^ 31) (some_is s t lives) h.0

still : (P : Session → Type 0) (x : End) (u : Session) (old : End → Session) → P u → ((e : End) → P (old e)) → (e : End) → P (instead x u old e)
still P A u old new h A = new
still P A u old new h B = h B
still P B u old new h A = h A
still P B u old new h B = new

partners_still : (x : End) (u : Session) (old : End → Session) → StaysUp (old x).state u.state → ArePartners (old A).state (old B).state → ArePartners (instead x u old A).state (instead x u old B).state
partners_still A u old h p = record { here = h.peer ∙ p.here; there = p.there ∙ ap (λ n. Some n) (sym h.isn) }
partners_still B u old h p = record { here = p.here ∙ ap (λ n. Some n) (sym h.isn); there = h.peer ∙ p.there }

pub up_by : (setup : Setup) (w : World) (lead lag : ℕ) (up : BothOpen setup w lead lag) (few : GivesFew w) (x : End) (u : Session) (happened : Option Happening) (v : World) → Acted w x u happened v → StaysUp (up.session x).state u.state
    → forgeries (add happened w.history) ≡ 0 → UpBy setup v lead lag (instead x u up.session)
up_by setup w lead lag up few x u happened v acts stays none =
    let old = up.session in
    let low = live_few (side w x).sessions (old x) (up.lives x) (few x) in
    let long : length u.state.given ≡ length (old x).state.given = ap length stays.given in
    record {
      up = record {
        session = instead x u old;
        lives = acts.lives old up.lives;
        partners = partners_still x u old stays up.partners;
        opened = still (λ (s : Session). is_open s.state.phase ≡ true) x u old stays.opened up.opened;
        keyed = λ e. ap (λ (r : List Row). has_sendable r (pair_of setup e) (side v e).clock) (acts.rows e) ∙ ap (has_sendable (side w e).rows (pair_of setup e)) (acts.clock e) ∙ up.keyed e;
        aligned = λ e. subst (λ (r : List Row). AlignedFrom (side v (other e)).rows r (pair_of setup (other e)) lead lag) (sym (acts.rows e))
            (subst (λ (r : List Row). AlignedFrom r (side w e).rows (pair_of setup (other e)) lead lag) (sym (acts.rows (other e))) (up.aligned e));
        early = λ e. let h = up.early e in let here = acts.clock e in let there = acts.clock (other e) in omega arith;
        late = λ e. let h = up.late e in let here = acts.clock e in let there = acts.clock (other e) in omega arith;
        unforged = ap forgeries acts.history ∙ none;
      };
      is = λ e. refl;
      few = acts.few (omega arith) few;
    }
