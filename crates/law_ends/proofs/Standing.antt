-- An end of a link beside the node of a stack, and what one call does to both.
use Rattle.std.proofs.Common.{◌≡◌, ℕ, ◌==◌, Bool, true, false, ◌||◌, List, [], ◌∷◌, ◌++◌, Option, Some, None, if◌then◌else◌, refl, sym, ap, ◌∙◌, subst}
use Rattle.book_base.specs.declared.address.Pair.{Pair}
use Rattle.book_base.specs.declared.end.End.{End}
use Rattle.book_base.specs.declared.end.End.TheVariants.{A, B}
use Rattle.book_segments.proofs.Fields.{some_is}
use Rattle.book_keys.specs.Rows.{Row}
use Rattle.book_endpoint.specs.States.{EndState}
use Rattle.book_link.specs.Worlds.{other, Session, LinkSide, Happening, World, side, find, live}
use Rattle.book_link.specs.Steps.{Act, put, with_sessions, acted, act_on, begin, begin_new}
use Rattle.book_cmd_node.specs.NodeRuns.{NodeState, NodeOutcome, Called, called, after_call, held_end}
use Rattle.law_node.proofs.Held.{held, IsOnce, end_with_same, end_pushed_same, once_with, once_pushed}
use Rattle.law_ends.specs.Users.{UserSession, new_session, at_newest, has_isn, AreFresh, IsTold, AreTold}
use Rattle.law_ends.specs.Links.{IsLive}
use Rattle.law_ends.proofs.Stays.{UserPart, part_of}

-- an end of a link beside a node with these rows, and what its user was told
pub record Stands (pair : Pair) (l : LinkSide) (rows : List Row) (n : NodeState) (us : List UserSession) : Type 0 where
  pub rows_are : l.rows ≡ rows
  pub clock_is : l.clock ≡ n.clock
  pub live_is : IsLive (held_end pair n.ends) (live l.sessions)
  pub once : IsOnce pair n.ends
  pub told : AreTold l.sessions us

-- the same after a change of the link at this end alone
pub record Goes (pair : Pair) (w : World) (e : End) (v : World) (rows : List Row) (n : NodeState) (us : List UserSession) : Type 0 where
  pub here : Stands pair (side v e) rows n us
  pub there : side v (other e) ≡ side w (other e)

pub goes_put : (pair : Pair) (w : World) (e : End) (now : LinkSide) (happened : Option Happening) (rows : List Row) (n : NodeState) (us : List UserSession) → Stands pair now rows n us → Goes pair w e (put w e now happened) rows n us
goes_put pair w A now happened rows n us h = record { here = h; there = refl }
goes_put pair w B now happened rows n us h = record { here = h; there = refl }

pub goes_still : (pair : Pair) (w : World) (e : End) (rows : List Row) (n : NodeState) (us : List UserSession) → Stands pair (side w e) rows n us → Goes pair w e w rows n us
goes_still pair w e rows n us h = record { here = h; there = refl }

-- ---- what a user is told of a session

or_none : (a b : Bool) → b ≡ false → (a || b) ≡ a
or_none true b e = refl
or_none false b e = e

-- a call that leaves the user's part
pub keeps_told : (s : Session) (x : UserSession) (act : Act) → part_of act.state ≡ part_of s.state → act.shown ≡ false → IsTold s x → IsTold (acted s act) x
keeps_told s x act same unshown h = record {
  isn = ap (λ (p : UserPart). p.isn) same ∙ h.isn;
  gave = ap (λ (p : UserPart). p.given) same ∙ h.gave;
  took = ap (λ (p : UserPart). p.taken) same ∙ h.took;
  ended = or_none s.end_shown act.shown unshown ∙ h.ended;
  closed = λ e. h.closed (sym (ap (λ (p : UserPart). p.closing) same) ∙ e);
  aborted = ap (λ (p : UserPart). p.aborted) same ∙ h.aborted;
}

pub newest_same : (us : List UserSession) → at_newest (λ u. u) us ≡ us
newest_same [] = refl
newest_same (u ∷ us) = refl

-- no session of a user has the number, so none of the link's has
pub fresh_found : (sessions : List Session) (us : List UserSession) (isn : ℕ) → AreTold sessions us → has_isn isn us ≡ false → find sessions isn ≡ None
fresh_found [] us isn h e = refl
fresh_found (s ∷ ss) [] isn h e = absurd h
fresh_found (s ∷ ss) (u ∷ us) isn h e = at (u.isn == isn) e (ap (λ n. n == isn) (h.0).isn) (fresh_found ss us isn h.1)
  where
    at : (v : Bool) → (v || has_isn isn us) ≡ false → (s.state.isn == isn) ≡ v → (has_isn isn us ≡ false → find ss isn ≡ None) → (if s.state.isn == isn then Some s else find ss isn) ≡ None
    at true e is next = absurd (cc)
    at false e is next = rw is (next e)

-- ---- a call at the end that is held

-- the live session, where the end is held
lives_as : (pair : Pair) (l : LinkSide) (n : NodeState) (u : EndState) (sessions : List Session) → l.sessions ≡ sessions → held_end pair n.ends ≡ Some u → IsLive (held_end pair n.ends) (live l.sessions) → IsLive (Some u) (live sessions)
lives_as pair l n u sessions is held h = subst (λ (o : Option EndState). IsLive o (live sessions)) held (subst (λ (k : List Session). IsLive (held_end pair n.ends) (live k)) is h)

newest_told : (s : Session) (rest : List Session) (u : EndState) (t : Session) (change : UserSession → UserSession) (us : List UserSession) → ((x : UserSession) → IsTold s x → IsTold t (change x))
    → AreTold (s ∷ rest) us → AreTold (t ∷ rest) (at_newest change us)
newest_told s rest u t change [] tells h = absurd h
newest_told s rest u t change (x ∷ xs) tells h = (tells x h.0, h.1)

pub held_goes : (pair : Pair) (w : World) (e : End) (rows : List Row) (n : NodeState) (us : List UserSession) (u : EndState) (call : EndState → Act) (c : Called) (change : UserSession → UserSession) (sessions : List Session)
    → (side w e).sessions ≡ sessions → held_end pair n.ends ≡ Some u → Stands pair (side w e) rows n us → (call u).state ≡ c.state
    → ((s : Session) (x : UserSession) → s.state ≡ u → IsTold s x → IsTold (acted s (call s.state)) (change x))
    → Goes pair w e (act_on w e sessions call).world rows (after_call n pair c).node (at_newest change us)
held_goes pair w e rows n us u call c change [] is held h same tells =
    let l = lives_as pair (side w e) n u [] is held h.live_is in
    let none = l.1 in absurd (cc)
held_goes pair w e rows n us u call c change (s ∷ rest) is held h same tells =
    let l = lives_as pair (side w e) n u (s ∷ rest) is held h.live_is in
    let state : s.state ≡ u = ap (λ (x : Session). x.state) (some_is s l.0 l.1) ∙ l.2 in
    let act = call s.state in
    let t = acted s act in
    let new : act.state ≡ c.state = ap (λ (x : EndState). let a = call x in a.state) state ∙ same in
    goes_put pair w e (with_sessions (side w e) (t ∷ rest)) act.happened rows (after_call n pair c).node (at_newest change us) (record {
      rows_are = h.rows_are;
      clock_is = h.clock_is;
      live_is = subst (λ (o : Option EndState). IsLive o (Some t)) (sym (end_with_same pair c.state u n.ends held)) (t, refl, new);
      once = once_with pair pair c.state n.ends h.once;
      told = newest_told s rest u t change us (λ x. tells s x state) (subst (λ (k : List Session). AreTold k us) is h.told);
    })

-- a call that leaves what its user knows
pub quiet_goes : (pair : Pair) (w : World) (e : End) (rows : List Row) (n : NodeState) (us : List UserSession) (u : EndState) (call : EndState → Act) (c : Called)
    → held_end pair n.ends ≡ Some u → Stands pair (side w e) rows n us → (call u).state ≡ c.state
    → ((s : EndState) → (part_of (call s).state ≡ part_of s) × ((call s).shown ≡ false))
    → Goes pair w e (act_on w e (side w e).sessions call).world rows (after_call n pair c).node us
quiet_goes pair w e rows n us u call c held h same keeps =
    subst (Goes pair w e (act_on w e (side w e).sessions call).world rows (after_call n pair c).node) (newest_same us)
    (held_goes pair w e rows n us u call c (λ x. x) (side w e).sessions refl held h same (λ s x is t. let k = keeps s.state in keeps_told s x (call s.state) k.0 k.1 t))

-- a call that is refused at an end that is held
pub refused_goes : (pair : Pair) (w : World) (e : End) (rows : List Row) (n : NodeState) (us : List UserSession) (u : EndState) (o : NodeOutcome) → held_end pair n.ends ≡ Some u → Stands pair (side w e) rows n us
    → Goes pair w e w rows (after_call n pair (called u o)).node us
refused_goes pair w e rows n us u o is h = goes_still pair w e rows (after_call n pair (called u o)).node us (record {
  rows_are = h.rows_are;
  clock_is = h.clock_is;
  live_is = subst (λ (o : Option EndState). IsLive o (live (side w e).sessions)) (is ∙ sym (end_with_same pair u u n.ends is)) h.live_is;
  once = once_with pair pair u n.ends h.once;
  told = h.told;
})

-- ---- a new end

begins_by : (pair : Pair) (w : World) (e : End) (rows : List Row) (n : NodeState) (us : List UserSession) (s : EndState) (isn : ℕ) (o : Option Session) → o ≡ None → held_end pair n.ends ≡ None → Stands pair (side w e) rows n us
    → IsTold (record { state = s; end_shown = false }) (new_session isn) → Goes pair w e (begin w e s o).world rows (record n { ends = n.ends ++ held pair s ∷ [] }) (new_session isn ∷ us)
begins_by pair w e rows n us s isn (Some used) unused none h told = absurd (cc)
begins_by pair w e rows n us s isn None unused none h told =
    let t : Session = record { state = s; end_shown = false } in
    let node : NodeState = record n { ends = n.ends ++ held pair s ∷ [] } in
    goes_put pair w e (with_sessions (side w e) (t ∷ (side w e).sessions)) None rows node (new_session isn ∷ us) (record {
      rows_are = h.rows_are;
      clock_is = h.clock_is;
      live_is = subst (λ (o : Option EndState). IsLive o (Some t)) (sym (end_pushed_same pair s n.ends none)) (t, refl, refl);
      once = once_pushed pair pair s n.ends none h.once;
      told = (told, h.told);
    })

pub begins_goes : (pair : Pair) (w : World) (e : End) (rows : List Row) (n : NodeState) (us : List UserSession) (s : EndState) (isn : ℕ) → s.isn ≡ isn → held_end pair n.ends ≡ None → Stands pair (side w e) rows n us
    → IsTold (record { state = s; end_shown = false }) (new_session isn) → AreFresh (new_session isn ∷ us) → Goes pair w e (begin_new w e s).world rows (record n { ends = n.ends ++ held pair s ∷ [] }) (new_session isn ∷ us)
begins_goes pair w e rows n us s isn same none h told fresh =
    let unused : find (side w e).sessions s.isn ≡ None = ap (find (side w e).sessions) same ∙ fresh_found (side w e).sessions us isn h.told fresh.0 in
    begins_by pair w e rows n us s isn (find (side w e).sessions s.isn) unused none h told
