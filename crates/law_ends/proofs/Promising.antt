-- What the laws of a link say of two stacks.
use Rattle.std.proofs.Common.{◌≡◌, ◌⊎◌, inl, inr, ℕ, ◌<◌, ◌^◌, Bool, true, false, List, [], ◌∷◌, ◌++◌, length, Option, Some, None, ◌==◌, if◌then◌else◌, refl, sym, ap, ◌∙◌, subst, append_assoc}
use Rattle.std.specs.List.{AllByRecursion}
use Rattle.book_base.specs.declared.end.End.{End}
use Rattle.book_segments.proofs.Fields.{some_is}
use Rattle.book_endpoint.specs.States.{EndState, ready, at_end}
use Rattle.book_link.specs.Worlds.{other, Setup, pair_of, Session, World, side, find, live, partner}
use Rattle.book_cmd_node.specs.NodeRuns.{held_end}
use Rattle.law_link.specs.Headline.{IsPrefixOf, ComesFrom, IsWhole, IsReceived, GivesFew}
use Rattle.law_link.specs.Laws.{SetupFits}
use Rattle.law_link.specs.Sessions.{ReceivesFrom}
use Rattle.law_link.proofs.Prefix.{delivers_in_order, ends_whole, shows_ends, acknowledged_was_received}
use Rattle.law_link.proofs.Receiving.{receives_given}
use Rattle.law_link.proofs.Partners.{partner_is_one}
use Rattle.law_ends.specs.Doings.{Doing, DoingFits, stack_of, twins}
use Rattle.law_ends.specs.Users.{UserSession, user_sessions, FreshIsns, IsTold, AreTold}
use Rattle.law_ends.specs.Links.{IsLive, link_events}
use Rattle.law_ends.specs.Ends.{BeginsPartners, IsAllOfPartners, LiveInOrder, LiveEndsWhole, NewestTook, past, OneIs, HeldInOrder, TookInOrder, ToldInOrder, HeldIsPartners, HeldEndsWhole, TookWhole, ToldEndsWhole, GaveFew, HeldIsReceived}
use Rattle.law_ends.proofs.Fitting.{events_fit_all}
use Rattle.law_ends.proofs.Going.{is_past}

-- ---- the end that is held is one of the link's sessions

-- what holds of all sessions holds of the one that is live
of_live : (P : EndState → Type 0) (sessions : List Session) (u : EndState) → IsLive (Some u) (live sessions) → AllByRecursion (λ (s : Session). P s.state) sessions → P u
of_live P [] u h all = let none = h.1 in absurd (cc)
of_live P (s ∷ rest) u h all = subst P (ap (λ (x : Session). x.state) (some_is s h.0 h.1) ∙ h.2) all.0

-- ---- one of the link's sessions is one of a user's

-- the user's session of a session that is found
pub one_found : (P : UserSession → Type 0) (sessions : List Session) (us : List UserSession) (isn : ℕ) (t : Session) → AreTold sessions us → find sessions isn ≡ Some t → ((v : UserSession) → IsTold t v → P v) → OneIs P us
one_found P [] us isn t told is holds = absurd (cc)
one_found P (s ∷ rest) [] isn t told is holds = absurd told
one_found P (s ∷ rest) (u ∷ us) isn t told is holds = at (s.state.isn == isn) is (λ more. one_found P rest us isn t told.1 more holds)
  where
    at : (b : Bool) → (if b then Some s else find rest isn) ≡ Some t → (find rest isn ≡ Some t → OneIs P us) → P u ⊎ OneIs P us
    at true e next = inl (holds u (subst (λ (x : Session). IsTold x u) (some_is s t e) told.0))
    at false e next = inr (next e)

-- ---- what holds of all sessions holds of what all users know

all_told : (P : Session → Type 0) (Q : UserSession → Type 0) (sessions : List Session) (us : List UserSession) → AreTold sessions us → ((s : Session) (u : UserSession) → IsTold s u → P s → Q u) → AllByRecursion P sessions → AllByRecursion Q us
all_told P Q [] [] told each all = tt
all_told P Q [] (u ∷ us) told each all = absurd told
all_told P Q (s ∷ rest) [] told each all = absurd told
all_told P Q (s ∷ rest) (u ∷ us) told each all = (each s u told.0 all.0, all_told P Q rest us told.1 each all.1)

all_known : (P : Session → Type 0) (Q : UserSession → Type 0) (sessions : List Session) (us : List UserSession) → AreTold sessions us → ((s : Session) (u : UserSession) → IsTold s u → Q u → P s) → AllByRecursion Q us → AllByRecursion P sessions
all_known P Q [] us told each all = tt
all_known P Q (s ∷ rest) [] told each all = absurd told
all_known P Q (s ∷ rest) (u ∷ us) told each all = (each s u told.0 all.0, all_known P Q rest us told.1 each all.1)

-- nothing comes before something is taken
prefix_nothing : (xs ys : List ℕ) → xs ++ ys ≡ [] → xs ≡ []
prefix_nothing [] ys e = refl
prefix_nothing (x ∷ xs) ys e = absurd (cc)

prefix_first : (xs ys zs : List ℕ) → IsPrefixOf (xs ++ ys) zs → IsPrefixOf xs zs
prefix_first xs ys zs h = (ys ++ h.0, sym (append_assoc xs ys h.0) ∙ h.1)

-- the session of the end that is held is its user's newest
newest_took : (P : List ℕ → Type 0) (sessions : List Session) (us : List UserSession) (u : EndState) → AreTold sessions us → IsLive (Some u) (live sessions) → P u.taken → NewestTook us u P
newest_took P [] us u told h holds = let none = h.1 in absurd (cc)
newest_took P (s ∷ rest) [] u told h holds = absurd told
newest_took P (s ∷ rest) (x ∷ xs) u told h holds =
    let same : s.state ≡ u = ap (λ (y : Session). y.state) (some_is s h.0 h.1) ∙ h.2 in
    let k = told.0 in
    record {
      newest = x;
      older = xs;
      is = refl;
      isn = sym k.isn ∙ ap (λ (y : EndState). y.isn) same;
      took = subst P (ap (λ (y : EndState). y.taken) (sym same) ∙ k.took) holds;
    }

module _ (setup : Setup) (most : End → ℕ) (doings : List Doing) (fits : SetupFits setup) (all : AllByRecursion DoingFits doings) (fresh : FreshIsns setup most doings) where
  abbrev w : World
  w = past setup most doings

  live_at : (e : End) (u : EndState) → held_end (pair_of setup e) (stack_of (twins setup most doings) e).node.ends ≡ Some u → IsLive (Some u) (live (side w e).sessions)
  live_at e u held = subst (λ (o : Option EndState). IsLive o (live (side w e).sessions)) held (is_past setup most doings fresh e).held

  told_at : (e : End) → AreTold (side w e).sessions (user_sessions setup most doings e)
  told_at e = (is_past setup most doings fresh e).told

  -- the user's session of a partner
  partners_told : (P : UserSession → Type 0) (e : End) (s : EndState) (t : Session) → partner w e s ≡ Some t → ((v : UserSession) → IsTold t v → P v) → OneIs P (user_sessions setup most doings (other e))
  partners_told P e s t is holds = one_found P (side w (other e)).sessions (user_sessions setup most doings (other e)) t.state.isn t (told_at (other e)) (partner_is_one w e s t is).1 holds

  pub held_in_order : HeldInOrder setup most doings
  held_in_order unforged e u held =
      of_live (λ (s : EndState). ComesFrom (partner w e s) (s.taken ++ ready s)) (side w e).sessions u (live_at e u held) (delivers_in_order setup fits (link_events setup most doings) (events_fit_all setup most doings all) unforged e)

  begins_by : (e : End) (u : EndState) (o : Option Session) → partner w e u ≡ o → ComesFrom o (u.taken ++ ready u) → BeginsPartners (user_sessions setup most doings (other e)) u (u.taken ++ ready u)
  begins_by e u None is h = inl h
  begins_by e u (Some t) is h =
      let here = (partner_is_one w e u t is).0.here in
      inr (partners_told (λ v. (u.peer_isn ≡ Some v.isn) × IsPrefixOf (u.taken ++ ready u) v.gave) e u t is (λ v k.
      (here ∙ ap (λ (n : ℕ). Some n) k.isn, subst (λ (l : List ℕ). IsPrefixOf (u.taken ++ ready u) l) k.gave h)))

  pub live_in_order : LiveInOrder setup most doings
  live_in_order unforged e u held =
      newest_took (λ took. BeginsPartners (user_sessions setup most doings (other e)) u (took ++ ready u)) (side w e).sessions (user_sessions setup most doings e) u (told_at e) (live_at e u held)
      (begins_by e u (partner w e u) refl (held_in_order unforged e u held))

  took_by : (e : End) (s : Session) (u : UserSession) (o : Option Session) → partner w e s.state ≡ o → IsTold s u → ComesFrom o (s.state.taken ++ ready s.state) → TookInOrder (user_sessions setup most doings (other e)) u
  took_by e s u None is told h = inl (sym told.took ∙ prefix_nothing s.state.taken (ready s.state) h)
  took_by e s u (Some t) is told h =
      inr (partners_told (λ v. IsPrefixOf u.took v.gave) e s.state t is (λ v k.
      subst (λ (l : List ℕ). IsPrefixOf l v.gave) told.took (subst (λ (l : List ℕ). IsPrefixOf s.state.taken l) k.gave (prefix_first s.state.taken (ready s.state) t.state.given h))))

  pub told_in_order : ToldInOrder setup most doings
  told_in_order unforged e =
      all_told (λ (s : Session). ComesFrom (partner w e s.state) (s.state.taken ++ ready s.state)) (TookInOrder (user_sessions setup most doings (other e))) (side w e).sessions (user_sessions setup most doings e) (told_at e)
      (λ s u told h. took_by e s u (partner w e s.state) refl told h) (delivers_in_order setup fits (link_events setup most doings) (events_fit_all setup most doings all) unforged e)

  pub held_is_partners : HeldIsPartners setup most doings
  held_is_partners unforged e u held =
      of_live (λ (s : EndState). ReceivesFrom (partner w e s) s) (side w e).sessions u (live_at e u held) (receives_given setup fits (link_events setup most doings) (events_fit_all setup most doings all) unforged e)

  pub held_ends_whole : HeldEndsWhole setup most doings
  held_ends_whole unforged e u held =
      of_live (λ (s : EndState). at_end s ≡ true → IsWhole (partner w e s) s.taken) (side w e).sessions u (live_at e u held) (ends_whole setup fits (link_events setup most doings) (events_fit_all setup most doings all) unforged e)

  all_by : (e : End) (u : EndState) (o : Option Session) → partner w e u ≡ o → IsWhole o u.taken → IsAllOfPartners (user_sessions setup most doings (other e)) u u.taken
  all_by e u None is h = absurd h
  all_by e u (Some t) is h =
      let here = (partner_is_one w e u t is).0.here in
      partners_told (λ v. (u.peer_isn ≡ Some v.isn) × (v.closed ≡ true) × (u.taken ≡ v.gave)) e u t is (λ v k. (here ∙ ap (λ (n : ℕ). Some n) k.isn, k.closed h.0, h.1 ∙ k.gave))

  pub live_ends_whole : LiveEndsWhole setup most doings
  live_ends_whole unforged e u held ends =
      newest_took (IsAllOfPartners (user_sessions setup most doings (other e)) u) (side w e).sessions (user_sessions setup most doings e) u (told_at e) (live_at e u held)
      (all_by e u (partner w e u) refl (held_ends_whole unforged e u held ends))

  whole_by : (e : End) (s : Session) (u : UserSession) (o : Option Session) → partner w e s.state ≡ o → IsTold s u → (s.end_shown ≡ true → IsWhole o s.state.taken) → TookWhole (user_sessions setup most doings (other e)) u
  whole_by e s u None is told h ended = absurd (h (told.ended ∙ ended))
  whole_by e s u (Some t) is told h ended =
      let whole = h (told.ended ∙ ended) in
      partners_told (λ v. (v.closed ≡ true) × (u.took ≡ v.gave)) e s.state t is (λ v k. (k.closed whole.0, sym told.took ∙ whole.1 ∙ k.gave))

  pub told_ends_whole : ToldEndsWhole setup most doings
  told_ends_whole unforged e =
      all_told (λ (s : Session). s.end_shown ≡ true → IsWhole (partner w e s.state) s.state.taken) (TookWhole (user_sessions setup most doings (other e))) (side w e).sessions (user_sessions setup most doings e) (told_at e)
      (λ s u told h. whole_by e s u (partner w e s.state) refl told h) (shows_ends setup fits (link_events setup most doings) (events_fit_all setup most doings all) unforged e)

  gives_few : GaveFew setup most doings → GivesFew w
  gives_few few e =
      all_known (λ (s : Session). length s.state.given < 2 ^ 31) (λ (u : UserSession). length u.gave < 2 ^ 31) (side w e).sessions (user_sessions setup most doings e) (told_at e)
      (λ s u told low. subst (λ (l : List ℕ). length l < 2 ^ 31) (sym told.gave) low) (few e)

  pub held_is_received : HeldIsReceived setup most doings
  held_is_received unforged few e u held =
      of_live (λ (s : EndState). IsReceived (partner w e s) s) (side w e).sessions u (live_at e u held) (acknowledged_was_received setup fits (link_events setup most doings) (events_fit_all setup most doings all) unforged (gives_few few) e)
