-- A session has at most one partner.
use Rattle.std.proofs.Common.{◌≡◌, ℕ, ◌==◌, Bool, true, false, List, [], ◌∷◌, Option, Some, None, if◌then◌else◌, refl, sym, ap, ◌∙◌, subst}
use Rattle.std.specs.List.{AllByRecursion}
use Rattle.book_segments.proofs.Fields.{eqb_is, some_is}
use Rattle.book_endpoint.specs.States.{EndState}
use Rattle.book_link.specs.declared.event.Event.{Event}
use Rattle.law_link.specs.Headline.{ArePartners, OnePartner, PartnerIsOne}
use Rattle.law_link.specs.Laws.{SetupFits, EventFits}
use Rattle.book_link.specs.Runs.{run}
use Rattle.book_link.specs.Worlds.{other, Setup, Session, World, side, find, is_known, known_by, partner_among}
use Rattle.law_link.proofs.Invariant.{Distinct}
use Rattle.law_link.proofs.Sessions.{find_own, find_isn}
use Rattle.law_link.proofs.Running.{run_inv}
use Rattle.law_link.proofs.Sessions.{known_is, partner_is}

-- each session is the one that is found by its number
abbrev EachFound : List Session → List Session → Type 0
EachFound all sessions = AllByRecursion (λ (t : Session). find all t.state.isn ≡ Some t) sessions

found_later : (s t : Session) (rest : List Session) (b : Bool) → (s.state.isn == t.state.isn) ≡ b → find rest s.state.isn ≡ None → find rest t.state.isn ≡ Some t
    → (if b then Some s else find rest t.state.isn) ≡ Some t
found_later s t rest true is none e = let same : s.state.isn ≡ t.state.isn = eqb_is s.state.isn t.state.isn is in absurd (cc)
found_later s t rest false is none e = e

each_later : (s : Session) (rest sessions : List Session) → find rest s.state.isn ≡ None → EachFound rest sessions → EachFound (s ∷ rest) sessions
each_later s rest [] none h = tt
each_later s rest (t ∷ sessions) none h = (found_later s t rest (s.state.isn == t.state.isn) refl none h.0, each_later s rest sessions none h.1)

each_found : (sessions : List Session) → Distinct sessions → EachFound sessions sessions
each_found [] h = tt
each_found (s ∷ rest) h = (find_own s rest (s.state.isn == s.state.isn) refl, each_later s rest rest h.0 (each_found rest h.1))

all_partners : (all sessions : List Session) (s : EndState) → EachFound all sessions
    → AllByRecursion (λ (t : Session). ArePartners s t.state → partner_among all s.isn s.peer_isn ≡ Some t) sessions
all_partners all [] s h = tt
all_partners all (t ∷ rest) s h = ((λ p. partner_is all s.isn s.peer_isn t.state.isn t p.here h.0 p.there), all_partners all rest s h.1)

pub one_partner : (setup : Setup) (fits : SetupFits setup) (events : List Event) → AllByRecursion EventFits events → OnePartner (run setup events)
one_partner setup fits events f e s =
    let sessions = (side (run setup events) (other e)).sessions in
    all_partners sessions sessions s (each_found sessions ((run_inv setup fits events f).distinct (other e)))

knows_if : (all : List Session) (s : EndState) (q : ℕ) (u t : Session) (b : Bool) → is_known u.state.peer_isn s.isn ≡ b → s.peer_isn ≡ Some q → find all q ≡ Some u → (if b then Some u else None) ≡ Some t
    → ArePartners s t.state × (find all t.state.isn ≡ Some t)
knows_if all s q u t false is e found got = absurd (cc)
knows_if all s q u t true is e found got =
    let same : u ≡ t = some_is u t got in
    let isn : u.state.isn ≡ q = find_isn all q u found in
    let mine : ArePartners s u.state × (find all u.state.isn ≡ Some u) =
    (record { here = e ∙ ap (λ n. Some n) (sym isn); there = known_is u.state.peer_isn s.isn is }, subst (λ (n : ℕ). find all n ≡ Some u) (sym isn) found) in
    subst (λ (x : Session). ArePartners s x.state × (find all x.state.isn ≡ Some x)) same mine

known_partner : (all : List Session) (s : EndState) (q : ℕ) (o : Option Session) (t : Session) → s.peer_isn ≡ Some q → find all q ≡ o → known_by s.isn o ≡ Some t
    → ArePartners s t.state × (find all t.state.isn ≡ Some t)
known_partner all s q None t e found got = absurd (cc)
known_partner all s q (Some u) t e found got = knows_if all s q u t (is_known u.state.peer_isn s.isn) refl e found got

among_partner : (all : List Session) (s : EndState) (o : Option ℕ) (t : Session) → s.peer_isn ≡ o → partner_among all s.isn o ≡ Some t → ArePartners s t.state × (find all t.state.isn ≡ Some t)
among_partner all s None t e got = absurd (cc)
among_partner all s (Some q) t e got = known_partner all s q (find all q) t e refl got

pub partner_is_one : (w : World) → PartnerIsOne w
partner_is_one w e s t got = among_partner (side w (other e)).sessions s s.peer_isn t refl got
