-- All that each session received is its partner's, in each state of each run.
use Rattle.std.proofs.Common.{◌≡◌, ℕ, ◌∙◌, List, [], ◌∷◌, Option, Some, None, refl, sym, subst}
use Rattle.std.specs.List.{AllByRecursion}
use Rattle.book_segments.proofs.Fields.{some_is}
use Rattle.book_endpoint.specs.States.{EndState}
use Rattle.book_link.specs.declared.event.Event.{Event}
use Rattle.book_link.specs.Runs.{run}
use Rattle.book_link.specs.Worlds.{other, Setup, Session, side, partner_among}
use Rattle.law_link.specs.Laws.{SetupFits, EventFits}
use Rattle.law_link.specs.Sessions.{IsGivenAt, ReceivesFrom, ReceivesGiven}
use Rattle.law_link.proofs.Delivery.{run_heard}
use Rattle.law_link.proofs.Prefix.{the_partner}
use Rattle.law_link.proofs.Received.{FinMade, OfPartner, Received, AllReceived}

-- no byte stands where each would be a partner's that there isn't
none_by : (o : Option ℕ) → ((b : ℕ) → o ≡ Some b → ⊥) → o ≡ None
none_by None never = refl
none_by (Some b) never = absurd (never b refl)

partner_of : (others : List Session) (s : EndState) (P : EndState → Type 0) (t : Session) → partner_among others s.isn s.peer_isn ≡ Some t → OfPartner others s P → P t.state
partner_of others s P t is o = subst (λ (x : Session). P x.state) (some_is o.session t (sym (the_partner others s P o) ∙ is)) o.what

no_partner : (others : List Session) (s : EndState) (P : EndState → Type 0) → partner_among others s.isn s.peer_isn ≡ None → OfPartner others s P → ⊥
no_partner others s P is o = let one = the_partner others s P o in absurd (cc)

receives : (others : List Session) (s : EndState) (o : Option Session) → partner_among others s.isn s.peer_isn ≡ o → Received others s → ReceivesFrom o s
receives others s None is h = (
  λ n. none_by (s.received n) (λ b e. no_partner others s (λ t. IsGivenAt t n b) is (h.bytes n b e)),
  none_by s.fin (λ f e. no_partner others s (λ t. FinMade t f) is (h.fins f e)),
)
receives others s (Some t) is h = record {
  bytes = λ n b e. partner_of others s (λ u. IsGivenAt u n b) t is (h.bytes n b e);
  fin = λ n e. partner_of others s (λ u. FinMade u n) t is (h.fins n e);
}

all_receive : (others sessions : List Session) → AllReceived others sessions
    → AllByRecursion (λ (s : Session). ReceivesFrom (partner_among others s.state.isn s.state.peer_isn) s.state) sessions
all_receive others [] h = tt
all_receive others (s ∷ rest) h = (receives others s.state (partner_among others s.state.isn s.state.peer_isn) refl h.0, all_receive others rest h.1)

pub receives_given : (setup : Setup) (fits : SetupFits setup) (events : List Event) → AllByRecursion EventFits events → ReceivesGiven (run setup events)
receives_given setup fits events f none e =
    let w = run setup events in all_receive (side w (other e)).sessions (side w e).sessions ((run_heard setup fits events f).origin none e)
