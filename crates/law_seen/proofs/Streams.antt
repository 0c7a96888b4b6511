-- Prefix, end of stream and acknowledgement of the sessions in which no forgery is counted.
use Rattle.std.proofs.Common.{◌≡◌, ◌+◌, ◌≤◌, true, List, [], ◌∷◌, ⊎_elim}
use Rattle.std.specs.List.{AllByRecursion}
use Rattle.book_base.specs.declared.end.End.{End}
use Rattle.book_endpoint.specs.States.{EndState, at_end}
use Rattle.book_link.specs.declared.event.Event.{Event}
use Rattle.book_link.specs.Runs.{run}
use Rattle.book_link.specs.Worlds.{other, Setup, Session, Happening, World, partner_among, side}
use Rattle.law_seen.proofs.Keeping.{AllKept, Kept, run_apart}
use Rattle.law_seen.specs.Apart.{Reliable, SessionBySession, forgeries_in}
use Rattle.law_link.proofs.Invariant.{AllShown, AllWhole}
use Rattle.law_link.proofs.Prefix.{acked_by, comes, ends, low_by, received_if, the_partner}
use Rattle.law_link.proofs.Received.{Acked, OfPartner}
use Rattle.law_link.proofs.Running.{run_inv}
use Rattle.law_link.proofs.Whole.{Whole}
use Rattle.law_link.specs.Headline.{AckedBy}
use Rattle.law_link.specs.Laws.{SetupFits, EventFits}

acknowledged : (others : List Session) (s : EndState) → Acked others s → AckedBy (partner_among others s.isn s.peer_isn) s
acknowledged others s h =
    ⊎_elim (λ (x : s.una ≤ s.isn + 1). low_by (partner_among others s.isn s.peer_isn) s x)
    (λ (x : OfPartner others s (λ t. s.una ≤ t.expected)). acked_by (partner_among others s.isn s.peer_isn) s x.session (the_partner others s (λ t. s.una ≤ t.expected) x) x.what) h

reliable : (w : World) (e : End) (s : Session) → Whole s.state → (s.end_shown ≡ true → at_end s.state ≡ true) → Kept (side w (other e)).sessions s.state → Reliable w e s
reliable w e s whole shown h =
    let others = (side w (other e)).sessions in
    record {
      in_order = comes others s.state whole h.received;
      whole = λ t. ends others s.state whole h.received t;
      shown = λ t. ends others s.state whole h.received (shown t);
      received = λ few. received_if (partner_among others s.state.isn s.state.peer_isn) s.state (acknowledged others s.state (h.acked few));
    }

all_reliable : (w : World) (e : End) (history : List Happening) (sessions : List Session) → AllWhole sessions → AllShown sessions → AllKept e history (side w (other e)).sessions sessions
    → AllByRecursion (λ (s : Session). forgeries_in e s.state.isn history ≡ 0 → Reliable w e s) sessions
all_reliable w e history [] whole shown h = tt
all_reliable w e history (s ∷ rest) whole shown h = (λ z. reliable w e s whole.0 shown.0 (h.0 z), all_reliable w e history rest whole.1 shown.1 h.1)

pub session_by_session : (setup : Setup) (fits : SetupFits setup) (events : List Event) → AllByRecursion EventFits events → SessionBySession (run setup events)
session_by_session setup fits events f e =
    let w = run setup events in
    let inv = run_inv setup fits events f in
    all_reliable w e w.history (side w e).sessions (inv.whole e) (inv.shown e) ((run_apart setup fits events f).kept e)
