-- Prefix, end of stream and acknowledgement hold of each run.
use Rattle.std.proofs.Common.{◌≡◌, ℕ, zero, suc, ◌+◌, ◌-◌, ◌≤◌, ◌<◌, ◌==◌, min, true, List, [], ◌∷◌, ◌++◌, length, unwrap_or, slice_get, Option, Some, None, inl, inr, ⊎_elim, refl, sym, ap, ◌∙◌, subst, arith, append-nil, length-append}
use Rattle.std.specs.List.{AllByRecursion}
use Rattle.book_segments.proofs.Fields.{and_tells, eqb_is, some_is}
use Rattle.book_endpoint.specs.States.{EndState, first, ready_at, ready_count, ready, passed_fin, at_end}
use Rattle.book_segments.specs.Received.{below_limit, bytes_from}
use Rattle.law_link.proofs.Whole.{Whole}
use Rattle.law_link.proofs.Carrying.{GivenAt}
use Rattle.law_link.proofs.Lists.{bytes_from-add, length-bytes_from}
use Rattle.book_link.specs.declared.event.Event.{Event}
use Rattle.law_link.specs.Headline.{IsPrefixOf, ComesFrom, DeliversInOrder, IsWhole, EndsWhole, ShowsEnds, AckedBy, Acknowledges, IsReceived, AcknowledgedWasReceived}
use Rattle.law_link.specs.Laws.{SetupFits, EventFits}
use Rattle.book_link.specs.Worlds.{other, Setup, Session, side, partner_among}
use Rattle.book_link.specs.Runs.{run}
use Rattle.law_link.proofs.Invariant.{AllWhole, AllShown}
use Rattle.law_link.proofs.Sessions.{find_isn}
use Rattle.law_link.proofs.Sessions.{partner_is}
use Rattle.law_link.proofs.Running.{run_inv}
use Rattle.law_link.proofs.Delivery.{run_heard}
use Rattle.law_link.proofs.Ended.{past_fin_known}
use Rattle.law_link.proofs.Received.{FinMade, OfPartner, Received, AllReceived, AllAcked}

-- ---- prefix

-- bytes that agree with a list from its beginning are a prefix of it
prefix_from : (m : ℕ → Option ℕ) (given : List ℕ) (p n : ℕ)
    → ((i : ℕ) → i < n → (b : ℕ) × (m (p + i) ≡ Some b) × (slice_get given i ≡ Some b)) → IsPrefixOf (bytes_from m p n) given
prefix_from m given p zero h = (given, refl)
prefix_from m [] p (suc n) h = let first = h 0 (omega arith) in absurd (cc)
prefix_from m (g ∷ given) p (suc n) h =
    let first = h 0 (omega arith) in
    let at : p + 0 ≡ p = omega arith in
    let here : m p ≡ Some first.0 = rw at at first.1 in
    let same : g ≡ first.0 = cc in
    let rest = prefix_from m given (suc p) n (λ i low. let r = h (suc i) (omega arith) in let e : p + suc i ≡ suc p + i = omega arith in (r.0, rw e at r.1, r.2)) in
    (rest.0, (let head : unwrap_or (m p) 0 ≡ g = ap (λ o. unwrap_or o 0) here ∙ sym same in let e = rest.1 in cc))

empty_unless : (m : ℕ → Option ℕ) (p n : ℕ) → ((i : ℕ) → i < n → ⊥) → bytes_from m p n ≡ []
empty_unless m p zero h = refl
empty_unless m p (suc n) h = absurd (h 0 (omega arith))

-- all that stands in order
all_bytes : (s : EndState) → Whole s → s.taken ++ ready s ≡ bytes_from s.received (first s.peer_isn) (below_limit s.fin s.expected - first s.peer_isn)
unfolding ready
all_bytes s h =
    let v = h.stream in
    let begun = v.begun in
    let sum : length s.taken + ready_count s ≡ below_limit s.fin s.expected - first s.peer_isn = omega arith in
    ap (λ l. l ++ ready s) v.took ∙ sym (bytes_from-add s.received (first s.peer_isn) (length s.taken) (ready_count s)) ∙ ap (bytes_from s.received (first s.peer_isn)) sum

pub the_partner : (others : List Session) (s : EndState) (P : EndState → Type 0) (o : OfPartner others s P) → partner_among others s.isn s.peer_isn ≡ Some o.session
the_partner others s P o = partner_is others s.isn s.peer_isn o.peer o.session o.knows o.found o.back

abbrev Each : EndState → Option Session → ℕ → ℕ → Type 0
Each s o start n = (i : ℕ) → i < n → (b : ℕ) × (s.received (start + i) ≡ Some b) × (t : Session) × (o ≡ Some t) × (slice_get t.state.given i ≡ Some b)

partner_comes : (s : EndState) (o : Option Session) (start n : ℕ) → Each s o start n → ComesFrom o (bytes_from s.received start n)
partner_comes s None start n each = empty_unless s.received start n (λ i low. let r = each i low in let is = r.3 in absurd (cc))
partner_comes s (Some t) start n each =
    prefix_from s.received t.state.given start n (λ i low.
    let r = each i low in (r.0, r.1, subst (λ (u : Session). slice_get u.state.given i ≡ Some r.0) (sym (some_is t r.2 r.3)) r.4))

pub comes : (others : List Session) (s : EndState) → Whole s → Received others s → ComesFrom (partner_among others s.isn s.peer_isn) (s.taken ++ ready s)
comes others s h from =
    let start = first s.peer_isn in
    let o = partner_among others s.isn s.peer_isn in
    subst (λ (l : List ℕ). ComesFrom o l) (sym (all_bytes s h))
    (partner_comes s o start (below_limit s.fin s.expected - start) (λ i low.
    let f = h.stream.filled (start + i) (omega arith) (omega arith) in
    let w = from.bytes (start + i) f.0 f.1 in
    let t = w.session in
    let isn : t.state.isn ≡ w.peer = find_isn others w.peer t w.found in
    let begin : start ≡ w.peer + 1 = ap first w.knows in
    let at = w.what.1 in
    let index : w.what.0 ≡ i = omega arith in
    (f.0, f.1, t, the_partner others s (λ u. GivenAt u (start + i) f.0) w, subst (λ (k : ℕ). slice_get t.state.given k ≡ Some f.0) index w.what.2)))

pub all_come : (others sessions : List Session) → AllWhole sessions → AllReceived others sessions
    → AllByRecursion (λ (s : Session). ComesFrom (partner_among others s.state.isn s.state.peer_isn) (s.state.taken ++ ready s.state)) sessions
all_come others [] whole from = tt
all_come others (s ∷ rest) whole from = (comes others s.state whole.0 from.0, all_come others rest whole.1 from.1)

-- ---- the end of the stream

pub whole_prefix : (xs ys : List ℕ) → IsPrefixOf xs ys → length xs ≡ length ys → xs ≡ ys
whole_prefix xs ys ([], e) same = sym (append-nil xs) ∙ e
whole_prefix xs ys (r ∷ rest, e) same =
    let more = length-append xs (r ∷ rest) in
    let len : length (xs ++ r ∷ rest) ≡ length ys = ap length e in
    absurd (omega arith)

ended_is : (o : Option Session) (t : Session) (bytes : List ℕ) → o ≡ Some t → t.state.closing ≡ true → length bytes ≡ length t.state.given → ComesFrom o bytes → IsWhole o bytes
ended_is None t bytes is closing len comes = absurd (cc)
ended_is (Some u) t bytes is closing len comes =
    let same = some_is u t is in
    let len_u : length bytes ≡ length u.state.given = subst (λ (v : Session). length bytes ≡ length v.state.given) (sym same) len in
    (subst (λ (v : Session). v.state.closing ≡ true) (sym same) closing, whole_prefix bytes u.state.given comes len_u)

none_ready : (s : EndState) → ready_count s ≡ 0 → ready s ≡ []
unfolding ready
none_ready s e = ap (bytes_from s.received (ready_at s)) e

pub ends : (others : List Session) (s : EndState) → Whole s → Received others s → at_end s ≡ true → IsWhole (partner_among others s.isn s.peer_isn) s.taken
ends others s h from e =
    let t2 = and_tells (passed_fin s.fin s.expected) (ready_count s == 0) e in
    let k = past_fin_known s.fin s.expected t2.0 in
    let f = k.0 in
    let past = k.2 in
    let high = h.stream.fin_high f k.1 in
    let w = from.fins f k.1 in
    let t = w.session in
    let isn : t.state.isn ≡ w.peer = find_isn others w.peer t w.found in
    let begin : first s.peer_isn ≡ w.peer + 1 = ap first w.knows in
    let at = w.what.1 in
    let taken_all : s.taken ++ ready s ≡ s.taken = ap (λ l. s.taken ++ l) (none_ready s (eqb_is (ready_count s) 0 t2.1)) ∙ append-nil s.taken in
    let stop : below_limit s.fin s.expected ≡ min f s.expected = ap (λ o. below_limit o s.expected) k.1 in
    let len : length s.taken ≡ below_limit s.fin s.expected - first s.peer_isn =
    ap length (sym taken_all ∙ all_bytes s h) ∙ length-bytes_from s.received (first s.peer_isn) (below_limit s.fin s.expected - first s.peer_isn) in
    ended_is (partner_among others s.isn s.peer_isn) t s.taken (the_partner others s (λ u. FinMade u f) w) w.what.0 (omega arith)
    (subst (λ (l : List ℕ). ComesFrom (partner_among others s.isn s.peer_isn) l) taken_all (comes others s h from))

all_end : (others sessions : List Session) → AllWhole sessions → AllReceived others sessions
    → AllByRecursion (λ (s : Session). at_end s.state ≡ true → IsWhole (partner_among others s.state.isn s.state.peer_isn) s.state.taken) sessions
all_end others [] whole from = tt
all_end others (s ∷ rest) whole from = (ends others s.state whole.0 from.0, all_end others rest whole.1 from.1)

-- ---- acknowledgement

pub acked_by : (o : Option Session) (s : EndState) (t : Session) → o ≡ Some t → s.una ≤ t.state.expected → AckedBy o s
acked_by None s t is h = absurd (cc)
acked_by (Some v) s t is h = inr (subst (λ (k : Session). s.una ≤ k.state.expected) (sym (some_is v t is)) h)

pub low_by : (o : Option Session) (s : EndState) → s.una ≤ s.isn + 1 → AckedBy o s
low_by None s h = h
low_by (Some v) s h = inl h

all_acked : (others sessions : List Session) → AllAcked others sessions → AllByRecursion (λ (s : Session). AckedBy (partner_among others s.state.isn s.state.peer_isn) s.state) sessions
all_acked others [] h = tt
all_acked others (s ∷ rest) h = (
  ⊎_elim (λ (x : s.state.una ≤ s.state.isn + 1). low_by (partner_among others s.state.isn s.state.peer_isn) s.state x)
      (λ (x : OfPartner others s.state (λ t. s.state.una ≤ t.expected)).
      acked_by (partner_among others s.state.isn s.state.peer_isn) s.state x.session (the_partner others s.state (λ t. s.state.una ≤ t.expected) x) x.what) h.0,
  all_acked others rest h.1,
)

-- ---- the laws

pub delivers_in_order : (setup : Setup) (fits : SetupFits setup) (events : List Event) → AllByRecursion EventFits events → DeliversInOrder (run setup events)
delivers_in_order setup fits events f none e =
    let w = run setup events in
    all_come (side w (other e)).sessions (side w e).sessions ((run_inv setup fits events f).whole e) ((run_heard setup fits events f).origin none e)

pub ends_whole : (setup : Setup) (fits : SetupFits setup) (events : List Event) → AllByRecursion EventFits events → EndsWhole (run setup events)
ends_whole setup fits events f none e =
    let w = run setup events in
    all_end (side w (other e)).sessions (side w e).sessions ((run_inv setup fits events f).whole e) ((run_heard setup fits events f).origin none e)

-- a session whose end was shown is at the end of its stream
pub all_shown : (others sessions : List Session) → AllShown sessions
    → AllByRecursion (λ (s : Session). at_end s.state ≡ true → IsWhole (partner_among others s.state.isn s.state.peer_isn) s.state.taken) sessions
    → AllByRecursion (λ (s : Session). s.end_shown ≡ true → IsWhole (partner_among others s.state.isn s.state.peer_isn) s.state.taken) sessions
all_shown others [] shown h = tt
all_shown others (s ∷ rest) shown h = (λ e. h.0 (shown.0 e), all_shown others rest shown.1 h.1)

pub shows_ends : (setup : Setup) (fits : SetupFits setup) (events : List Event) → AllByRecursion EventFits events → ShowsEnds (run setup events)
shows_ends setup fits events f none e =
    let w = run setup events in
    all_shown (side w (other e)).sessions (side w e).sessions ((run_inv setup fits events f).shown e) (ends_whole setup fits events f none e)

pub acknowledges : (setup : Setup) (fits : SetupFits setup) (events : List Event) → AllByRecursion EventFits events → Acknowledges (run setup events)
acknowledges setup fits events f none few e =
    let w = run setup events in all_acked (side w (other e)).sessions (side w e).sessions ((run_heard setup fits events f).acks none few e)

pub received_if : (o : Option Session) (s : EndState) → AckedBy o s → IsReceived o s
received_if None s low = λ i given. omega arith
received_if (Some t) s (inl low) = λ i given acked. absurd (omega arith)
received_if (Some t) s (inr up) = λ i given acked. omega arith

all_were_received : (others sessions : List Session) → AllByRecursion (λ (s : Session). AckedBy (partner_among others s.state.isn s.state.peer_isn) s.state) sessions
    → AllByRecursion (λ (s : Session). IsReceived (partner_among others s.state.isn s.state.peer_isn) s.state) sessions
all_were_received others [] h = tt
all_were_received others (s ∷ rest) h =
    (received_if (partner_among others s.state.isn s.state.peer_isn) s.state h.0, all_were_received others rest h.1)

pub acknowledged_was_received : (setup : Setup) (fits : SetupFits setup) (events : List Event) → AllByRecursion EventFits events → AcknowledgedWasReceived (run setup events)
acknowledged_was_received setup fits events f none few e =
    let w = run setup events in all_were_received (side w (other e)).sessions (side w e).sessions (acknowledges setup fits events f none few e)
