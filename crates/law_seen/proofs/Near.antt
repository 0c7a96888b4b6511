-- A segment's number is near the number expected, where no forgery is counted in the session and few bytes were given.
use Rattle.std.proofs.Common.{◌≡◌, ℕ, ◌+◌, ◌-◌, ◌≤◌, ◌<◌, ◌==◌, Bool, true, false, List, [], ◌∷◌, Option, Some, None, ◌⊎◌, inl, inr, ⊎_elim, if◌then◌else◌, refl, sym, ap, ◌∙◌, subst, arith}
use Rattle.std.specs.List.{AllByRecursion}
use Rattle.book_segments.proofs.Fields.{some_is}
use Rattle.book_segments.specs.Received.{below_limit}
use Rattle.book_endpoint.specs.States.{EndState, first}
use Rattle.book_link.specs.Worlds.{Session, find}
use Rattle.law_link.proofs.Received.{OfPartner, Received, stream_low}
use Rattle.law_link.proofs.Stream.{or_lt}
use Rattle.law_link.proofs.Whole.{Whole}

find_if : (P : Session → Type 0) (s t : Session) (o : Option Session) (b : Bool) → P s → (o ≡ Some t → P t) → (if b then Some s else o) ≡ Some t → P t
find_if P s t o true h more e = subst P (some_is s t e) h
find_if P s t o false h more e = more e

-- what holds of all sessions holds of one that is found
pub of_found : (P : Session → Type 0) (sessions : List Session) (isn : ℕ) (t : Session) → find sessions isn ≡ Some t → AllByRecursion P sessions → P t
of_found P [] isn t e h = absurd (cc)
of_found P (s ∷ rest) isn t e h = find_if P s t (find rest isn) (s.state.isn == isn) h.0 (λ f. of_found P rest isn t f h.1) e

-- the partner is the session with the number that is known
of_known : (others : List Session) (r : EndState) (P : EndState → Type 0) (peer : ℕ) (t : Session) → OfPartner others r P → r.peer_isn ≡ Some peer → find others peer ≡ Some t → P t.state
of_known others r P peer t o known found =
    let same : o.peer ≡ peer = some_is o.peer peer (sym o.knows ∙ known) in
    let is : o.session ≡ t = some_is o.session t (sym o.found ∙ (ap (find others) same ∙ found)) in
    subst (λ (x : Session). P x.state) is o.what

-- no more is expected than the partner sent, but for its SYN
pub expected_high : (others : List Session) (r : EndState) (peer : ℕ) (t : Session) → Whole r → Received others r → r.peer_isn ≡ Some peer → find others peer ≡ Some t → (r.expected ≤ peer + 1) ⊎ (r.expected ≤ t.state.next)
expected_high others r peer t whole h known found = by_fin r.fin refl
  where
    by_fin : (o : Option ℕ) → r.fin ≡ o → (r.expected ≤ peer + 1) ⊎ (r.expected ≤ t.state.next)
    by_fin (Some f) is =
        let top = whole.stream.fin_high f is in
        let gone = of_known others r (λ u. f < u.next) peer t (h.gone f is) known found in
        inr (omega arith)
    by_fin None is =
        ⊎_elim
        (λ (high : peer + 1 < r.expected).
        let begin : first r.peer_isn ≡ peer + 1 = ap first known in
        let limit : below_limit r.fin r.expected ≡ r.expected = ap (λ o. below_limit o r.expected) is in
        let one = whole.stream.filled (r.expected - 1) (omega arith) (omega arith) in
        let sent = of_known others r (λ u. r.expected - 1 < u.next) peer t (h.sent (r.expected - 1) one.0 one.1) known found in
        inr (omega arith)) (λ (low : r.expected ≤ peer + 1). inl low) (or_lt (peer + 1) r.expected)

pub expected_low : (r : EndState) (peer : ℕ) → Whole r → r.peer_isn ≡ Some peer → peer + 1 ≤ r.expected
expected_low r peer whole known =
    let low = stream_low r.peer_isn r.taken r.received r.fin r.expected whole.stream in
    let begin : first r.peer_isn ≡ peer + 1 = ap first known in
    omega arith
