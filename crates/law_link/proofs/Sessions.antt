-- Sessions that are found by their number, and that grow.
use Rattle.std.proofs.Common.{◌≡◌, ℕ, ◌==◌, Bool, true, false, List, [], ◌∷◌, Option, Some, None, if◌then◌else◌, refl, sym, ap, ◌∙◌, subst, arith}
use Rattle.std.proofs.lemmas.Bool.Decides.{nat_tests}
use Rattle.book_base.specs.declared.end.End.{End}
use Rattle.book_base.specs.declared.end.End.TheVariants.{A, B}
use Rattle.book_segments.proofs.Fields.{eqb_is, some_is}
use Rattle.law_link.proofs.Sound.{Later, later_refl}
use Rattle.book_link.specs.Worlds.{Session, find, is_known, known_by, partner_among}
use Rattle.law_link.proofs.Invariant.{Grows}

pub both : (P : End → Type 0) → P A → P B → (e : End) → P e
both P a b A = a
both P a b B = b

pub grows_refl : (sessions : List Session) → Grows sessions sessions
grows_refl sessions isn t e = (t, e, later_refl t.state)

head_if : (s u : Session) (rest : List Session) (isn : ℕ) (t : Session) (b : Bool) → Later s.state u.state → (if b then Some s else find rest isn) ≡ Some t
    → (v : Session) × ((if b then Some u else find rest isn) ≡ Some v) × Later t.state v.state
head_if s u rest isn t true l e = (u, refl, subst (λ (x : Session). Later x.state u.state) (some_is s t e) l)
head_if s u rest isn t false l e = (t, e, later_refl t.state)

pub grows_head : (s u : Session) (rest : List Session) → Later s.state u.state → Grows (s ∷ rest) (u ∷ rest)
grows_head s u rest l isn t e =
    let r = head_if s u rest isn t (s.state.isn == isn) l e in
    (r.0, subst (λ (n : ℕ). (if n == isn then Some u else find rest isn) ≡ Some r.0) (sym l.same_isn) r.1, r.2)

pub new_if : (u : Session) (rest : List Session) (isn : ℕ) (t : Session) (b : Bool) → (u.state.isn == isn) ≡ b → find rest u.state.isn ≡ None → find rest isn ≡ Some t
    → (if b then Some u else find rest isn) ≡ Some t
new_if u rest isn t true h none e = let same : u.state.isn ≡ isn = eqb_is u.state.isn isn h in absurd (cc)
new_if u rest isn t false h none e = e

pub grows_new : (u : Session) (rest : List Session) → find rest u.state.isn ≡ None → Grows rest (u ∷ rest)
grows_new u rest none isn t e = (t, new_if u rest isn t (u.state.isn == isn) refl none e, later_refl t.state)

pub find_own : (u : Session) (rest : List Session) (b : Bool) → (u.state.isn == u.state.isn) ≡ b → (if b then Some u else find rest u.state.isn) ≡ Some u
find_own u rest true h = refl
find_own u rest false h = absurd (grind (arith, nat_tests))

-- a session that is found has that number
found_if : (s t : Session) (rest : List Session) (isn : ℕ) (b : Bool) → (s.state.isn == isn) ≡ b → (find rest isn ≡ Some t → t.state.isn ≡ isn) → (if b then Some s else find rest isn) ≡ Some t → t.state.isn ≡ isn
found_if s t rest isn true h more f = subst (λ (u : Session). u.state.isn ≡ isn) (some_is s t f) (eqb_is s.state.isn isn h)
found_if s t rest isn false h more f = more f

pub find_isn : (sessions : List Session) (isn : ℕ) (t : Session) → find sessions isn ≡ Some t → t.state.isn ≡ isn
find_isn [] isn t e = absurd (cc)
find_isn (s ∷ rest) isn t e = found_if s t rest isn (s.state.isn == isn) refl (λ f. find_isn rest isn t f) e

-- ---- partners

pub known_so : (o : Option ℕ) (isn : ℕ) → o ≡ Some isn → is_known o isn ≡ true
known_so None isn e = absurd (cc)
known_so (Some q) isn e = let same : q ≡ isn = some_is q isn e in grind (arith, nat_tests)

pub known_is : (o : Option ℕ) (isn : ℕ) → is_known o isn ≡ true → o ≡ Some isn
known_is None isn e = absurd (cc)
known_is (Some q) isn e = let same : q ≡ isn = eqb_is q isn e in ap (λ n. Some n) same

if_so : (t : Session) (b : Bool) → b ≡ true → (if b then Some t else None) ≡ Some t
if_so t true e = refl
if_so t false e = absurd (cc)

-- the session with the peer's number that knows the own number is the partner
pub partner_is : (sessions : List Session) (own : ℕ) (o : Option ℕ) (q : ℕ) (t : Session) → o ≡ Some q → find sessions q ≡ Some t → t.state.peer_isn ≡ Some own → partner_among sessions own o ≡ Some t
partner_is sessions own None q t e found back = absurd (cc)
partner_is sessions own (Some k) q t e found back =
    ap (λ n. known_by own (find sessions n)) (some_is k q e) ∙ ap (known_by own) found ∙ if_so t (is_known t.state.peer_isn own) (known_so t.state.peer_isn own back)
