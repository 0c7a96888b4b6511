-- The end of a stream, once it is reached, stays reached.
use Rattle.std.proofs.Common.{◌≡◌, ℕ, ◌<◌, ◌==◌, Bool, true, false, ◌&&◌, Option, Some, None, inl, inr, refl, sym, ap, ◌∙◌, arith}
use Rattle.std.proofs.lemmas.Bool.Decides.{nat_tests}
use Rattle.book_segments.specs.Received.{below_limit}
use Rattle.book_segments.proofs.Fields.{and_tells, eqb_is, lt_is}
use Rattle.book_endpoint.specs.States.{EndState, first, ready_count, passed_fin, at_end}
use Rattle.law_link.proofs.Sound.{Later}
use Rattle.law_link.proofs.Stream.{or_none}
use Rattle.law_link.proofs.Whole.{Whole}

pub past_fin_known : (o : Option ℕ) (x : ℕ) → passed_fin o x ≡ true → (f : ℕ) × (o ≡ Some f) × (f < x)
past_fin_known None x e = absurd (cc)
past_fin_known (Some f) x e = (f, refl, lt_is f x e)

past_fin_so : (o : Option ℕ) (f x : ℕ) → o ≡ Some f → f < x → passed_fin o x ≡ true
past_fin_so None f x e low = absurd (cc)
past_fin_so (Some g) f x e low = let same : g ≡ f = cc in grind (arith, nat_tests)

and_so : (a b : Bool) → a ≡ true → b ≡ true → (a && b) ≡ true
and_so true b e f = f
and_so false b e f = absurd (cc)

limit_at : (o : Option ℕ) (f x : ℕ) → o ≡ Some f → f < x → below_limit o x ≡ f
limit_at None f x e low = absurd (cc)
limit_at (Some g) f x e low = let same : g ≡ f = cc in omega arith

-- where a FIN is recorded, the peer's initial sequence number is known
pub peer_known : (s : EndState) (f : ℕ) → s.fin ≡ Some f → Whole s → (q : ℕ) × (s.peer_isn ≡ Some q)
peer_known s f fin h =
    elim (or_none s.peer_isn) [
      | inl none ↦ let no_fin = (h.stream.unknown none).1 in absurd (cc)
      | inr known ↦ known
    ]

pub at_end-later : (s t : EndState) → Whole s → Later s t → at_end s ≡ true → at_end t ≡ true
at_end-later s t h l e =
    let both = and_tells (passed_fin s.fin s.expected) (ready_count s == 0) e in
    let past = past_fin_known s.fin s.expected both.0 in
    let f = past.0 in
    let low = past.2 in
    let up = l.up in
    let took = l.took in
    let peer = peer_known s f past.1 h in
    let none = eqb_is (ready_count s) 0 both.1 in
    let old = limit_at s.fin f s.expected past.1 low in
    let fin : t.fin ≡ Some f = l.ended f past.1 in
    let new = limit_at t.fin f t.expected fin (omega arith) in
    let start : first t.peer_isn ≡ first s.peer_isn = ap first (l.peer peer.0 peer.1) ∙ sym (ap first peer.1) in
    let left : ready_count t ≡ 0 = omega arith in
    and_so (passed_fin t.fin t.expected) (ready_count t == 0) (past_fin_so t.fin f t.expected fin (omega arith)) (grind (arith, nat_tests))
