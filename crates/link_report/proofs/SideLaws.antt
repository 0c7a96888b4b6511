-- What an end that stands for its sessions says of them.
use Rattle.std.proofs.Common.{◌≡◌, ◌≢◌, ℕ, ◌==◌, Bool, true, false, ◌||◌, List, [], ◌∷◌, map, reverse, Option, Some, None, if◌then◌else◌}
use Rattle.std.proofs.Common.{refl, sym, ap, ◌∙◌, subst, arith}
use Rattle.std.specs.Prelude.{is_some}
use Rattle.std.specs.List.{list_any}
use Rattle.std.proofs.lemmas.Bool.Decides.{nat_tests}
use Rattle.std.proofs.lemmas.Grind.{reverse_onto}
use Rattle.std.proofs.lemmas.List.Folds.{list_any-append}
use Rattle.book_endpoint.specs.States.{EndState}
use Rattle.book_link.specs.Worlds.{Session, LinkSide as EndSide, find}
use Rattle.link_report.specs.declared.sessions.Ended.{Ended}
use Rattle.link_report.specs.declared.sessions.Live.{Live}
use Rattle.link_report.specs.declared.side.Side.{Side}
use Rattle.link_report.specs.Sides.{Facts, facts_of, kept_facts, Sessions, StandsSide}
use Rattle.link_report.proofs.ActLaws.{live_is}
use Rattle.tcp_endpoint.specs.Ends.{Stands}

is_some-if : (b : Bool) (s : Session) (o : Option Session) → is_some (if b then Some s else o) ≡ (b || is_some o)
is_some-if true s o = refl
is_some-if false s o = refl

is_some-find : (isn : ℕ) (older : List Session) → is_some (find older isn) ≡ list_any (λ f. f.isn == isn) (map facts_of older)
is_some-find isn [] = refl
is_some-find isn (s ∷ older) = is_some-if (s.state.isn == isn) s (find older isn) ∙ ap (λ o. (s.state.isn == isn) || o) (is_some-find isn older)

list_any-reverse : (p : Facts → Bool) (xs : List Facts) → list_any p (reverse xs) ≡ list_any p xs
list_any-reverse p [] = refl
list_any-reverse p (x ∷ xs) =
    rw (reverse_onto xs x []) (list_any-append p (reverse xs) (x ∷ []) ∙ ap (λ o. o || list_any p (x ∷ [])) (list_any-reverse p xs)
    ∙ flip (list_any p xs) (p x))
  where
    flip : (a b : Bool) → (a || (b || false)) ≡ (b || a)
    flip true true = refl
    flip true false = refl
    flip false true = refl
    flip false false = refl

list_any-kept : (isn : ℕ) (ds : List Ended) → list_any (λ f. f.isn == isn) (map kept_facts ds) ≡ list_any (λ d. d.isn == isn) ds
list_any-kept isn [] = refl
list_any-kept isn (d ∷ ds) = ap (λ o. (d.isn == isn) || o) (list_any-kept isn ds)

-- the older sessions have the numbers of those that were dropped
has_isn-dropped : (isn : ℕ) (ds : List Ended) (older : List Session) → map facts_of older ≡ reverse (map kept_facts ds)
    → is_some (find older isn) ≡ list_any (λ d. d.isn == isn) ds
has_isn-dropped isn ds older e =
    is_some-find isn older ∙ ap (list_any (λ f. f.isn == isn)) e ∙ list_any-reverse (λ f. f.isn == isn) (map kept_facts ds) ∙ list_any-kept isn ds

used_some : (l : Live) (ds : List Ended) (sessions : List Session) (isn : ℕ) → Sessions (Some l) ds sessions
    → ((l.endpoint.isn == isn) || list_any (λ d. d.isn == isn) ds) ≡ is_some (find sessions isn)
used_some l ds [] isn h = absurd h
used_some l ds (s ∷ older) isn h =
    let stands = h.0 in
    rw (is_some-if (s.state.isn == isn) s (find older isn), has_isn-dropped isn ds older h.2, stands.isn) refl

-- with a live session, its own and those of the dropped ones were
pub used_with : (d : Side) (m : EndSide) (isn : ℕ) (l : Live) → d.live ≡ Some l → StandsSide d m
    → ((l.endpoint.isn == isn) || list_any (λ d. d.isn == isn) d.dropped.items) ≡ is_some (find m.sessions isn)
used_with d m isn l some h = used_some l d.dropped.items m.sessions isn (subst (λ o. Sessions o d.dropped.items m.sessions) some h.sessions)

-- where the live session's number is another, those of the dropped ones are left
pub used_other : (d : Side) (m : EndSide) (isn r : ℕ) (l : Live) → d.live ≡ Some l → ((s : EndState) → Stands l.endpoint s → r ≡ s.isn) → r ≢ isn
    → StandsSide d m → list_any (λ d. d.isn == isn) d.dropped.items ≡ is_some (find m.sessions isn)
used_other d m isn r l some reads ne h =
    let k = live_is d m l some h in
    let same : l.endpoint.isn ≡ r = k.stands.isn ∙ sym (reads k.session.state k.stands) in
    let test : (l.endpoint.isn == isn) ≡ false = rw same (grind (arith, nat_tests)) in
    rw test at (used_with d m isn l some h)
